-- `pages::Gathering::step` meets its contract: a sign that ends a word, the cell that tells that the word is cut, a cell that waits.
use Prim.Native.Nat.{ℕ, ◌^◌}
use mathlib.Core.Path.{sym, ◌∙◌, ap}
use native.Mathlib.Omega.{arith}
use borrow.Author.Tests.{eq-eqb, ne_eqb}
use Rattle.pages.specs.Place.{after_word}
use Rattle.pages.specs.inside.Gather.{after_format, cells_held, stepped}
use Rattle.pages.specs.declared.Gathering.{Gathering}
use Rattle.pages.specs.declared.Place.{Place}
use Rattle.pages.proofs.Moves as Moves
use Rattle.pages.proofs.Gather as Gather
use Rattle.pages.proofs.Gathering.step.Goals as goal

waits : Place → ℕ → Gathering
waits q n = record { place = q; cells = n }

pub format-place-requires : goal.format-place-requires
format-place-requires c =
    let a = c.args in
    let pre = c.requires in
    rw c.flushed.ensures (Moves.modest_more (omega arith) (Gather.modest_flush a.sheet (2 ^ 31) a.self.cells a.self.place pre.0))

pub returns-then-ends_word : goal.returns-then-ends_word
unfolding stepped waits
returns-then-ends_word c =
    let a = c.args in
    rw (sym c.ends_word.ensures ∙ c.if-ends_word.true)
    (ap (λ (q : Place). waits q 0) (c.format-place.ensures ∙ ap (λ (q : Place). after_format a.sheet q a.sign) c.flushed.ensures))

pub returns-then-cells-sheet : goal.returns-then-cells-sheet
unfolding stepped waits
returns-then-cells-sheet c =
    let a = c.args in
    rw (sym c.ends_word.ensures ∙ c.if-ends_word.false, eq-eqb a.self.cells a.sheet.width c.if-cells-sheet.true)
    (ap (λ (q : Place). waits q cells_held) (c.word-place.ensures ∙ ap (λ (n : ℕ). after_word a.sheet a.self.place n) c.if-cells-sheet.true))

pub returns-else-cells-sheet : goal.returns-else-cells-sheet
unfolding stepped
returns-else-cells-sheet c =
    let a = c.args in
    rw (sym c.ends_word.ensures ∙ c.if-ends_word.false, ne_eqb a.self.cells a.sheet.width c.if-cells-sheet.false)
