-- `pages::Place::word` meets its contract: on an empty line, joining, or on the next line, as the laws of the moves have it.
use Prim.Native.Nat.{ℕ, ◌^◌, ◌<◌}
use mathlib.Core.Path.{sym, ◌∙◌, ap}
use native.Mathlib.Omega.{arith}
use Rattle.pages.specs.Place.{after_cells, opening_blanks}
use Rattle.pages.specs.declared.Place.{Place}
use Rattle.pages.proofs.Moves as Moves
use Rattle.pages.proofs.Place.word.Goals as goal

pub cells-requires : goal.cells-requires
cells-requires c =
    let a = c.args in
    let o = Moves.opening_at_most a.sheet a.self a.n in
    let e = c.opening_blanks.ensures in
    (Moves.modest_more (omega arith) c.requires.0, omega arith, c.requires.1)

pub returns-then-self-eq0 : goal.returns-then-self-eq0
returns-then-self-eq0 c =
    let a = c.args in
    c.cells.ensures ∙ ap (λ (b : ℕ). after_cells a.self b a.n) c.opening_blanks.ensures
    ∙ sym (Moves.word_starts a.sheet a.self a.n c.if-self-eq0.true)

pub returns-then-self-n : goal.returns-then-self-n
returns-then-self-n c =
    let a = c.args in
    let held : 0 < a.self.column = omega arith in
    c.cells-then-self-n.ensures ∙ sym (Moves.word_joins a.sheet a.self a.n held c.if-self-n.true)

pub cells-requires-2 : goal.cells-requires-2
cells-requires-2 c =
    let a = c.args in
    let q = c.line_done-next.ensures in
    let o = Moves.opening_at_most a.sheet c.line_done-next.result a.n in
    let e = c.opening_blanks-2.ensures in
    let pre = c.requires in
    (rw q (Moves.modest_more (omega arith) (Moves.modest_line a.sheet (2 ^ 32) a.self pre.0)), omega arith, pre.1)

pub returns : goal.returns
returns c =
    let a = c.args in
    let q = c.line_done-next.ensures in
    let held : 0 < a.self.column = omega arith in
    c.cells-2.ensures
    ∙ ap (λ (b : ℕ). after_cells c.line_done-next.result b a.n) c.opening_blanks-2.ensures
    ∙ ap (λ (p : Place). after_cells p (opening_blanks a.sheet p a.n) a.n) q
    ∙ sym (Moves.word_overflows a.sheet a.self a.n held (omega arith))
