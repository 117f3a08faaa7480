-- `tables::modest::ModestDraft::line_of` meets its contract: the tests are those of the definition, in its order, and the fields begin after the word, which is within the line.
use Prim.Native.Nat.{ℕ, ◌+◌}
use mathlib.Core.Path.{refl, sym, ◌∙◌, ap}
use lib.ListN.{length}
use Rattle.std.proofs.lemmas.Result.{err_from_is_err_and}
use Rattle.form.specs.Reading.{ended, line_of}
use Rattle.tables.proofs.OneLine.{line_fields, ended_says, ended_unlike}
use Rattle.tables.proofs.modest.ModestDraft.line_of.Goals as goal

pub returns-then-not-in_order : goal.returns-then-not-in_order
unfolding line_of
returns-then-not-in_order c =
    let h = sym c.in_order.ensures ∙ c.if-not-in_order.true in
    (rw (h, line_of) refl, c.requires.0)

pub returns-then-not-has_room : goal.returns-then-not-has_room
unfolding line_of
returns-then-not-has_room c =
    let order = sym c.in_order.ensures ∙ c.if-not-in_order.false in
    let h = sym c.has_room.ensures ∙ c.if-not-has_room.true in
    (rw (order, h, line_of) refl, c.requires.0)

pub returns-in_err-next : goal.returns-in_err-next
unfolding ended
returns-in_err-next c =
    let a = c.args in
    let order = sym c.in_order.ensures ∙ c.if-not-in_order.false in
    let room = sym c.has_room.ensures ∙ c.if-not-has_room.false in
    let from = ap (λ (n : ℕ). a.at + n) (ap length c.word.ensures) in
    let p = err_from_is_err_and c.from_residual.result c.from_residual.ensures.1 in
    rw (p.1, p.2) (sym (line_fields a.self.draft a.keyword a.line.now a.at _ _ order room a.self.modest from c.in_err-next.ensures.reads), c.in_err-next.ensures.within)

pub returns-then-ends_line : goal.returns-then-ends_line
returns-then-ends_line c =
    let a = c.args in
    let order = sym c.in_order.ensures ∙ c.if-not-in_order.false in
    let room = sym c.has_room.ensures ∙ c.if-not-has_room.false in
    let from = ap (λ (n : ℕ). a.at + n) (ap length c.word.ensures) in
    let ends = sym c.ends_line.ensures ∙ c.if-ends_line.true in
    (sym (line_fields a.self.draft a.keyword a.line.now a.at _ _ order room a.self.modest from c.in_ok-next.ensures.reads ∙ ended_says _ _ _ _ c.gap_end-end.ensures.0 ends), tt)

pub returns-else-ends_line : goal.returns-else-ends_line
returns-else-ends_line c =
    let a = c.args in
    let order = sym c.in_order.ensures ∙ c.if-not-in_order.false in
    let room = sym c.has_room.ensures ∙ c.if-not-has_room.false in
    let from = ap (λ (n : ℕ). a.at + n) (ap length c.word.ensures) in
    let ends = sym c.ends_line.ensures ∙ c.if-ends_line.false in
    (sym (line_fields a.self.draft a.keyword a.line.now a.at _ _ order room a.self.modest from c.in_ok-next.ensures.reads ∙ ended_unlike _ _ _ _ c.gap_end-end.ensures.0 ends), c.gap_end-end.ensures.1)
