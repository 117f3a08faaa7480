-- `movers::moving::undate` meets its contract: each answer is a case of the call.
use mathlib.Core.Path.{sym, ◌∙◌}
use Rattle.std.proofs.lemmas.Result.{err_from_is_err_and}
use Rattle.table.proofs.Search.{found_at, found_nothing}
use Rattle.table.specs.declared.Refusal.TheVariants.{Frame}
use Rattle.dates.proofs.Outcomes.{undate_other, undate_refused, undate_dated_by, undate_moves_by, ends_refused}
use Rattle.movers.proofs.moving.undate.Goals as goal

pub returns-then-not-is_dated : goal.returns-then-not-is_dated
returns-then-not-is_dated c =
    let a = c.args in
    ends_refused _ a.out.now Frame (undate_other a.image.now a.out.now (sym c.is_dated.ensures ∙ c.if-not-is_dated.true))

pub returns-in_err-check : goal.returns-in_err-check
returns-in_err-check c =
    let a = c.args in
    let p = err_from_is_err_and c.from_residual.result c.from_residual.ensures.1 in
    rw (p.1, p.2)
    (ends_refused _ a.out.now _
    (undate_refused a.image.now a.out.now _ (sym c.is_dated.ensures ∙ c.if-not-is_dated.false) (sym c.in_err-check.ensures.is)))

pub returns-in-Some : goal.returns-in-Some
returns-in-Some c =
    let a = c.args in
    let told = sym c.first_dated.ensures ∙ c.in-Some.is in
    rw c.offset_of.ensures.is
    (ends_refused _ a.out.now _
    (undate_dated_by a.image.now a.out.now c.locate-s.result c.in-Some.k c.locate-s.ensures.is
    (sym c.is_dated.ensures ∙ c.if-not-is_dated.false) (sym c.in_ok-check.ensures.is) (found_at _ _ told)))

pub move_image-requires : goal.move_image-requires
move_image-requires c = record { located = c.locate-s.ensures.is; accepted = sym c.in_ok-check.ensures.is }

pub returns : goal.returns
returns c =
    let a = c.args in
    let told = sym c.first_dated.ensures ∙ c.in_default.is in
    rw
    (undate_moves_by a.image.now a.out.now c.locate-s.result c.locate-s.ensures.is
    (sym c.is_dated.ensures ∙ c.if-not-is_dated.false) (sym c.in_ok-check.ensures.is) (found_nothing _ told))
    c.move_image.ensures
