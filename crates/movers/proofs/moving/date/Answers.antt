-- `movers::moving::date` meets its contract: each answer is a case of the call.
use mathlib.Core.Path.{sym, ◌∙◌}
use Rattle.std.proofs.lemmas.Result.{err_from_is_err_and}
use Rattle.table.specs.declared.Refusal.TheVariants.{Frame}
use Rattle.dates.proofs.Outcomes.{date_other, date_refused, date_moves, ends_refused}
use Rattle.movers.proofs.moving.date.Goals as goal

pub returns-then-is_dated : goal.returns-then-is_dated
returns-then-is_dated c =
    let a = c.args in
    ends_refused _ a.out.now Frame (date_other a.image.now a.out.now (sym c.is_dated.ensures ∙ c.if-is_dated.true))

pub returns-in_err-check : goal.returns-in_err-check
returns-in_err-check c =
    let a = c.args in
    let p = err_from_is_err_and c.from_residual.result c.from_residual.ensures.1 in
    rw (p.1, p.2)
    (ends_refused _ a.out.now _
    (date_refused a.image.now a.out.now _ (sym c.is_dated.ensures ∙ c.if-is_dated.false) (sym c.in_err-check.ensures.is)))

pub move_image-requires : goal.move_image-requires
move_image-requires c = record { located = c.locate.ensures.is; accepted = sym c.in_ok-check.ensures.is }

pub returns : goal.returns
returns c =
    let a = c.args in
    rw (date_moves a.image.now a.out.now (sym c.is_dated.ensures ∙ c.if-is_dated.false) (sym c.in_ok-check.ensures.is)) c.move_image.ensures
