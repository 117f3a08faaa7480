-- `judge::judging::verdict_on` meets its contract: each way out is a check that refuses, after those before it passed, or the last one's answer.
use Rattle.std.proofs.Common.{Some, None, Err, ◌≡◌, ◌∙◌, sym, ap, subst, arith}
use Rattle.std.proofs.lemmas.Result.{err_from_is_err_and}
use Rattle.table.specs.declared.Refusal.TheVariants.{Frame}
use Rattle.framing.specs.Promises.{Framed}
use Rattle.records.specs.Promises.{RecordsJudged}
use Rattle.judge.proofs.VerdictSteps.{frame_refused, record_refused, records_passed}
use Rattle.judge.proofs.judging.verdict_on.Goals as goal
use Rattle.judge.proofs.judging.verdict_on.Goals.{In_ok-s}

framed : (c : In_ok-s) → Framed c.args.image.now (Some c.in_ok-s.s)
framed c =
    let w = c.in_ok-s.ensures.value in
    let e : c.args.found ≡ Some c.in_ok-s.s = grind arith in
    subst (Framed c.args.image.now) e c.requires

pub returns-in_err-s : goal.returns-in_err-s
returns-in_err-s c =
    let p = err_from_is_err_and c.from_residual.result c.from_residual.ensures.1 in
    let v = c.in_err-s.ensures.value in
    let e : c.args.found ≡ None = grind arith in
    let why : c.in_err-s.field-0.0 ≡ Frame = grind arith in
    record { is = rw (p.1, p.2, why) (sym (frame_refused c.args.image.now (subst (Framed c.args.image.now) e c.requires))) }

pub returns-in-Ok : goal.returns-in-Ok
returns-in-Ok c =
    let right = subst (RecordsJudged c.args.image.now) c.in-Ok.is c.judge_records.ensures in
    record { is = c.judge_grouping.ensures ∙ sym (records_passed c.args.image.now c.in_ok-s.s (framed (goal.at.returns-in-Ok c).In_ok-s) right) }

pub returns-in-Err : goal.returns-in-Err
returns-in-Err c =
    let wrong = subst (RecordsJudged c.args.image.now) c.in-Err.is c.judge_records.ensures in
    record { is = ap (λ r. Err r) c.refusal_of.ensures ∙ sym (record_refused c.args.image.now c.in_ok-s.s c.in-Err.fault (framed (goal.at.returns-in-Err c).In_ok-s) wrong) }
