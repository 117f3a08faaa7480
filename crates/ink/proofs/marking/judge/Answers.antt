-- `ink::marking::judge` meets its contract: it stops at the first character that has no mark.
use mathlib.Core.Path.{sym, ◌∙◌, ap}
use Rattle.inkprint.specs.inside.Steps.{judged_as}
use Rattle.inkprint.proofs.Walk.{judge_starts, judge_on, judge_stops, judge_ends}
use Rattle.ink.proofs.marking.judge.Goals as goal

pub loop-c-init : goal.loop-c-init
loop-c-init c = judge_starts _

pub returns-then-not-has_mark : goal.returns-then-not-has_mark
returns-then-not-has_mark c =
    sym (ap judged_as (judge_stops c.in-Some.ensures (sym c.has_mark.ensures ∙ c.if-not-has_mark.true) c.loop-c.invariant))

pub loop-c-preserved : goal.loop-c-preserved
loop-c-preserved c = judge_on c.in-Some.ensures (sym c.has_mark.ensures ∙ c.if-not-has_mark.false) c.loop-c.invariant

pub returns : goal.returns
returns c = sym (ap judged_as (judge_ends c.in_default.ensures c.loop-c.invariant))
