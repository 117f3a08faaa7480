-- `form::wording::gap_end` meets its contract. The loop's invariant: what is left after the gap from here on is what is left after the whole gap.
use mathlib.Core.Path.{sym, ◌∙◌}
use native.Mathlib.Omega.{arith}
use Rattle.form.proofs.Words.{past, gap_over, gap_more, gap_stops}
use Rattle.form.proofs.wording.gap_end.Goals as goal

pub returns-then-not-is_gap : goal.returns-then-not-is_gap
returns-then-not-is_gap c =
    let l = c.loop-i in
    (sym (gap_stops c.args.line.now l.i (omega arith) (sym c.if-not-is_gap.ensures)) ∙ l.invariant, omega arith)

pub loop-i-preserved : goal.loop-i-preserved
loop-i-preserved c =
    let l = c.loop-i in
    sym (gap_more c.args.line.now l.i (omega arith) (sym c.if-not-is_gap.ensures)) ∙ l.invariant

pub returns : goal.returns
returns c =
    let l = c.loop-i in
    let line = c.args.line.now in
    (sym (sym l.invariant ∙ gap_over line l.i (omega arith) ∙ past line l.i (omega arith)), omega arith)
