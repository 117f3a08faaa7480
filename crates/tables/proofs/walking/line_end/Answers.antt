-- `tables::walking::line_end` meets its contract. The loop's invariant: the line that starts at `at` ends where one that starts here does.
use mathlib.Core.Path.{◌≡◌, sym, ◌∙◌}
use native.Mathlib.Omega.{arith}
use lib.ListN.{length}
use Rattle.tables.proofs.Lines.{end_here, end_on, end_over}
use Rattle.tables.proofs.walking.line_end.Goals as goal

pub returns-then-text-i-eq10 : goal.returns-then-text-i-eq10
returns-then-text-i-eq10 c =
    let l = c.loop-i in
    (omega arith, omega arith, sym (l.invariant ∙ end_here c.args.text.now l.i (omega arith) c.if-text-i-eq10.true))

pub loop-i-preserved : goal.loop-i-preserved
loop-i-preserved c = let l = c.loop-i in l.invariant ∙ end_on c.args.text.now l.i (omega arith) c.if-text-i-eq10.false

pub returns : goal.returns
returns c =
    let l = c.loop-i in
    let end : l.i ≡ length c.args.text.now = omega arith in
    (omega arith, omega arith, sym (l.invariant ∙ end_over c.args.text.now l.i (omega arith) ∙ end))
