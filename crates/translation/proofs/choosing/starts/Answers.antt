-- `translation::choosing::starts` meets its contract. The loop's invariant: what is left of the string from `i` on begins what is left of the rest just
-- where the string begins the rest.
use mathlib.Core.Path.{sym, ◌∙◌}
use native.Mathlib.Omega.{arith}
use Rattle.translation.proofs.Rests.{begins_shorter, begins_agrees, begins_differs_at, begins_end}
use Rattle.translation.proofs.choosing.starts.Goals as goal

pub returns-then-rest-string : goal.returns-then-rest-string
returns-then-rest-string c = sym (begins_shorter _ _ c.if-rest-string.true)

pub returns-then-c-rest : goal.returns-then-c-rest
returns-then-c-rest c =
    let l = c.loop-i in
    sym (begins_differs_at _ _ l.i (omega arith) (omega arith) c.if-c-rest.true) ∙ l.invariant

pub loop-i-preserved : goal.loop-i-preserved
loop-i-preserved c =
    let l = c.loop-i in
    sym (begins_agrees _ _ l.i (omega arith) (omega arith) c.if-c-rest.false) ∙ l.invariant

pub returns : goal.returns
returns c = sym (begins_end _ _ c.loop-i.i (omega arith)) ∙ c.loop-i.invariant
