-- `ink::marking::put` meets its contract: as many bytes are stored as the mark has, and none where there is no room for them all.
use native.Mathlib.Omega.{arith}
use lib.ListN.{length-set}
use Rattle.inkprint.proofs.Walk.{puts_short, puts_none, puts_one, puts_two, puts_three, puts_four}
use Rattle.ink.proofs.marking.put.Goals as goal
use Rattle.ink.proofs.marking.put.Goals.{then-count-eq0-via-then-count-eq0, then-count-eq0-via-else-count-eq0+then-out-at}

pub returns-then-count-eq0 : goal.returns-then-count-eq0
returns-then-count-eq0 c =
    elim c.then-count-eq0.branch [
      | then-count-eq0-via-then-count-eq0 w ↦ puts_none _ _ _ c.requires.small w.if-count-eq0.true
      | then-count-eq0-via-else-count-eq0+then-out-at w ↦ puts_short _ _ _ c.requires.small w.if-out-at.true
    ]

pub returns-then-count-eq1 : goal.returns-then-count-eq1
returns-then-count-eq1 c = puts_one _ _ _ c.requires.small c.if-count-eq1.true

pub bounds-out-at-2 : goal.bounds-out-at-2
bounds-out-at-2 c = simp length-set (omega arith)

pub returns-then-count-eq2 : goal.returns-then-count-eq2
returns-then-count-eq2 c = puts_two _ _ _ c.requires.small c.if-count-eq2.true

pub bounds-out-at-3 : goal.bounds-out-at-3
bounds-out-at-3 c = simp length-set (omega arith)

pub returns-then-count-eq3 : goal.returns-then-count-eq3
returns-then-count-eq3 c = puts_three _ _ _ c.requires.small c.if-count-eq3.true

pub bounds-out-at-4 : goal.bounds-out-at-4
bounds-out-at-4 c = simp length-set (omega arith)

pub returns : goal.returns
returns c = let most = c.requires.small.count in puts_four _ _ _ c.requires.small (omega arith)
