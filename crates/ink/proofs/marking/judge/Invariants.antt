-- `ink::marking::judge` meets its contract. The loop's invariant: every character before what is left has a mark, so that the marking of the text is that of what
-- is left, after some marked text.
use lib.ListN.{length}
use Rattle.inkprint.proofs.Walk.{Judges}
use Rattle.ink.proofs.marking.judge.Given as goal

abbrev pub invariant-loop-c : goal.invariant-loop-c
invariant-loop-c l = Judges l.text l.left

abbrev pub decreases-loop-c : goal.decreases-loop-c
decreases-loop-c l = length l.left
