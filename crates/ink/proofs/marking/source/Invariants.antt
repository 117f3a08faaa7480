-- `ink::marking::source` meets its contract. The loop's invariant: the byte's source is that of byte `ahead` of what is marked from here on.
use lib.ListN.{length}
use Rattle.inkprint.proofs.Walk.{Seeks}
use Rattle.ink.proofs.marking.source.Given as goal

abbrev pub invariant-loop-c : goal.invariant-loop-c
invariant-loop-c l = Seeks l.text l.n l.s l.left l.ahead

abbrev pub decreases-loop-c : goal.decreases-loop-c
decreases-loop-c l = length l.left
