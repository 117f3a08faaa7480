-- `ink::marking::walk` meets its contract. The loop's invariant: what is marked so far has `to` bytes and stands at the front of the output where there is room for
-- it, and the whole marking is that of what is left, after it.
use mathlib.Core.Path.{◌≡◌}
use lib.ListN.{length}
use Rattle.inkprint.proofs.Walk.{Walks}
use Rattle.ink.proofs.marking.walk.Given as goal

abbrev pub invariant-loop-c : goal.invariant-loop-c
invariant-loop-c l = (length l.out ≡ length l.initial.out) × Walks l.text l.s l.left l.to l.initial.out l.out

abbrev pub decreases-loop-c : goal.decreases-loop-c
decreases-loop-c l = length l.left
