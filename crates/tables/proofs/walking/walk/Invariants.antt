-- `tables::walking::walk` meets its contract. The loop's invariant: the bytes so far are written at the front where there is room, and the text reads as the
-- lines from `at` on do, from the draft so far and these bytes. The measure is what is left of the text.
use Prim.Native.Nat.{◌+◌, ◌-◌}
use mathlib.Core.Path.{◌≡◌}
use lib.ListN.{length}
use Rattle.tables.proofs.Walk.{Walking}
use Rattle.tables.proofs.walking.walk.Given as goal

abbrev pub invariant-loop-at : goal.invariant-loop-at
invariant-loop-at l = Walking l.text l.initial.out l.out l.so_far l.at l.to × (length l.out ≡ length l.initial.out)

abbrev pub decreases-loop-at : goal.decreases-loop-at
decreases-loop-at l = length l.text + 1 - l.at
