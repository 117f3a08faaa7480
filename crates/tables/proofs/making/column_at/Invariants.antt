-- `tables::making::column_at` meets its contract. The loop's invariant: `n` is the column of the place so far, and no more than one more than it.
use Prim.Native.Nat.{suc, ◌≤◌}
use mathlib.Core.Path.{◌≡◌}
use lib.ListN.{take}
use Rattle.form.specs.Reading.{since_feed}
use Rattle.tables.proofs.making.column_at.Given as goal

abbrev pub invariant-loop-c : goal.invariant-loop-c
invariant-loop-c l = (l.n ≤ suc l.c-index) × (l.n ≡ suc (since_feed 0 (take l.c-index l.c-items)))
