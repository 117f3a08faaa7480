-- `tables::making::line_at` meets its contract. The loop's invariant: `n` is the line of the place so far, and no more than one more than it.
use Prim.Native.Nat.{suc, ◌≤◌}
use mathlib.Core.Path.{◌≡◌}
use Rattle.form.specs.Reading.{line_at}
use Rattle.tables.proofs.making.line_at.Given as goal

abbrev pub invariant-loop-c : goal.invariant-loop-c
invariant-loop-c l = (l.n ≤ suc l.c-index) × (l.n ≡ line_at l.c-items l.c-index)
