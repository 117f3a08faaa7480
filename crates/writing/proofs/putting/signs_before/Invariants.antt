-- `writing::putting::signs_before` meets its contract. The loop's invariant: none of the first j signs is 99, and the rest is counted from there.
use Prim.Native.Nat.{◌+◌, ◌-◌}
use mathlib.Core.Path.{◌≡◌}
use Rattle.form.specs.Showing.{signs_before}
use Rattle.writing.proofs.putting.signs_before.Given as goal

abbrev pub invariant-loop-j : goal.invariant-loop-j
invariant-loop-j l = signs_before l.bytes l.from 4 ≡ l.j + signs_before l.bytes (l.from + l.j) (4 - l.j)
