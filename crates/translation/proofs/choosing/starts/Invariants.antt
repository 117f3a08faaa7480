-- `translation::choosing::starts` meets its contract. The loop's invariant: what is left of the string from `i` on begins what is left of the rest just
-- where the string begins the rest.
use mathlib.Core.Path.{◌≡◌}
use lib.ListN.{drop}
use Rattle.translation.specs.Choose.{begins}
use Rattle.translation.proofs.choosing.starts.Given as goal

abbrev pub invariant-loop-i : goal.invariant-loop-i
invariant-loop-i l = begins (drop l.i l.string) (drop l.i l.rest) ≡ begins l.string l.rest
