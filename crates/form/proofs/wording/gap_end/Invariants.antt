-- `form::wording::gap_end` meets its contract. The loop's invariant: what is left after the gap from here on is what is left after the whole gap.
use mathlib.Core.Path.{◌≡◌}
use lib.ListN.{drop}
use Rattle.form.specs.Words.{after_gap}
use Rattle.form.proofs.wording.gap_end.Given as goal

abbrev pub invariant-loop-i : goal.invariant-loop-i
invariant-loop-i l = after_gap (drop l.i l.line) ≡ after_gap (drop l.at l.line)
