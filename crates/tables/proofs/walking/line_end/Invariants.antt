-- `tables::walking::line_end` meets its contract. The loop's invariant: the line that starts at `at` ends where one that starts here does.
use mathlib.Core.Path.{◌≡◌}
use Rattle.tables.specs.inside.Lines.{line_end}
use Rattle.tables.proofs.walking.line_end.Given as goal

abbrev pub invariant-loop-i : goal.invariant-loop-i
invariant-loop-i l = line_end l.text l.at ≡ line_end l.text l.i
