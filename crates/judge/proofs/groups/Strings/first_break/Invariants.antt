-- `Strings::first_break` meets its contract. The invariant: no record before `r` breaks the grouping.
use Rattle.std.proofs.Common.{ℕ, ◌<◌, false, ◌≡◌}
use Rattle.judge.specs.inside.Groups.{strings_by}
use Rattle.table.specs.Grouping.{breaks_at}
use Rattle.judge.proofs.groups.Strings.first_break.Given as goal

abbrev pub invariant-loop-r : goal.invariant-loop-r
invariant-loop-r l = (k : ℕ) → k < l.r → breaks_at (strings_by l.self) k ≡ false
