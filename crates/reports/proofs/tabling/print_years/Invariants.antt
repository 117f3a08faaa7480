use Rattle.std.proofs.Common.{◌-◌, Option, Some, None, ℕ}
use Rattle.reports.proofs.tabling.print_years.Given as goal

abbrev years_left : Option ℕ → ℕ
years_left None = 0
years_left (Some year) = 65536 - year

abbrev pub decreases-loop-from : goal.decreases-loop-from
decreases-loop-from l = years_left l.from
