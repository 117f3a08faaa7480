-- The exit status of each way that a run ends without what was asked for.
use Rattle.std.specs.Prelude.{ℕ}
use Rattle.desk.specs.declared.Failure.{Failure}
use Rattle.desk.specs.declared.Failure.TheVariants.{Refused, Usage, System}

abbrev pub status_of : Failure → ℕ
status_of Refused = 1
status_of Usage = 2
status_of System = 3
