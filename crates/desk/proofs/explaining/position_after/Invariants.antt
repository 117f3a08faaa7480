use Rattle.std.proofs.Common.{◌+◌, ◌≤◌}
use Rattle.desk.proofs.explaining.position_after.Given as goal

abbrev pub invariant-loop-byte : goal.invariant-loop-byte
invariant-loop-byte l = (l.line ≤ l.byte-index + 1) × (l.column ≤ l.byte-index + 1)
