use Rattle.std.proofs.Common.{length, ◌*◌, ◌≤◌, ◌≡◌}
use Rattle.desk.proofs.showing.put_bytes.Given as goal

abbrev pub invariant-loop-byte : goal.invariant-loop-byte
invariant-loop-byte l = (l.at ≤ 4 * l.byte-index) × (length l.out ≡ length l.initial.out)
