-- `stamp::stamping::stamp` meets its contract. The invariant: the two numbers so far, grown by the bytes that are left, are those of the whole image.
use Rattle.stamp.proofs.Outcomes.{Walked}
use Rattle.stamp.proofs.stamping.stamp.Given as goal

abbrev pub invariant-loop-byte : goal.invariant-loop-byte
invariant-loop-byte l = Walked l.image (record { first = l.first; second = l.second }) l.byte-index
