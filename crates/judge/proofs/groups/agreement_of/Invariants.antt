-- `judge::groups::agreement_of` meets its contract. The invariant: the agreement of the two strings is what they share so far and the agreement of what
-- follows in both; what they share has been passed in the first.
use Rattle.std.proofs.Common.{◌+◌, ◌≡◌, length}
use Rattle.std.specs.Iterator.Adapters.{zip_first, zip_second}
use Rattle.std.specs.Slice.Iter.{iter_rest}
use Rattle.table.specs.Grouping.{agreement}
use Rattle.judge.proofs.groups.agreement_of.Given as goal

abbrev pub invariant-loop-x : goal.invariant-loop-x
invariant-loop-x l = record {
  passed : l.shared + length (iter_rest (zip_first l.x-iterator)) ≡ length l.a;
  agreed : agreement l.a l.b ≡ l.shared + agreement (iter_rest (zip_first l.x-iterator)) (iter_rest (zip_second l.x-iterator));
}
