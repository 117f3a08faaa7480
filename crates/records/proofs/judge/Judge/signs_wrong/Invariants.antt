-- `Judge::signs_wrong` meets its contract. The loop's invariant: the signs passed are right, and the last of them is the one before.
use Rattle.std.proofs.Common.{ℕ, ◌+◌, ◌<◌, Bool, false, not, List, ◌≡◌}
use Rattle.table.specs.Numbers.{signs_byte}
use Rattle.table.specs.Sections.{record_byte}
use Rattle.table.specs.Records.{right_sign_after}
use Rattle.table.specs.declared.Section.{Section}
use Rattle.records.specs.inside.Judging.{sign_before}
use Rattle.records.proofs.judge.Judge.signs_wrong.Given as goal

-- sign `i` fails the test
abbrev pub fails : List ℕ → Section → ℕ → ℕ → Bool
fails image contractions k i = not (right_sign_after (sign_before image contractions k i) (record_byte image contractions k (signs_byte + i)))

abbrev pub invariant-loop-i : goal.invariant-loop-i
invariant-loop-i l = record {
  last : l.before ≡ sign_before l.self.image.now l.self.sections.contractions l.k l.i;
  passed : (j : ℕ) → j < l.i → fails l.self.image.now l.self.sections.contractions l.k j ≡ false;
}
