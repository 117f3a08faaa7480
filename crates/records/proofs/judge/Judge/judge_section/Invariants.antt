-- `Judge::judge_section` meets its contract. The loop's invariant: the records passed are right.
use Rattle.std.proofs.Common.{ℕ, ◌<◌, false, ◌≡◌}
use Rattle.records.proofs.SectionSearch.{is_wrong}
use Rattle.records.proofs.judge.Judge.judge_section.Given as goal

abbrev pub invariant-loop-k : goal.invariant-loop-k
invariant-loop-k l = (m : ℕ) → m < l.k → is_wrong l.self.image.now l.self.sections l.name m ≡ false
