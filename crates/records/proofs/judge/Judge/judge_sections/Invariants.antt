-- `Judge::judge_sections` meets its contract. The loop's invariant: the search goes on from a section as it went from the first.
use Rattle.std.proofs.Common.{◌≡◌}
use Rattle.table.specs.Records.{first_wrong}
use Rattle.records.specs.inside.Judging.{fault_of}
use Rattle.records.proofs.SectionSearch.{fault_from}
use Rattle.records.proofs.judge.Judge.judge_sections.Given as goal

abbrev pub invariant-loop-name : goal.invariant-loop-name
invariant-loop-name l = fault_of (first_wrong l.self.image.now l.self.sections) ≡ fault_from l.self.image.now l.self.sections l.name-index
