-- `framing::frame::Trailer::lengths_right` meets its contract: its tests are the definition's, at the distances that were read.
use Rattle.std.proofs.Common.{arith}
use Rattle.std.proofs.lemmas.Grind.{common_steps}
use Rattle.table.specs.Sections.{lengths_right}
use Rattle.framing.proofs.frame.Trailer.lengths_right.Goals as goal

pub returns-then-whole_records-4 : goal.returns-then-whole_records-4
unfolding lengths_right
returns-then-whole_records-4 c = grind (arith, common_steps)

pub returns-else-whole_records-4 : goal.returns-else-whole_records-4
unfolding lengths_right
returns-else-whole_records-4 c = grind (arith, common_steps)
