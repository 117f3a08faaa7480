-- `framing::frame::whole_records` meets its contract: its tests are the definition's.
use Rattle.std.proofs.Common.{arith}
use Rattle.std.proofs.lemmas.Grind.{common_steps}
use Rattle.std.proofs.lemmas.Bool.Decides.{nat_tests}
use Rattle.table.specs.Sections.{whole_records}
use Rattle.framing.proofs.frame.whole_records.Goals as goal

pub returns-then-least-s : goal.returns-then-least-s
unfolding whole_records
returns-then-least-s c = grind (arith, common_steps, nat_tests)

pub returns-else-least-s : goal.returns-else-least-s
unfolding whole_records
returns-else-least-s c = grind (arith, common_steps, nat_tests)
