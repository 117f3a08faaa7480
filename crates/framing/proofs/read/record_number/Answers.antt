-- `framing::read::record_number` meets its contract: its two bytes are the number's.
use Rattle.std.proofs.Common.{arith}
use Rattle.std.proofs.lemmas.Grind.{common_steps}
use Rattle.table.specs.Sections.{number_at, record_byte}
use Rattle.framing.proofs.read.record_number.Goals as goal

pub returns : goal.returns
unfolding number_at record_byte
returns c = grind (arith, common_steps)
