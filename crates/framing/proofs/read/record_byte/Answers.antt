-- `framing::read::record_byte` meets its contract: within the image the byte is read, and outside it `get_or` is its default, 0.
use Rattle.std.proofs.Common.{arith}
use Rattle.std.proofs.lemmas.Grind.{common_steps}
use Rattle.std.proofs.lemmas.Option.{unwrap_or-slice_get}
use Rattle.table.specs.Sections.{record_byte, byte_at}
use Rattle.framing.proofs.read.record_byte.Goals as goal

pub returns : goal.returns
unfolding record_byte byte_at
returns c = record { is = grind (arith, common_steps, unwrap_or-slice_get) }
