-- `framing::frame::Trailer::distance` meets its contract: the trailer's number at twice `k` is the distance of section `k`.
use Rattle.std.proofs.Common.{arith}
use Rattle.std.proofs.lemmas.Grind.{common_steps}
use Rattle.table.specs.Sections.{number_at, distance}
use Rattle.framing.proofs.frame.Trailer.distance.Goals as goal

pub returns : goal.returns
unfolding distance number_at
returns c = grind (arith, common_steps)
