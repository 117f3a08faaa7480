-- `framing::frame::Trailer::variables` meets its contract: it is byte 11.
use Rattle.std.proofs.Common.{rules}
use Rattle.table.specs.Sections.{variables_in}
use Rattle.framing.proofs.frame.Trailer.variables.Goals as goal

pub returns : goal.returns
unfolding variables_in
returns c = search rules
