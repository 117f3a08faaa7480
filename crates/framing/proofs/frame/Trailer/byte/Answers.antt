-- `framing::frame::Trailer::byte` meets its contract: the trailer is the image's last bytes.
use Rattle.std.proofs.Common.{rules}
use Rattle.table.specs.Sections.{byte_at, trailer_at}
use Rattle.framing.proofs.frame.Trailer.byte.Goals as goal

pub returns : goal.returns
unfolding byte_at trailer_at
returns c = search rules
