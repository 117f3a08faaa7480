-- `framing::frame::Trailer::classes` meets its contract: it is byte 10.
use Rattle.std.proofs.Common.{rules}
use Rattle.table.specs.Sections.{classes_in}
use Rattle.framing.proofs.frame.Trailer.classes.Goals as goal

pub returns : goal.returns
unfolding classes_in
returns c = search rules
