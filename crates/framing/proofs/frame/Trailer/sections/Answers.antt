-- `framing::frame::Trailer::sections` meets its contract: each section is the definition's by what `section_of` answers at the distances.
use Rattle.std.proofs.Common.{arith}
use Rattle.std.proofs.lemmas.Grind.{common_steps}
use Rattle.table.specs.Sections.{sections_in, section_at, last_section}
use Rattle.table.proofs.Distances.{distances_fall}
use Rattle.framing.proofs.frame.Trailer.sections.Goals as goal

pub returns : goal.returns
unfolding sections_in section_at last_section
returns c = let f = distances_fall c.args.self.image.now c.requires.distances in grind (arith, common_steps)
