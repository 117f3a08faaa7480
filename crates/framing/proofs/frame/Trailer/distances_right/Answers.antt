-- `framing::frame::Trailer::distances_right` meets its contract: its tests are the definition's, at the distances that were read.
use Rattle.std.proofs.Common.{arith}
use Rattle.std.proofs.lemmas.Grind.{common_steps}
use Rattle.std.proofs.lemmas.Bool.Decides.{nat_tests}
use Rattle.table.specs.Sections.{trailer_at, distances_right}
use Rattle.framing.proofs.frame.Trailer.distances_right.Goals as goal
use Rattle.framing.proofs.frame.Trailer.distances_right.Goals.{then-d, else-d, then-d-2, else-d-2, then-from-self, else-from-self}

pub returns-then-d-3 : goal.returns-then-d-3
unfolding distances_right trailer_at
returns-then-d-3 c = grind (arith, common_steps, nat_tests)

pub returns-else-d-3 : goal.returns-else-d-3
unfolding distances_right trailer_at
returns-else-d-3 c = grind (arith, common_steps, nat_tests)
