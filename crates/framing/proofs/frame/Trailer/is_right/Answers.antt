-- `framing::frame::Trailer::is_right` meets its contract: its tests are the definition's.
use Rattle.std.proofs.Common.{arith}
use Rattle.std.proofs.lemmas.Grind.{common_steps}
use Rattle.std.proofs.lemmas.Bool.Decides.{nat_tests}
use Rattle.table.specs.Sections.{trailer_right, classes_in, variables_in, is_dated}
use Rattle.framing.proofs.frame.Trailer.is_right.Goals as goal

pub returns-then-classes-le40 : goal.returns-then-classes-le40
unfolding trailer_right classes_in variables_in is_dated
returns-then-classes-le40 c = grind (arith, common_steps, nat_tests)

pub returns-else-classes-le40 : goal.returns-else-classes-le40
unfolding trailer_right classes_in variables_in is_dated
returns-else-classes-le40 c = grind (arith, common_steps, nat_tests)
