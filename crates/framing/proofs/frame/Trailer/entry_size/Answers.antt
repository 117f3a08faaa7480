-- `framing::frame::Trailer::entry_size` meets its contract: its test is the definition's.
use Rattle.std.proofs.Common.{arith}
use Rattle.std.proofs.lemmas.Grind.{common_steps}
use Rattle.std.proofs.lemmas.Bool.Decides.{nat_tests}
use Rattle.table.specs.Sections.{is_dated, entry_size_in}
use Rattle.framing.proofs.frame.Trailer.entry_size.Goals as goal

pub returns-then-byte-eq52 : goal.returns-then-byte-eq52
unfolding entry_size_in is_dated
returns-then-byte-eq52 c = grind (arith, common_steps, nat_tests)

pub returns-else-byte-eq52 : goal.returns-else-byte-eq52
unfolding entry_size_in is_dated
returns-else-byte-eq52 c = grind (arith, common_steps, nat_tests)
