-- `writing::putting::number_at` meets its contract: two bytes, the low one first.
use native.Mathlib.Omega.{arith}
use Rattle.table.specs.Sections.{byte_at, number_at}
use Rattle.writing.proofs.putting.number_at.Goals as goal

pub returns : goal.returns
unfolding number_at byte_at
returns c = omega (arith, c.from_le_bytes.ensures)
