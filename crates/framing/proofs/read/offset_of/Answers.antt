-- `framing::read::offset_of` meets its contract: the product of two numbers of sixteen bits fits, and so does the sum.
use Rattle.std.proofs.Common.{arith, rules}
use Rattle.table.specs.Sections.{offset}
use Rattle.table.proofs.Product.{product_fits}
use Rattle.framing.proofs.read.offset_of.Goals as goal

pub returns : goal.returns
unfolding offset
returns c =
    let a = c.args in
    let h = product_fits a.s.size a.k (search rules) (search rules) in
    record { is = grind arith; below = grind arith }
