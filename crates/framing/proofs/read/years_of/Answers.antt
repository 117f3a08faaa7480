-- `framing::read::years_of` meets its contract: records of 22 bytes have years, and others none.
use Rattle.std.proofs.Common.{arith}
use Rattle.table.proofs.Forms.{dated_years, undated_years}
use Rattle.framing.proofs.read.years_of.Goals as goal

pub returns-then-entries-eq22 : goal.returns-then-entries-eq22
returns-then-entries-eq22 c =
    let years = dated_years c.args.image.now c.args.entries c.args.k c.if-entries-eq22.true in
    record { first_is = grind arith; last_is = grind arith }

pub returns-else-entries-eq22 : goal.returns-else-entries-eq22
returns-else-entries-eq22 c =
    let years = undated_years c.args.image.now c.args.entries c.args.k c.if-entries-eq22.false in
    record { first_is = grind arith; last_is = grind arith }
