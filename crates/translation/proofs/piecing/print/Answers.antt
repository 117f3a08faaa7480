-- `translation::piecing::print` meets its contract: 99 prints nothing, and any other sign one cell.
use native.Mathlib.Omega.{arith}
use Rattle.translation.proofs.Writing.{wrote_nothing, wrote_one}
use Rattle.translation.proofs.Printing.{no_cell_prints, cell_prints}
use Rattle.translation.proofs.piecing.print.Goals as goal

pub returns-then-sign-eq99 : goal.returns-then-sign-eq99
returns-then-sign-eq99 c = rw (no_cell_prints c.args.sign c.if-sign-eq99.true) (wrote_nothing c.args.signs.now 0 (omega arith))

pub returns : goal.returns
returns c =
    rw (cell_prints c.args.sign c.if-sign-eq99.false, ← c.cell_of.ensures) (wrote_one c.args.signs.now 0 c.cell_of.result c.requires)
