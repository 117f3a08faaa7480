-- `translation::piecing::print_all` meets its contract: there is room for each sign behind those that are printed.
use borrow.Author.Rules.{rules}
use native.Mathlib.Omega.{arith}
use lib.ListN.{length-drop}
use Rattle.translation.proofs.Writing.{rest_lent}
use Rattle.translation.proofs.Printing.{printing_starts, printing_goes_on, printing_ends}
use Rattle.translation.proofs.piecing.print_all.Goals as goal

pub loop-sign-init : goal.loop-sign-init
loop-sign-init c = printing_starts _ _

pub print-n-requires : goal.print-n-requires
print-n-requires c =
    let l = c.loop-sign in
    let few = l.invariant.no_more in
    rw (rest_lent l.signs l.n, length-drop l.n l.signs) (omega arith)

pub loop-sign-preserved : goal.loop-sign-preserved
loop-sign-preserved c = printing_goes_on c.loop-sign.invariant (search rules) c.print-n.ensures

pub returns : goal.returns
returns c = printing_ends c.loop-sign.invariant (search rules)
