-- `translation::piecing::print_all` meets its contract. The loop's invariant, `Printing`: what is printed so far, and then what the signs from this place
-- on print, is the whole.
use Rattle.translation.proofs.Printing.{Printing}
use Rattle.translation.proofs.piecing.print_all.Given as goal

abbrev pub invariant-loop-sign : goal.invariant-loop-sign
invariant-loop-sign l = Printing l.list l.initial.signs l.signs l.n l.sign-index
