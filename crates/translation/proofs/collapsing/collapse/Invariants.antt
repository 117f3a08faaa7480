-- `translation::collapsing::collapse` meets its contract. The loop's invariant, `Collapsing`: what is written, and then what is to come from this place
-- on, is the collapsed text.
use Rattle.translation.proofs.Thinned.{Collapsing}
use Rattle.translation.proofs.collapsing.collapse.Given as goal

abbrev pub invariant-loop-c : goal.invariant-loop-c
invariant-loop-c l = Collapsing l.text l.initial.out l.out l.n l.kept l.c-index
