-- `translation::collapsing::collapse` meets its contract: there is room for each character, and it is written or passed over.
use borrow.Author.Rules.{rules}
use Rattle.translation.proofs.Thinned.{collapsing_starts, collapsing_writes, collapsing_passes, collapsing_ends}
use Rattle.translation.proofs.collapsing.collapse.Goals as goal
use Rattle.translation.proofs.collapsing.collapse.Goals.{in-Some, in_default}

pub loop-c-init : goal.loop-c-init
loop-c-init c = collapsing_starts _ _

pub loop-c-preserved : goal.loop-c-preserved
loop-c-preserved c =
    let taken = c.thin.ensures in
    elim c.match-thin.branch [
      | in-Some w ↦ rw (w.out-is, w.n-is) (collapsing_writes c.loop-c.invariant (search rules) c.requires (rw w.in-Some.is at taken))
      | in_default w ↦ rw (w.out-is, w.n-is) (collapsing_passes c.loop-c.invariant (search rules) (rw w.in_default.is at taken))
    ]

pub returns : goal.returns
returns c = collapsing_ends c.loop-c.invariant (search rules)
