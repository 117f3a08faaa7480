-- `pages::writing::standing` meets its contract: the test is the definition's.
use borrow.Author.Tests.{eq-eqb, ne_eqb}
use Rattle.pages.specs.Place.{standing}
use Rattle.pages.proofs.writing.standing.Goals as goal

pub returns-then-q-p : goal.returns-then-q-p
unfolding standing
returns-then-q-p c = rw (eq-eqb _ _ c.if-q-p.true)

pub returns-else-q-p : goal.returns-else-q-p
unfolding standing
returns-else-q-p c = rw (ne_eqb _ _ c.if-q-p.false)
