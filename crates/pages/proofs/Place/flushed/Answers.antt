-- `pages::Place::flushed` meets its contract: by whether cells wait.
use mathlib.Core.Path.{◌∙◌}
use borrow.Author.Tests.{lt-ltb, le-ltb}
use Rattle.pages.specs.inside.Gather.{after_flush}
use Rattle.pages.proofs.Place.flushed.Goals as goal

pub returns-then-n-gt0 : goal.returns-then-n-gt0
unfolding after_flush
returns-then-n-gt0 c = c.word.ensures ∙ rw (lt-ltb 0 c.args.n c.if-n-gt0.true)

pub returns-else-n-gt0 : goal.returns-else-n-gt0
unfolding after_flush
returns-else-n-gt0 c = rw (le-ltb 0 c.args.n c.if-n-gt0.false)
