-- `ink::stepping::step_of` meets its contract: no mark has more than four bytes, as the definition has none.
use mathlib.Core.List.{[]}
use Rattle.inkprint.specs.declared.Glyph.TheVariants.{Letter, Plain, Gap, Feed, Closes}
use Rattle.inkprint.proofs.Walk.{step_small}
use Rattle.ink.proofs.stepping.step_of.Goals as goal

pub returns-in-Letter-clause-small : goal.returns-in-Letter-clause-small
returns-in-Letter-clause-small c = rw c.letter_step.ensures (step_small c.args.s (Letter _ _ _) _)

pub returns-in-Plain-clause-small : goal.returns-in-Plain-clause-small
returns-in-Plain-clause-small c = rw c.sign_step.ensures (step_small c.args.s (Plain _) _)

pub returns-in-Gap-clause-small : goal.returns-in-Gap-clause-small
returns-in-Gap-clause-small c = rw c.gap_step.ensures (step_small c.args.s (Gap) _)

pub returns-in-Feed-clause-small : goal.returns-in-Feed-clause-small
returns-in-Feed-clause-small c = rw c.feed_step.ensures (step_small c.args.s Feed [])

pub returns-in-Closes-clause-small : goal.returns-in-Closes-clause-small
returns-in-Closes-clause-small c = rw c.close_step.ensures (step_small c.args.s (Closes) _)
