-- `ink::marking::mark` meets its contract: each way is a case of the call.
use Rattle.inkprint.proofs.Calls.{inks_long}
use Rattle.ink.proofs.marking.mark.Goals as goal

pub returns-then-text-gt-LONGEST : goal.returns-then-text-gt-LONGEST
returns-then-text-gt-LONGEST c = inks_long _ _ c.if-text-gt-LONGEST.true
