-- `ink::stepping::signs` meets its contract: the bytes stand before what is left of the four zeros.
use Rattle.inkprint.proofs.Walk.{signs_over}
use Rattle.ink.proofs.stepping.signs.Goals as goal

pub returns : goal.returns
returns c = rw c.copy_from_slice.ensures.after (signs_over c.args.bytes.now c.requires)
