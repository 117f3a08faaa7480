-- `writing::putting::Pen::put_same` meets its contract. The loop's invariant: the byte is put so many times so far.
use Rattle.writing.proofs.Puts.{same_longer}
use Rattle.writing.proofs.putting.Pen.put_same.Goals as goal

pub loop-preserved : goal.loop-preserved
loop-preserved c = same_longer c.loop.counter c.args.byte c.loop.invariant c.put.ensures
