-- `tlopahuexi::telling::five_values` meets its contract: in each arm the three values, and the line and the column, are the answer's.
use Rattle.std.proofs.Common.{refl}
use Rattle.calls.specs.Promises.{five_values}
use Rattle.calls.proofs.Told.{five_unlike}
use Rattle.tlopahuexi.proofs.telling.five_values.Goals as goal

pub returns-in-Ok : goal.returns-in-Ok
unfolding five_values
returns-in-Ok c = rw (c.three_values.ensures, c.in-Ok.is) refl

pub returns-in-Err : goal.returns-in-Err
returns-in-Err c = rw (c.three_values.ensures, c.in-Err.is, c.line.ensures.is, c.column.ensures.is) (five_unlike _)
