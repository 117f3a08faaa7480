-- `tlopahuexi::stamping::tlopahuexi_stamp` meets its contract: the answer is that of `stamp`, and the stored values are the answer's.
use Rattle.std.proofs.Common.{refl}
use Rattle.calls.specs.Promises.{four_values}
use Rattle.calls.proofs.Told.{four_done}
use Rattle.tlopahuexi.proofs.stamping.tlopahuexi_stamp.Goals as goal

pub returns-in-Ok : goal.returns-in-Ok
returns-in-Ok c = record { answer = _; stamps = c.stamp.ensures; tells = rw (c.in-Ok.is, c.from-in-Ok.ensures, c.from.ensures) (four_done _) }

pub returns-in-Err : goal.returns-in-Err
unfolding four_values
returns-in-Err c = record { answer = _; stamps = c.stamp.ensures; tells = rw (c.in-Err.is, c.from-in-Err.ensures, c.number.ensures.is, c.place.ensures.is) refl }
