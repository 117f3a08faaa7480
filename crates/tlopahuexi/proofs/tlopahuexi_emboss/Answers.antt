-- `tlopahuexi::tlopahuexi_emboss` meets its contract: the answer and the output are those that `emboss` promises, and the stored values are the answer's.
use Rattle.std.proofs.Common.{refl}
use Rattle.calls.specs.Promises.{six_values}
use Rattle.calls.proofs.Told.{six_done}
use Rattle.tlopahuexi.proofs.tlopahuexi_emboss.Goals as goal

pub returns-in-Ok : goal.returns-in-Ok
returns-in-Ok c = record { answer = _; embosses = c.emboss.ensures; tells = rw c.in-Ok.is (six_done _) }

pub returns-in-Err : goal.returns-in-Err
unfolding six_values
returns-in-Err c = record { answer = _; embosses = c.emboss.ensures; tells = rw (c.in-Err.is, c.from.ensures, c.number.ensures.is, c.place.ensures.is) refl }
