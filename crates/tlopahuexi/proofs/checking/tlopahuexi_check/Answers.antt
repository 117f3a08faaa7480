-- `tlopahuexi::checking::tlopahuexi_check` meets its contract: the verdict is that of `check`, and the stored values are the verdict's.
use Rattle.std.proofs.Common.{refl}
use Rattle.calls.specs.Promises.{two_values}
use Rattle.calls.proofs.Told.{two_refused}
use Rattle.tlopahuexi.proofs.checking.tlopahuexi_check.Goals as goal

pub returns-in-Ok : goal.returns-in-Ok
unfolding two_values
returns-in-Ok c = record { verdict = _; checks = c.check.ensures; tells = rw c.in-Ok.is refl }

pub returns-in-Err : goal.returns-in-Err
returns-in-Err c = record { verdict = _; checks = c.check.ensures; tells = rw (c.in-Err.is, c.from.ensures, c.number.ensures.is, c.place.ensures.is) (two_refused _) }
