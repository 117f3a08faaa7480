-- `tlopahuexi::moving::tlopahuexi_date` meets its contract: proofs/Told.antt of calls, from what `date` promises and the values that are stored.
use Rattle.calls.proofs.Told.{recast}
use Rattle.tlopahuexi.proofs.moving.tlopahuexi_date.Goals as goal

pub returns : goal.returns
returns c = recast c.date.ensures c.three_values.ensures
