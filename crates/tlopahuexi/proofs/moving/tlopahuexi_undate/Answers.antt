-- `tlopahuexi::moving::tlopahuexi_undate` meets its contract: proofs/Told.antt of calls, from what `undate` promises and the values that are stored.
use Rattle.calls.proofs.Told.{recast}
use Rattle.tlopahuexi.proofs.moving.tlopahuexi_undate.Goals as goal

pub returns : goal.returns
returns c = recast c.undate.ensures c.three_values.ensures
