-- `tlopahuexi::inking::tlopahuexi_mark` meets its contract: proofs/Told.antt of calls, from what `mark` promises and the values that are stored.
use Rattle.calls.proofs.Told.{inkprinted}
use Rattle.tlopahuexi.proofs.inking.tlopahuexi_mark.Goals as goal

pub returns : goal.returns
returns c = inkprinted c.mark.ensures c.three_values.ensures
