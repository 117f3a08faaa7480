-- `tlopahuexi::filing::tlopahuexi_read_file` meets its contract: proofs/Told.antt of calls, from what `read_file` promises and the values that are stored.
use Rattle.calls.proofs.Told.{converted}
use Rattle.tlopahuexi.proofs.filing.tlopahuexi_read_file.Goals as goal

pub returns : goal.returns
returns c = converted c.read_file.ensures c.three_values.ensures
