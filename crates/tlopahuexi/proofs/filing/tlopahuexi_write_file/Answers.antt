-- `tlopahuexi::filing::tlopahuexi_write_file` meets its contract: proofs/Told.antt of calls, from what `write_file` promises and the values that are stored.
use Rattle.calls.proofs.Told.{converted}
use Rattle.tlopahuexi.proofs.filing.tlopahuexi_write_file.Goals as goal

pub returns : goal.returns
returns c = converted c.write_file.ensures c.three_values.ensures
