-- `tlopahuexi::drawing::tlopahuexi_make` meets its contract: the answer and the output are those that `make` promises, and the stored values are the
-- answer's.
use Rattle.tlopahuexi.proofs.drawing.tlopahuexi_make.Goals as goal

pub returns : goal.returns
returns c = record { answer = _; ends = c.make.ensures; tells = c.five_values.ensures }
