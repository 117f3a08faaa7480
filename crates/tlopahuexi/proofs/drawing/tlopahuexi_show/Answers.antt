-- `tlopahuexi::drawing::tlopahuexi_show` meets its contract: the answer and the output are those that `show` promises, and the stored values are the
-- answer's.
use Rattle.tlopahuexi.proofs.drawing.tlopahuexi_show.Goals as goal

pub returns : goal.returns
returns c = record { answer = _; ends = c.show.ensures; tells = c.five_values.ensures }
