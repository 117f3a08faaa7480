-- `files::judging::first_wrong` meets its contract. The loop's invariant: the spot keeps to the sheet, and the bytes that are left, judged from here on, are
-- wrong where the whole is.
use Rattle.embosser.proofs.Steps.{Fit, Walked}
use Rattle.files.proofs.judging.first_wrong.Given as goal

abbrev pub invariant-loop-i : goal.invariant-loop-i
invariant-loop-i l = record { fits : Fit l.sheet l.spot; walked : Walked l.fn.kind l.sheet l.bytes l.spot l.i }
