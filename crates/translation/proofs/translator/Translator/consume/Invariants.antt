-- `Translator::consume` meets its contract. The loop's invariant, `Piecing`: the signs printed so far, and then those of the pieces of the rest, are the
-- signs of all pieces; and so with their number.
use lib.ListN.{length}
use Rattle.translation.proofs.Cursor.{Piecing}
use Rattle.translation.proofs.translator.Translator.consume.Given as goal

abbrev pub invariant-loop-rest : goal.invariant-loop-rest
invariant-loop-rest l =
    Piecing l.self.image.now l.self.sections l.self.setting l.text l.initial.signs l.signs l.states l.rest l.counts

abbrev pub decreases-loop-rest : goal.decreases-loop-rest
decreases-loop-rest l = length l.rest
