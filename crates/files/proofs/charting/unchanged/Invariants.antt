-- `files::charting::unchanged` meets its contract. The loop's invariant: the bytes passed have themselves.
use Rattle.embosser.proofs.Tables.{Filled}
use Rattle.files.proofs.charting.unchanged.Given as goal

abbrev pub invariant-loop-i : goal.invariant-loop-i
invariant-loop-i l = Filled (λ b. b) (λ b. b) 0 l.i l.table
