-- `files::charting::table_between` meets its contract. The loop's invariant: the bytes that the output bytes passed are written as have theirs, and the
-- others `nothing`.
use Rattle.embosser.specs.Chart.{written_as, stands_for}
use Rattle.embosser.proofs.Tables.{Filled}
use Rattle.files.proofs.charting.table_between.Given as goal

abbrev pub invariant-loop-byte : goal.invariant-loop-byte
invariant-loop-byte l = Filled (stands_for l.fn.kind) (λ b. written_as l.fn.to (stands_for l.fn.kind b)) l.nothing l.byte l.table
