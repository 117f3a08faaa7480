-- `writing::putting::Pen::put_same` meets its contract. The loop's invariant: the byte is put so many times so far.
use lib.ListN.{replicate}
use Rattle.writing.specs.inside.Penned.{Penned}
use Rattle.writing.proofs.putting.Pen.put_same.Given as goal

abbrev pub invariant-loop : goal.invariant-loop
invariant-loop l = Penned l.initial.self (replicate l.counter l.byte) l.self
