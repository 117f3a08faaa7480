-- `writing::putting::Pen::put_bytes` meets its contract. The loop's invariant: the bytes so far are put.
use lib.ListN.{take}
use Rattle.writing.specs.inside.Penned.{Penned}
use Rattle.writing.proofs.putting.Pen.put_bytes.Given as goal

abbrev pub invariant-loop-byte : goal.invariant-loop-byte
invariant-loop-byte l = Penned l.initial.self (take l.byte-index l.bytes) l.self
