-- `files::filing::put_turned` meets its contract. The loop's invariant: the bytes passed are turned and stored.
use mathlib.Core.Path.{◌≡◌}
use lib.ListN.{take}
use lib.Seq.{sets}
use Rattle.embosser.specs.Filing.{turned_bytes}
use Rattle.files.proofs.filing.put_turned.Given as goal

abbrev pub invariant-loop-i : goal.invariant-loop-i
invariant-loop-i l = l.out ≡ sets l.initial.out 0 (take l.i (turned_bytes l.fn.kind l.bytes))
