-- `tables::walking::put_record` meets its contract: the bytes are copied where there is room for them.
use Prim.Native.Nat.{◌+◌}
use mathlib.Core.Path.{refl}
use lib.ListN.{length}
use native.Mathlib.Omega.{arith}
use Rattle.table.proofs.Wrote.{run_written}
use Rattle.tables.proofs.walking.put_record.Goals as goal

pub returns-then-next-out : goal.returns-then-next-out
returns-then-next-out c =
    let a = c.args in
    record { goes = refl; writes = λ room. run_written a.out.now c.copy_from_slice.new.self a.at (a.at + length a.bytes.now) a.bytes.now c.copy_from_slice.ensures.after refl room }

pub returns-else-next-out : goal.returns-else-next-out
returns-else-next-out c = record { goes = refl; writes = λ room. absurd (omega arith) }
