-- `fields::cursor::Cursor::signs` meets its contract. The loop's invariant: the signs from here on, after those that were read, read as all of them do from `at` on,
-- and the bytes of those that are missing are 99.
use Prim.Native.Nat.{◌-◌}
use mathlib.Core.List.{[]}
use mathlib.Core.Path.{◌≡◌}
use lib.ListN.{take, drop, replicate}
use Rattle.table.specs.Numbers.{no_cell}
use Rattle.form.specs.Fields.{signs_from}
use Rattle.fields.specs.inside.Cursors.{rest_at}
use Rattle.fields.proofs.cursor.Cursor.signs.Given as goal

abbrev pub invariant-loop-byte : goal.invariant-loop-byte
invariant-loop-byte l =
    (l.next.line.now ≡ l.self.line.now) × (drop l.byte-index l.byte-items ≡ replicate (4 - l.byte-index) no_cell)
    × (signs_from (4 - l.byte-index) (take l.byte-index l.byte-items) (rest_at l.next) ≡ signs_from 4 [] (rest_at l.self))
