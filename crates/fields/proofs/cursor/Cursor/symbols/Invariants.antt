-- `fields::cursor::Cursor::symbols` meets its contract. The loop's invariant: the symbols from here on, after those that were read, read as all of them do from `at` on.
use Prim.Native.Nat.{◌-◌}
use mathlib.Core.List.{[]}
use mathlib.Core.Path.{◌≡◌}
use lib.ListN.{length, take}
use Rattle.form.specs.Words.{symbols_from}
use Rattle.fields.specs.inside.Cursors.{rest_at}
use Rattle.fields.proofs.cursor.Cursor.symbols.Given as goal

abbrev pub invariant-loop-many : goal.invariant-loop-many
invariant-loop-many l =
    (l.next.line.now ≡ l.self.line.now) × (symbols_from (length l.initial.bytes - l.many) (take l.many l.bytes) (rest_at l.next) ≡ symbols_from (length l.initial.bytes) [] (rest_at l.self))
