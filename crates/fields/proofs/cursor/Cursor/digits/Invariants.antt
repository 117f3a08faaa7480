-- `fields::cursor::Cursor::digits` meets its contract. The loop's invariant: the digits from here on, after the number so far, read as all of them do from `at` on, and
-- the number so far is at most `most`.
use Prim.Native.Nat.{◌≤◌}
use mathlib.Core.Path.{◌≡◌}
use lib.ListN.{drop}
use Rattle.form.specs.Words.{digits_from}
use Rattle.fields.proofs.cursor.Cursor.digits.Given as goal

abbrev pub invariant-loop-i : goal.invariant-loop-i
invariant-loop-i l = (l.n ≤ l.most) × (digits_from l.least l.most l.n (drop l.i l.line) ≡ digits_from l.least l.most 0 (drop l.self.at l.line))
