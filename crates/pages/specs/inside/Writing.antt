-- What the functions that write promise each other: moves that go forward, the moved place with its bytes in the output, and a sign with the cells that wait.
use Rattle.std.specs.Prelude.{ℕ, ◌+◌, ◌-◌, ◌*◌, ◌≤◌, List, ◌≡◌, length, Result}
use Rattle.table.specs.Numbers.{entry_signs, most_text}
use Rattle.table.specs.inside.Wrote.{Wrote}
use Rattle.table.specs.declared.Refusal.{Refusal}
use Rattle.pages.specs.Numbers.{most_width}
use Rattle.pages.specs.Words.{items_of}
use Rattle.pages.specs.Place.{standing, move_bytes, volume}
use Rattle.pages.specs.Fill.{Outcome}
use Rattle.pages.specs.inside.Gather.{Modest, stepped, waiting, step_bytes}
use Rattle.pages.specs.declared.Filled.{Filled}
use Rattle.pages.specs.declared.Place.{Place}
use Rattle.pages.specs.declared.Sheet.{Sheet}

-- a move from `p` to `q` that puts `n` cells on the line goes forward, and counts what it writes
pub record Goes (p q : Place) (n : ℕ) : Type 0 where
  pub lines : p.lines ≤ q.lines
  pub pages : p.pages ≤ q.pages
  pub column : standing p q + n ≤ q.column
  pub written : q.written ≡ p.written + (q.lines - p.lines) + (q.pages - p.pages) + (q.column - standing p q)

-- the place is handed back, moved, and what the move writes stands in the output from the place's own number on
pub record Moved (before : List ℕ) (p : Place) (cells after : List ℕ) (moved answer : Place) : Type 0 where
  pub place : answer ≡ moved
  pub wrote : Wrote before p.written (move_bytes p moved cells) after

-- the place is modest, and the bytes have room from it on
pub record Room (m : ℕ) (out : List ℕ) (p : Place) (bytes : List ℕ) : Type 0 where
  pub modest : Modest m p
  pub room : p.written + length bytes ≤ length out

-- one sign: the moved place, the bytes written, and the cells that wait then, where `cells` waited before it
pub record Signed (sheet : Sheet) (before : List ℕ) (p : Place) (cells : List ℕ) (g : ℕ) (after cells' : List ℕ) (answer : Place) : Type 0 where
  pub place : answer ≡ (stepped sheet p (length cells) g).place
  pub wrote : Wrote before p.written (step_bytes sheet p cells g) after
  pub waits : cells' ≡ waiting sheet cells g

-- signs that can be counted, and a width that can be gathered
pub record Fillable (sheet : Sheet) (signs : List ℕ) : Type 0 where
  pub most : length signs ≤ entry_signs * most_text
  pub wide : 2 ≤ sheet.width
  pub narrow : sheet.width ≤ most_width

-- whose pages have room in the output
pub record Writable (sheet : Sheet) (signs out : List ℕ) : Type 0 where
  pub fillable : Fillable sheet signs
  pub room : length (volume sheet (items_of sheet.width signs)) ≤ length out

-- a call that ends with this answer and this output has this outcome
pub record Ends (outcome : Outcome) (answer : Result Filled Refusal) (after : List ℕ) : Type 0 where
  pub answers : answer ≡ outcome.answer
  pub leaves : after ≡ outcome.output
