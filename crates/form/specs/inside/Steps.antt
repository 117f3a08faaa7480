-- What a read from a place of a line says: a cursor's read as the definitions say it, and the cursor within its line; and a draft within the limits. No
-- heading of docs/TABLES.md.
use Rattle.std.specs.Prelude.{ℕ, ◌≤◌, List, [], ◌∷◌, Result, Ok, Err, length, drop}
use Rattle.table.specs.Numbers.{most_classes, most_variables, most_letters, most_entries, most_contexts, most_columns}
use Rattle.form.specs.Words.{Read, got, wrong}
use Rattle.form.specs.declared.Draft.{Draft}
use Rattle.form.specs.declared.Unlike.{Unlike}

-- ---- A number or a symbol

abbrev pub Value : Type 0
Value = Result (ℕ × ℕ) Unlike

abbrev pub value_read : List ℕ → Value → Read
value_read line (Ok v) = got (v.0 ∷ []) (drop v.1 line)
value_read line (Err u) = wrong u.expected (drop u.at line)

-- the cursor is within the line, and the value no more than `most`
abbrev pub ValueWithin : ℕ → List ℕ → Value → Type 0
ValueWithin most line (Ok v) = (v.0 ≤ most) × (v.1 ≤ length line)
ValueWithin most line (Err u) = u.at ≤ length line

-- ---- What the lines so far say

-- a draft within the limits of the frame
pub record Modest (d : Draft) : Type 0 where
  pub stage : d.stage ≤ 8
  pub classes : d.classes ≤ most_classes
  pub variables : d.variables ≤ most_variables
  pub letters : d.letters ≤ most_letters
  pub entries : d.entries ≤ most_entries
  pub contexts : d.contexts ≤ most_contexts
  pub transitions : d.transitions ≤ most_variables
  pub decisions : d.decisions ≤ most_columns
