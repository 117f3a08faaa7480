-- The records that a line can say: each byte is one of those that its field has. No heading of docs/TABLES.md.
use Rattle.std.specs.Prelude.{ℕ, suc, ◌+◌, ◌≤◌, ◌<◌, Bool, true, List, [], ◌∷◌, ◌≡◌, get_or}
use Rattle.table.specs.Numbers.{least_symbol, most_symbol, least_length, most_length, padding, no_cell, entry_signs}
use Rattle.table.specs.Refusals.{Between}
use Rattle.form.specs.Numbers.{most_byte}
use Rattle.form.specs.Fields.{size_of}
use Rattle.form.specs.declared.Field.{Field}
use Rattle.form.specs.declared.Field.TheVariants.{Number, Symbol, Row, String, Classed, Shift, Tail}

-- the `n` bytes from `at` on are symbols
abbrev pub SymbolsAt : List ℕ → ℕ → ℕ → Type 0
SymbolsAt bytes at n = (k : ℕ) → k < n → Between least_symbol most_symbol (get_or bytes (at + k) 0)

pub record WritableRow (n : ℕ) (bytes : List ℕ) (at : ℕ) : Type 0 where
  pub some : 1 ≤ n
  pub symbols : SymbolsAt bytes at n

-- a length, so many symbols, and zeros up to ten bytes
pub record WritableString (bytes : List ℕ) (at : ℕ) : Type 0 where
  pub length : Between least_length most_length (get_or bytes at 0)
  pub symbols : SymbolsAt bytes (suc at) (get_or bytes at 0)
  pub padded : (k : ℕ) → get_or bytes at 0 ≤ k → k < most_length → get_or bytes (suc at + k) 0 ≡ padding

pub record WritableClassed (bytes : List ℕ) (at : ℕ) : Type 0 where
  pub context : get_or bytes at 0 ≤ most_byte
  pub class : get_or bytes (at + 1) 0 ≤ most_byte

-- four signs, after a 99 none but 99, and where there are years the four bytes of them
pub record WritableTail (dated : Bool) (bytes : List ℕ) (at : ℕ) : Type 0 where
  pub signs : (k : ℕ) → k < entry_signs → get_or bytes (at + k) 0 ≤ most_byte
  pub missing : (k : ℕ) → suc k < entry_signs → get_or bytes (at + k) 0 ≡ no_cell → get_or bytes (at + suc k) 0 ≡ no_cell
  pub years : dated ≡ true → (k : ℕ) → k < 4 → get_or bytes (at + 4 + k) 0 ≤ most_byte

abbrev pub WritableField : Field → List ℕ → ℕ → Type 0
WritableField (Number least most) bytes at = Between least most (get_or bytes at 0)
WritableField Symbol bytes at = Between least_symbol most_symbol (get_or bytes at 0)
WritableField (Row n) bytes at = WritableRow n bytes at
WritableField String bytes at = WritableString bytes at
WritableField Classed bytes at = WritableClassed bytes at
WritableField Shift bytes at = get_or bytes at 0 ≤ most_byte
WritableField (Tail dated) bytes at = WritableTail dated bytes at

-- the record's bytes from `at` on are those of the fields
abbrev pub Writable : List Field → List ℕ → ℕ → Type 0
Writable [] bytes at = Unit {0}
Writable (f ∷ fs) bytes at = WritableField f bytes at × Writable fs bytes (at + size_of f)
