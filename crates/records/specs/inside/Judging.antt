-- What the code that judges records speaks of: the letters by their symbols, the fault of a wrong record. No heading of
-- document 01.
use Rattle.std.specs.Prelude.{ℕ, zero, suc, ◌+◌, ◌<◌, List, ◌≡◌, eqb, length, get_or, Ok, Err}
use Rattle.std.proofs.Math.Option.{Option, none, some}
use Rattle.table.specs.Numbers.{blank_cell, symbol_byte, signs_byte}
use Rattle.table.specs.Search.{first}
use Rattle.table.specs.Sections.{record_byte}
use Rattle.table.specs.Records.{Wrong}
use Rattle.table.specs.declared.Section.{Section}
use Rattle.records.specs.Judged.{Judged}
use Rattle.records.specs.declared.Fault.TheVariants.{Wrong as WrongAt}

-- ---- The letters by their symbols

-- counted from 1, and 0 for none
abbrev pub number_of : Option ℕ → ℕ
number_of none = 0
number_of (some k) = k + 1

-- the number of the first of `n` alphabet records that has this symbol
unfoldable pub letter_number : List ℕ → Section → ℕ → ℕ → ℕ
letter_number image alphabet c n = number_of (first (λ k. eqb (record_byte image alphabet k symbol_byte) c) n)

-- for each byte the number of its letter among the first `n`
pub record Gathered (image : List ℕ) (alphabet : Section) (n : ℕ) (letters : List ℕ) : Type 0 where
  pub size : length letters ≡ 256
  pub numbers : (c : ℕ) → c < 256 → get_or letters c 0 ≡ letter_number image alphabet c n

-- and among all of them
abbrev pub LettersBySymbol : List ℕ → Section → List ℕ → Type 0
LettersBySymbol image alphabet letters = Gathered image alphabet alphabet.records letters

-- the sign before the i-th of contraction record `k`; before the first stands none, which is as good as a blank
abbrev pub sign_before : List ℕ → Section → ℕ → ℕ → ℕ
sign_before image contractions k zero = blank_cell
sign_before image contractions k (suc i) = record_byte image contractions k (signs_byte + i)

-- ---- The fault of a wrong record

abbrev pub fault_of : Option Wrong → Judged
fault_of none = Ok tt
fault_of (some w) = Err (WrongAt w.section w.index w.byte)
