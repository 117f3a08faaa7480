-- 'Lines and pages' as one call, from signs, a sheet and the output as lent to the answer and the output afterwards; refusals 5 and 8.
use Rattle.std.specs.Prelude.{ℕ, true, false, List, ◌++◌, length, drop, leb, Result, Ok, Err}
use Rattle.table.specs.declared.Refusal.{Refusal}
use Rattle.table.specs.declared.Refusal.TheVariants.{Room}
use Rattle.pages.specs.Volume.{sheet_verdict, bytes_of, end_of}
use Rattle.pages.specs.declared.Filled.{Filled}
use Rattle.pages.specs.declared.Sheet.{Sheet}

-- ---- What the call hands back: the answer, and the output afterwards

pub record Outcome : Type 0 where
  pub answer : Result Filled Refusal
  pub output : List ℕ

-- when refused, the output is as it was
unfoldable pub refused : List ℕ → Refusal → Outcome
refused out r = record { answer = Err r; output = out }

-- when done, the bytes stand at the front, and the output beyond them is as it was
unfoldable pub done : Sheet → List ℕ → List ℕ → Outcome
done sheet signs out =
    record {
      answer = Ok (record { written = length (bytes_of sheet signs); lines = (end_of sheet signs).lines; pages = (end_of sheet signs).pages });
      output = bytes_of sheet signs ++ drop (length (bytes_of sheet signs)) out;
    }

-- 8: output too short
unfoldable pub roomed : Sheet → List ℕ → List ℕ → Outcome
roomed sheet signs out =
    elim (leb (length (bytes_of sheet signs)) (length out)) [
      | true ↦ done sheet signs out
      | false ↦ refused out (Room (length (bytes_of sheet signs)))
    ]

unfoldable pub filling : Sheet → List ℕ → List ℕ → Outcome
filling sheet signs out = elim (sheet_verdict sheet) [ Ok accepted ↦ roomed sheet signs out | Err r ↦ refused out r ]
