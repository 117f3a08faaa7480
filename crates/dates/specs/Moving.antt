-- 'What comes back', of the movers: the answer with its three values, and each of the two calls, from the image and the output as lent to the answer and the
-- output afterwards.
use Rattle.std.specs.Prelude.{ℕ, true, false, List, ◌++◌, leb, length, take, drop, Result, Ok, Err}
use Rattle.std.proofs.Math.Option.{none, some}
use Rattle.table.specs.Answers.{refusal_number, refusal_place, number_in, place_in}
use Rattle.table.specs.Sections.{is_dated, offset}
use Rattle.table.specs.Verdict.{verdict_of}
use Rattle.table.specs.declared.Refusal.{Refusal}
use Rattle.table.specs.declared.Refusal.TheVariants.{Frame, Dated, Room}
use Rattle.dates.specs.Forms.{entries_of, dated_image, undated_image, first_dated}

-- ---- The three values: when refused, the bytes written are 0

-- what a mover answers: the bytes written, or the refusal
abbrev pub Moved : Type 0
Moved = Result ℕ Refusal

abbrev pub number : Moved → ℕ
number answer = number_in refusal_number answer

abbrev pub place : Moved → ℕ
place answer = place_in refusal_place answer

abbrev pub written : Moved → ℕ
written (Ok w) = w
written (Err r) = 0

-- ---- What a call hands back: the answer, and the output afterwards

pub record Outcome : Type 0 where
  pub answer : Moved
  pub output : List ℕ

-- when refused, the output is as it was
unfoldable pub refused : List ℕ → Refusal → Outcome
refused out r = record { answer = Err r; output = out }

-- when done, the moved image stands at the front, and the output beyond it is as it was
unfoldable pub done : List ℕ → List ℕ → Outcome
done out bytes = record { answer = Ok (length bytes); output = bytes ++ drop (length bytes) out }

-- what a call wrote
abbrev pub wrote : Moved → List ℕ → List ℕ
wrote answer after = take (written answer) after

-- ---- The calls

-- 8: output too short
unfoldable pub roomed : List ℕ → List ℕ → Outcome
roomed out bytes = elim (leb (length bytes) (length out)) [ true ↦ done out bytes | false ↦ refused out (Room (length bytes)) ]

-- each answers 1 to a table of the other form, then as a check of the table does
unfoldable pub dating : List ℕ → List ℕ → Outcome
dating image out =
    elim (is_dated image) [
      | true ↦ refused out Frame
      | false ↦ elim (verdict_of image) [ Err r ↦ refused out r | Ok accepted ↦ roomed out (dated_image image) ]
    ]

-- 17: moving back, at the first dated record
unfoldable pub undating_always : List ℕ → List ℕ → Outcome
undating_always image out =
    elim (first_dated image) [
      | some k ↦ refused out (Dated (offset (entries_of image) k))
      | none ↦ roomed out (undated_image image)
    ]

unfoldable pub undating : List ℕ → List ℕ → Outcome
undating image out =
    elim (is_dated image) [
      | false ↦ refused out Frame
      | true ↦ elim (verdict_of image) [ Err r ↦ refused out r | Ok accepted ↦ undating_always image out ]
    ]
