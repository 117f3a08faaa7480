-- 'What comes back', of the two calls over readable tables: their answers, and each call, from what it is lent to the answer and the output afterwards.
use Rattle.std.specs.Prelude.{ℕ, true, false, List, ◌++◌, Result, Ok, Err, leb, length, take, drop}
use Rattle.table.specs.Answers.{refusal_number, refusal_place, number_in, place_in}
use Rattle.table.specs.Verdict.{verdict_of}
use Rattle.table.specs.declared.Refusal.TheVariants.{Room}
use Rattle.form.specs.Numbers.{number_form}
use Rattle.form.specs.Reading.{good, bad, reading, image_of, line_at, column_at}
use Rattle.form.specs.Showing.{shown}
use Rattle.form.specs.declared.Expected.{Expected}
use Rattle.form.specs.declared.Undrawn.{Undrawn}
use Rattle.form.specs.declared.Undrawn.TheVariants.{Refused, Unlike}

-- ---- Why a table isn't shown or made. Line and column are those of a text that isn't of the form, and else 0

abbrev pub undrawn_number : Undrawn → ℕ
undrawn_number (Refused r) = refusal_number r
undrawn_number (Unlike at line column expected) = number_form

abbrev pub undrawn_place : Undrawn → ℕ
undrawn_place (Refused r) = refusal_place r
undrawn_place (Unlike at line column expected) = at

abbrev pub undrawn_line : Undrawn → ℕ
undrawn_line (Refused r) = 0
undrawn_line (Unlike at line column expected) = line

abbrev pub undrawn_column : Undrawn → ℕ
undrawn_column (Refused r) = 0
undrawn_column (Unlike at line column expected) = column

-- ---- The values of an answer: when refused, the bytes written are 0, and when done the number, the place, the line and the column

abbrev pub Drawn : Type 0
Drawn = Result ℕ Undrawn

abbrev pub number_of : Drawn → ℕ
number_of drawn = number_in undrawn_number drawn

abbrev pub place_of : Drawn → ℕ
place_of drawn = place_in undrawn_place drawn

abbrev pub written_of : Drawn → ℕ
written_of (Ok w) = w
written_of (Err e) = 0

abbrev pub line_of : Drawn → ℕ
line_of (Ok w) = 0
line_of (Err e) = undrawn_line e

abbrev pub column_of : Drawn → ℕ
column_of (Ok w) = 0
column_of (Err e) = undrawn_column e

-- ---- What a call hands back: the answer, and the output afterwards

pub record Outcome : Type 0 where
  pub answer : Drawn
  pub output : List ℕ

-- when refused, the output is as it was
unfoldable pub refused : List ℕ → Drawn → Outcome
refused out answer = record { answer = answer; output = out }

-- when done, the bytes stand at the front, and the output beyond them is as it was
unfoldable pub done : List ℕ → List ℕ → Outcome
done out bytes = record { answer = Ok (length bytes); output = bytes ++ drop (length bytes) out }

-- what a call wrote
abbrev pub wrote : Drawn → List ℕ → List ℕ
wrote answer after = take (written_of answer) after

-- 8: output too short
unfoldable pub roomed : List ℕ → List ℕ → Outcome
roomed out bytes =
    elim (leb (length bytes) (length out)) [ true ↦ done out bytes | false ↦ refused out (Err (Refused (Room (length bytes)))) ]

-- ---- The calls

-- an accepted image is written in readable form
unfoldable pub showing : List ℕ → List ℕ → Outcome
showing image out = elim (verdict_of image) [ Ok accepted ↦ roomed out (shown image) | Err r ↦ refused out (Err (Refused r)) ]

-- 22: not of the form, at the first byte that isn't, with its line and column and what was expected
unfoldable pub unlike : List ℕ → Expected → ℕ → Drawn
unlike text e at = Err (Unlike at (line_at text at) (column_at text at) e)

-- the image of a readable table
unfoldable pub making : List ℕ → List ℕ → Outcome
making text out = elim (reading text) [ bad e at ↦ refused out (unlike text e at) | good d body ↦ roomed out (image_of d body) ]
