-- 'What comes back', of marking: the answer with its values, and the call, from the text and the output as lent to the answer and the output afterwards.
use Rattle.std.specs.Prelude.{ℕ, true, false, List, Result, Ok, Err, ◌++◌, leb, ltb, length, take, drop}
use Rattle.table.specs.Answers.{number_in, place_in}
use Rattle.inkprint.specs.Numbers.{most_ink, number_long, number_unmarked, number_room}
use Rattle.inkprint.specs.Marks.{marked, unmarked, marking}
use Rattle.inkprint.specs.declared.Uninked.{Uninked}
use Rattle.inkprint.specs.declared.Uninked.TheVariants.{Unmarked, Room, Long}

-- ---- What the call answers: the bytes written, or why it refuses

abbrev pub Inked : Type 0
Inked = Result ℕ Uninked

-- ---- The three values: when done, the number and the place are 0; when refused, the bytes written are

abbrev pub uninked_number : Uninked → ℕ
uninked_number (Unmarked at) = number_unmarked
uninked_number (Room needed) = number_room
uninked_number Long = number_long

abbrev pub uninked_place : Uninked → ℕ
uninked_place (Unmarked at) = at
uninked_place (Room needed) = needed
uninked_place Long = most_ink

abbrev pub number_of : Inked → ℕ
number_of answer = number_in uninked_number answer

abbrev pub place_of : Inked → ℕ
place_of answer = place_in uninked_place answer

abbrev pub written_of : Inked → ℕ
written_of (Ok written) = written
written_of (Err refusal) = 0

-- ---- What the call hands back: the answer, and the output afterwards

pub record Outcome : Type 0 where
  pub answer : Inked
  pub output : List ℕ

-- when refused, the output is as it was
unfoldable pub refused : List ℕ → Inked → Outcome
refused out answer = record { answer = answer; output = out }

-- when done, the bytes stand at the front, and the output beyond them is as it was
unfoldable pub done : List ℕ → List ℕ → Outcome
done out bytes = record { answer = Ok (length bytes); output = bytes ++ drop (length bytes) out }

-- what the call wrote
abbrev pub wrote : Inked → List ℕ → List ℕ
wrote answer after = take (written_of answer) after

-- 8: output too short
unfoldable pub roomed : List ℕ → List ℕ → Outcome
roomed out bytes = elim (leb (length bytes) (length out)) [ true ↦ done out bytes | false ↦ refused out (Err (Room (length bytes))) ]

-- 6: a text too long. 21: a character that has no mark, at its first byte
unfoldable pub inking : List ℕ → List ℕ → Outcome
inking text out =
    elim (ltb most_ink (length text)) [
      | true ↦ refused out (Err Long)
      | false ↦ elim (marking text) [ unmarked at ↦ refused out (Err (Unmarked at)) | marked bytes ↦ roomed out bytes ]
    ]
