-- 'What comes back': the answer with its six values, and the whole call, from what follows the text, the year, the image, the text, the sheet and the
-- output as lent to the answer and the output afterwards.
use Rattle.std.specs.Prelude.{ℕ, true, false, List, ◌++◌, length, drop, leb, Result as Answered, Ok, Err}
use Rattle.table.specs.Answers.{refusal_number, refusal_place, number_in, place_in}
use Rattle.table.specs.Table.{Table}
use Rattle.table.specs.declared.Refusal.{Refusal}
use Rattle.table.specs.declared.Refusal.TheVariants.{Room}
use Rattle.translation.specs.Pieces.{pieces_of, signs_of}
use Rattle.translation.specs.Translate.{Result, made, refused as not_made, translate_on}
use Rattle.translation.specs.declared.Setting.{Setting}
use Rattle.translation.specs.declared.Terms.{Terms}
use Rattle.pages.specs.Numbers.{line_mark, page_mark}
use Rattle.table.specs.Search.{count}
use Rattle.pages.specs.Volume.{bytes_of as bytes_of_signs, sheet_verdict}
use Rattle.pages.specs.declared.Sheet.{Sheet}
use Rattle.layout.specs.declared.Laid.{Laid}

-- what the call answers: what the text takes, or the refusal
abbrev pub Answer : Type 0
Answer = Answered Laid Refusal

-- ---- The six values: when refused, all but number and place are 0

abbrev pub number : Answer → ℕ
number = number_in refusal_number

abbrev pub place : Answer → ℕ
place = place_in refusal_place

abbrev pub written : Answer → ℕ
written (Ok l) = l.written
written (Err r) = 0

abbrev pub pieces : Answer → ℕ
pieces (Ok l) = l.pieces
pieces (Err r) = 0

abbrev pub lines : Answer → ℕ
lines (Ok l) = l.lines
lines (Err r) = 0

abbrev pub pages : Answer → ℕ
pages (Ok l) = l.pages
pages (Err r) = 0

-- ---- What the call hands back: the answer, and the output afterwards

pub record Outcome : Type 0 where
  pub answer : Answer
  pub output : List ℕ

-- when refused, the output is as it was
unfoldable pub refused : List ℕ → Refusal → Outcome
refused out r = record { answer = Err r; output = out }

-- when done, the bytes stand at the front, and the output beyond them is as it was
unfoldable pub done : List ℕ → List ℕ → ℕ → Outcome
done out bytes n =
    record {
      answer = Ok (record { written = length bytes; pieces = n; lines = count line_mark bytes; pages = count page_mark bytes });
      output = bytes ++ drop (length bytes) out;
    }

-- ---- The call

-- the bytes of a text
abbrev pub bytes_of : Table → Setting → List ℕ → Sheet → List ℕ
bytes_of table setting text sheet = bytes_of_signs sheet (signs_of (pieces_of table setting text))

-- 8: output too short
unfoldable pub roomed : List ℕ → List ℕ → ℕ → Outcome
roomed out bytes n = elim (leb (length bytes) (length out)) [ true ↦ done out bytes n | false ↦ refused out (Room (length bytes)) ]

-- the pieces of a text are laid out, and a refusal is handed on
unfoldable pub laid : Sheet → List ℕ → Result → Outcome
laid sheet out (made pieces) = roomed out (bytes_of_signs sheet (signs_of pieces)) (length pieces)
laid sheet out (not_made r) = refused out r

-- what follows the end of the text is said by the caller; 5, W or P outside its limits, is checked after the table and before the text
abbrev pub terms_of : Setting → Sheet → Terms
terms_of setting sheet = record { setting = setting; also = sheet_verdict sheet }

unfoldable pub embossing : Setting → List ℕ → List ℕ → Sheet → List ℕ → Outcome
embossing setting image text sheet out = laid sheet out (translate_on (terms_of setting sheet) image text)
