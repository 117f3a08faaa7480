-- 'What comes back', of embosser files: the answer with its three values, and the call, from the bytes, the sheet and the output as lent to the answer and the
-- output afterwards. Writing a file and reading one are one definition, by the kind of the bytes that are lent.
use Rattle.std.specs.Prelude.{ℕ, true, false, List, ◌++◌, map, ◌≡◌, leb, length, take, drop, None, Some, Result, Ok, Err}
use Rattle.table.specs.Answers.{refusal_number, refusal_place, number_in, place_in}
use Rattle.table.specs.declared.Refusal.{Refusal}
use Rattle.table.specs.declared.Refusal.TheVariants.{Room, File as WrongFile}
use Rattle.pages.specs.Volume.{sheet_verdict}
use Rattle.pages.specs.declared.Sheet.{Sheet}
use Rattle.embosser.specs.Chart.{turned}
use Rattle.embosser.specs.Judging.{wrong_at}
use Rattle.embosser.specs.declared.Kind.{Kind}

-- ---- The three values: when refused, the bytes written are 0

-- what writing or reading a file answers: the bytes written, or the refusal
abbrev pub Filed : Type 0
Filed = Result ℕ Refusal

abbrev pub number : Filed → ℕ
number answer = number_in refusal_number answer

abbrev pub place : Filed → ℕ
place answer = place_in refusal_place answer

abbrev pub written : Filed → ℕ
written (Ok w) = w
written (Err r) = 0

-- ---- What a call hands back: the answer, and the output afterwards

pub record Outcome : Type 0 where
  pub answer : Filed
  pub output : List ℕ

-- when refused, the output is as it was
unfoldable pub refused : List ℕ → Refusal → Outcome
refused out r = record { answer = Err r; output = out }

-- when done, the bytes stand at the front, and the output beyond them is as it was
unfoldable pub done : List ℕ → List ℕ → Outcome
done out bytes = record { answer = Ok (length bytes); output = bytes ++ drop (length bytes) out }

-- a call gave these bytes, at the front of what it was lent
pub record GivenBack (bytes before : List ℕ) (answer : Filed) (after : List ℕ) : Type 0 where
  pub answers : answer ≡ (done before bytes).answer
  pub leaves : after ≡ (done before bytes).output

-- what a call wrote
abbrev pub wrote : Filed → List ℕ → List ℕ
wrote answer after = take (written answer) after

-- ---- The call

-- the bytes of the other kind, one for each
unfoldable pub turned_bytes : Kind → List ℕ → List ℕ
turned_bytes kind bytes = map (turned kind) bytes

-- 8: output too short
unfoldable pub roomed : List ℕ → List ℕ → Outcome
roomed out bytes = elim (leb (length bytes) (length out)) [ true ↦ done out bytes | false ↦ refused out (Room (length bytes)) ]

-- 16: wrong file or layout
unfoldable pub judged : Kind → Sheet → List ℕ → List ℕ → Outcome
judged kind sheet bytes out =
    elim (wrong_at kind sheet bytes) [ Some at ↦ refused out (WrongFile at) | None ↦ roomed out (turned_bytes kind bytes) ]

-- 5 first
unfoldable pub filing : Kind → Sheet → List ℕ → List ℕ → Outcome
filing kind sheet bytes out = elim (sheet_verdict sheet) [ Ok accepted ↦ judged kind sheet bytes out | Err r ↦ refused out r ]
