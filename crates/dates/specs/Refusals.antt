-- 'What comes back', of the movers: the refusals in the papers' words, a line for each number with its place; no search, no verdict and no call.
-- proofs/Refusals.antt shows that a refusal is the answer exactly when its line holds and no earlier one does.
use Rattle.std.specs.Prelude.{ℕ, ◌+◌, ◌<◌, List, ◌≡◌, length}
use Rattle.table.specs.Numbers.{second_mark_byte, dated_mark, earliest_year, latest_year, no_place, number_frame, number_dated, number_room}
use Rattle.table.specs.Sections.{byte_at, trailer_at, offset, first_year, last_year}
use Rattle.table.specs.Refusals.{table_lines, Line as TableLine}
use Rattle.dates.specs.Forms.{entries_of, dated_image, undated_image}
use Rattle.dates.specs.Moving.{Outcome, dating, undating}

-- the two moves: to the form with years, and back
pub data Move : Type 0 where
  onward back : Move

-- the trailer's last byte is 52
abbrev pub EndsDated : List ℕ → Type 0
EndsDated image = byte_at image (trailer_at image + second_mark_byte) ≡ dated_mark

-- a table of the other form: with years for the move onward, without them for the move back
abbrev pub OtherForm : Move → List ℕ → Type 0
OtherForm onward image = EndsDated image
OtherForm back image = EndsDated image → ⊥

-- record `k` is always in force
pub record AlwaysInForce (image : List ℕ) (k : ℕ) : Type 0 where
  pub first_is : first_year image (entries_of image) k ≡ earliest_year
  pub last_is : last_year image (entries_of image) k ≡ latest_year

-- the first dated record lies at this offset
pub record FirstDatedAt (image : List ℕ) (at : ℕ) : Type 0 where
  pub index : ℕ
  pub there : index < (entries_of image).records
  pub dated : AlwaysInForce image index → ⊥
  pub earlier : (k : ℕ) → k < index → AlwaysInForce image k
  pub place : at ≡ offset (entries_of image) index

-- the image that the output is to hold, and the bytes that it needs
abbrev pub moved_by : Move → List ℕ → List ℕ
moved_by onward image = dated_image image
moved_by back image = undated_image image

abbrev pub needed : Move → List ℕ → ℕ
needed move image = length (moved_by move image)

-- the call that makes the move
abbrev pub calling : Move → List ℕ → List ℕ → Outcome
calling onward image out = dating image out
calling back image out = undating image out

-- a line holds: the turn in which it is checked, its number and its place
pub data Line (move : Move) (image out : List ℕ) : ℕ → ℕ → ℕ → Type 0 where
  -- a table of the other form
  other_form : OtherForm move image → Line move image out 0 number_frame no_place
  -- then the lines of the table
  of_table : {t n p : ℕ} → TableLine image t n p → Line move image out t n p
  -- moving back: at the first dated record
  line_17 : {at : ℕ} → move ≡ back → FirstDatedAt image at → Line move image out (table_lines + 1) number_dated at
  -- output too short: bytes needed
  line_8 : length out < needed move image → Line move image out (table_lines + 2) number_room (needed move image)
