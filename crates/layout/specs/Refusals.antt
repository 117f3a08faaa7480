-- 'What comes back': the paper's table of refusals for the whole call, a line for each number with its place. A line is in the paper's words; it
-- mentions no search, no verdict and no call. proofs/Refusals.antt shows that a refusal is the answer exactly when its line holds and no earlier one does.
use Rattle.std.specs.Prelude.{ℕ, ◌+◌, ◌<◌, List, length}
use Rattle.table.specs.Numbers.{no_place, number_size, number_long_text, number_unknown, number_following, number_room, most_text}
use Rattle.table.specs.Refusals.{table_lines, Line as TableLine}
use Rattle.table.specs.Table.{table_of}
use Rattle.translation.specs.Refusals.{TextTooLong, FirstUnknownAt, FollowingUnknown}
use Rattle.translation.specs.declared.Setting.{Setting}
use Rattle.pages.specs.Refusals.{SizesWrong}
use Rattle.layout.specs.Emboss.{bytes_of}
use Rattle.pages.specs.declared.Sheet.{Sheet}

-- the bytes that the output needs
abbrev pub needed : Setting → List ℕ → List ℕ → Sheet → ℕ
needed setting image text sheet = length (bytes_of (table_of image) setting text sheet)

-- a line of the paper's table holds: the turn in which it is checked, its number and its place
pub data Line (setting : Setting) (image text : List ℕ) (sheet : Sheet) (out : List ℕ) : ℕ → ℕ → ℕ → Type 0 where
  -- the lines of the table come first
  of_table : {t n p : ℕ} → TableLine image t n p → Line setting image text sheet out t n p
  -- W or P outside its limits
  line_5 : SizesWrong sheet → Line setting image text sheet out (table_lines + 1) number_size no_place
  -- text over 16,384 bytes
  line_6 : TextTooLong text → Line setting image text sheet out (table_lines + 2) number_long_text most_text
  -- character without alphabet record: offset of the first one in the text as lent
  line_7 : {at : ℕ} → FirstUnknownAt (table_of image).letters text at → Line setting image text sheet out (table_lines + 3) number_unknown at
  -- following symbol not in the alphabet
  line_15 : FollowingUnknown (table_of image).letters setting.following → Line setting image text sheet out (table_lines + 4) number_following no_place
  -- output too short: bytes needed
  line_8 : length out < needed setting image text sheet
      → Line setting image text sheet out (table_lines + 5) number_room (needed setting image text sheet)
