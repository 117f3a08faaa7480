-- 'What comes back', of embosser files: the refusals in the papers' words, a line for each number with its place; no search, no verdict and no call.
-- proofs/Refusals.antt shows that a refusal is the answer exactly when its line holds and no earlier one does.
use Rattle.std.specs.Prelude.{ℕ, ◌<◌, List, length}
use Rattle.table.specs.Numbers.{no_place, number_size, number_file, number_room}
use Rattle.pages.specs.Refusals.{SizesWrong}
use Rattle.pages.specs.declared.Sheet.{Sheet}
use Rattle.embosser.specs.Good.{WrongAt}
use Rattle.embosser.specs.declared.Kind.{Kind}

-- a line holds: the turn in which it is checked, its number and its place
pub data Line (kind : Kind) (sheet : Sheet) (bytes out : List ℕ) : ℕ → ℕ → ℕ → Type 0 where
  -- W or P outside its limits
  line_5 : SizesWrong sheet → Line kind sheet bytes out 1 number_size no_place
  -- wrong file or layout
  line_16 : {at : ℕ} → WrongAt kind sheet bytes at → Line kind sheet bytes out 2 number_file at
  -- output too short: bytes needed, one for each byte
  line_8 : length out < length bytes → Line kind sheet bytes out 3 number_room (length bytes)
