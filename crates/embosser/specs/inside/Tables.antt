-- What the functions inside are given and hand back: a table that holds a definition's value for each of the 256 bytes, and a spot of a sheet within the
-- limits. No heading of the papers.
use Rattle.std.specs.Prelude.{ℕ, ◌≤◌, ◌<◌, List, ◌≡◌, length, get_or}
use Rattle.pages.specs.Numbers.{most_width, most_length}
use Rattle.pages.specs.declared.Sheet.{Sheet}
use Rattle.embosser.specs.declared.Spot.{Spot}

pub record Holds (f : ℕ → ℕ) (table : List ℕ) : Type 0 where
  pub size : length table ≡ 256
  pub values : (byte : ℕ) → byte < 256 → get_or table byte 0 ≡ f byte

pub record Small (s : Spot) : Type 0 where
  pub column : s.column ≤ most_width
  pub line : s.line ≤ most_length

pub record Judgeable (sheet : Sheet) : Type 0 where
  pub width : sheet.width ≤ most_width
  pub length : sheet.length ≤ most_length
