-- Demand 3, of bytes: the bytes show a layout. In the lines of the whole volume each word's cells end on the line and before the column that its spot
-- says, each word after those before it, and every other cell is blank; and each page has the lines that the layout says.
use Rattle.std.specs.Prelude.{ℕ, ◌+◌, ◌-◌, ◌≤◌, ◌<◌, ◌≡◌, length, get_or, take, drop}
use mathlib.Core.List.{List, [], flatten, map}
use Rattle.table.specs.Numbers.{blank_cell}
use Rattle.pages.specs.Numbers.{gap_blanks}
use Rattle.pages.specs.Pages.{Line, pages_of}
use Rattle.pages.specs.Permitted.{Spot, Layout}

-- the lines of the whole volume: those of its pages, joined
abbrev pub volume_lines : List ℕ → List Line
volume_lines bytes = flatten (pages_of bytes)

abbrev pub line_at : List Line → ℕ → Line
line_at lines l = get_or lines l []

abbrev pub word_at : List (List ℕ) → ℕ → List ℕ
word_at words i = get_or words i []

abbrev pub spot_at : List Spot → ℕ → Spot
spot_at spots i = get_or spots i (record { line = 0; column = 0 })

-- the word stands in the line, its last cell just before the column
pub record StandsIn (line : Line) (w : List ℕ) (column : ℕ) : Type 0 where
  pub least : length w ≤ column
  pub most : column ≤ length line
  pub cells : take (length w) (drop (column - length w) line) ≡ w

-- column `x` of line `l` lies in the i-th word
pub record LiesIn (words : List (List ℕ)) (spots : List Spot) (l x i : ℕ) : Type 0 where
  pub there : i < length words
  pub line : (spot_at spots i).line ≡ l
  pub from : (spot_at spots i).column - length (word_at words i) ≤ x
  pub to : x < (spot_at spots i).column

-- that column has a word's cell, or a blank
pub data WordOrBlank (lines : List Line) (words : List (List ℕ)) (spots : List Spot) (l x : ℕ) : Type 0 where
  in_word : {i : ℕ} → LiesIn words spots l x i → WordOrBlank lines words spots l x
  is_blank : get_or (line_at lines l) x blank_cell ≡ blank_cell → WordOrBlank lines words spots l x

-- a word of `n` cells that ends at the spot `b` starts after the spot `a`: on a later line, or on the same line with a blank between
pub data Follows (a b : Spot) (n : ℕ) : Type 0 where
  on_later_line : a.line < b.line → Follows a b n
  after_blank : a.line ≡ b.line → a.column + gap_blanks + n ≤ b.column → Follows a b n

-- the words stand where the spots say, each after those before it, and nothing else is there
pub record Drawn (lines : List Line) (words : List (List ℕ)) (spots : List Spot) : Type 0 where
  pub as_many : length spots ≡ length words
  pub words_stand : (i : ℕ) → i < length words → StandsIn (line_at lines (spot_at spots i).line) (word_at words i) (spot_at spots i).column
  pub in_order_lem : (i j : ℕ) → i < j → j < length words → Follows (spot_at spots i) (spot_at spots j) (length (word_at words j))
  pub others_blank : (l x : ℕ) → x < length (line_at lines l) → WordOrBlank lines words spots l x

-- the bytes show the layout
pub record Shows (bytes : List ℕ) (words : List (List ℕ)) (layout : Layout) : Type 0 where
  pub drawn : Drawn (volume_lines bytes) words layout.spots
  pub lines : length (volume_lines bytes) ≡ layout.lines
  pub pages : map length (pages_of bytes) ≡ layout.pages
