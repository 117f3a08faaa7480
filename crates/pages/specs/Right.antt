-- 'Output bytes', of the pages that they make: cells are 0 to 63, 'no line has more than W cells or ends in a blank', and a page has a line and at
-- most P.
use Rattle.std.specs.Prelude.{ℕ, ◌≤◌, [], ◌∷◌, ◌++◌, ◌≡◌, length}
use Rattle.table.specs.Numbers.{blank_cell}
use Rattle.table.specs.Cells.{most_cell}
use Rattle.table.specs.Lists.{All}
use Rattle.pages.specs.Pages.{Line, Page}
use Rattle.pages.specs.declared.Sheet.{Sheet}

abbrev pub IsCell : ℕ → Type 0
IsCell c = c ≤ most_cell

pub record LineRight (W : ℕ) (line : Line) : Type 0 where
  pub width : length line ≤ W
  pub cells : All IsCell line
  pub no_trailing_blank : (front : Line) → line ≡ front ++ blank_cell ∷ [] → ⊥

pub record PageRight (sheet : Sheet) (page : Page) : Type 0 where
  pub least : 1 ≤ length page
  pub most : length page ≤ sheet.length
  pub lines : All (LineRight sheet.width) page
