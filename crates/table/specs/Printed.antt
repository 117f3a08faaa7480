-- The signs that pieces print: what is left of right signs (`IsLetterSign`, `IsEntrySign` of Refusals.antt) when 99 is dropped and 64 is the blank.
use Rattle.std.specs.Prelude.{ℕ, ◌≤◌}
use Rattle.table.specs.Cells.{most_cell}
use Rattle.table.specs.Numbers.{sign_line_end, sign_page_end}

-- a printed sign: a cell 0..63, or one of 70..73; never 64, and never 99
pub data PrintedSign (g : ℕ) : Type 0 where
  cell : g ≤ most_cell → PrintedSign g
  format : sign_line_end ≤ g → g ≤ sign_page_end → PrintedSign g
