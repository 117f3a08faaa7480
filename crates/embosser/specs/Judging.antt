-- 'Embosser files', what a wrong file or layout is, byte by byte: where the judging stands on the page, one byte further, and the first byte at which no
-- good one could continue, or the length where it merely stops short. specs/Good.antt has the same in words.
use Rattle.std.specs.Prelude.{ℕ, suc, ◌+◌, Bool, false, cond, not, ◌&&◌, List, [], ◌∷◌, leb, ltb, eqb, Option, None, Some}
use Rattle.std.specs.Bool.{then_some}
use Rattle.table.specs.Numbers.{blank_cell}
use Rattle.table.specs.Cells.{is_cell}
use Rattle.pages.specs.Numbers.{line_mark, page_mark}
use Rattle.pages.specs.declared.Sheet.{Sheet}
use Rattle.embosser.specs.Chart.{stands_for}
use Rattle.embosser.specs.declared.Kind.{Kind}
use Rattle.embosser.specs.declared.Spot.{Spot}

-- A spot: `column` cells stand on the line, the last of them is blank where `blank` is true, and the page has `line` lines that have ended.

-- between two pages
abbrev pub start : Spot
start = record { column = 0; blank = false; line = 0 }

unfoldable pub at_start : Spot → Bool
at_start s = eqb s.column 0 && eqb s.line 0

-- the page has under P lines
unfoldable pub has_room : Sheet → Spot → Bool
has_room sheet s = ltb s.line sheet.length

-- the cells that the line must hold from this one on: no line ends in a blank, so after a blank there is another cell
unfoldable pub cells_from : ℕ → ℕ
cells_from cell = cond (eqb cell blank_cell) 2 1

unfoldable pub cell_fits : Sheet → Spot → ℕ → Bool
cell_fits sheet s cell = has_room sheet s && leb (s.column + cells_from cell) sheet.width

unfoldable pub line_ends : Sheet → Spot → Bool
line_ends sheet s = has_room sheet s && not s.blank

-- a page ends after its last line's end, and has a line
unfoldable pub page_ends : Spot → Bool
page_ends s = eqb s.column 0 && ltb 0 s.line

-- ---- One output byte further

abbrev pub after_cell : Spot → ℕ → Spot
after_cell s cell = record { column = s.column + 1; blank = eqb cell blank_cell; line = s.line }

abbrev pub after_line : Spot → Spot
after_line s = record { column = 0; blank = false; line = s.line + 1 }

-- go on there where the test passes
abbrev pub onwards : Bool → Spot → Option Spot
onwards test s = then_some test s

unfoldable pub stepped : Sheet → Spot → ℕ → Option Spot
stepped sheet s byte =
    cond (is_cell byte) (onwards (cell_fits sheet s byte) (after_cell s byte))
    (cond (eqb byte line_mark) (onwards (line_ends sheet s) (after_line s))
    (cond (eqb byte page_mark) (onwards (page_ends s) start) None))

-- ---- All bytes, from a spot and a place on

unfoldable pub wrong_from : Kind → Sheet → Spot → ℕ → List ℕ → Option ℕ
wrong_from kind sheet s at [] = cond (at_start s) None (Some at)
wrong_from kind sheet s at (byte ∷ bytes) =
    elim (stepped sheet s (stands_for kind byte)) [ None ↦ Some at | Some t ↦ wrong_from kind sheet t (suc at) bytes ]

-- the place of what is wrong, if anything is
unfoldable pub wrong_at : Kind → Sheet → List ℕ → Option ℕ
wrong_at kind sheet bytes = wrong_from kind sheet start 0 bytes
