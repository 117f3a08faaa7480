-- 'Cells': a cell is a number 0 to 63, by its dots.
use Rattle.std.specs.Prelude.{ℕ, pred, ◌+◌, ◌^◌, Bool, List, [], ◌∷◌, leb}

abbrev pub most_cell : ℕ
most_cell = 63

unfoldable pub is_cell : ℕ → Bool
is_cell n = leb n most_cell

-- dots 1 to 6 count 1, 2, 4, 8, 16, 32
unfoldable pub dot : ℕ → ℕ
dot k = 2 ^ pred k

-- the cell with these dots
unfoldable pub cell_of : List ℕ → ℕ
cell_of [] = 0
cell_of (k ∷ dots) = dot k + cell_of dots
