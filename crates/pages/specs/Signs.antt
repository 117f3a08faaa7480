-- Demand 2, of cells and signs: a cell that isn't blank is 1 to 63, and the printed signs that end a word are the blank and 70 to 73.
use Rattle.std.specs.Prelude.{ℕ, Bool, not, ◌||◌, eqb}
use Rattle.table.specs.Numbers.{blank_cell}
use Rattle.table.specs.Cells.{most_cell}
use Rattle.table.specs.Search.{within, is_there}
use Rattle.pages.specs.Words.{format_of}

-- a cell that isn't blank
unfoldable pub is_dotted : ℕ → Bool
is_dotted c = within 1 most_cell c

-- signs 0 and 64 end a word, as do 70..73; 64 has become 0
unfoldable pub ends_word : ℕ → Bool
ends_word g = eqb g blank_cell || is_there (format_of g)

-- any other is a cell of a word
abbrev pub stays_in_word : ℕ → Bool
stays_in_word g = not (ends_word g)
