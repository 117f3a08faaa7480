-- Items that can be laid out as 'Lines and pages' says: every word has a cell and at most W, and its cells are 1 to 63. The items of printed signs
-- are so, and stay so where lines are ended by choice.
use Rattle.std.specs.Prelude.{ℕ, ◌≤◌, List, [], ◌∷◌, length}
use Rattle.table.specs.Cells.{most_cell}
use Rattle.table.specs.Lists.{All}
use Rattle.pages.specs.Words.{Item, word, line_end, empty_line, paragraph, page_end}

-- a cell that isn't blank
pub record Dotted (c : ℕ) : Type 0 where
  pub least : 1 ≤ c
  pub most : c ≤ most_cell

pub record WordFits (W : ℕ) (cells : List ℕ) : Type 0 where
  pub least : 1 ≤ length cells
  pub most : length cells ≤ W
  pub dotted : All Dotted cells

-- of an item: a word fits, and a format sign always does
abbrev pub ItemFits : ℕ → Item → Type 0
ItemFits W (word cells) = WordFits W cells
ItemFits W line_end = Unit {0}
ItemFits W empty_line = Unit {0}
ItemFits W paragraph = Unit {0}
ItemFits W page_end = Unit {0}

abbrev pub Fitting : ℕ → List Item → Type 0
Fitting W items = All (ItemFits W) items

-- the words of items, in order
unfoldable pub words_in : List Item → List (List ℕ)
words_in [] = []
words_in (word cells ∷ items) = cells ∷ words_in items
words_in (line_end ∷ items) = words_in items
words_in (empty_line ∷ items) = words_in items
words_in (paragraph ∷ items) = words_in items
words_in (page_end ∷ items) = words_in items
