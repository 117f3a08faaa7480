-- 'Lines and pages': the words and format signs that signs make, and a word that is wider than the line, cut into parts. Of the signs that
-- pieces print 64 has become 0, and 99 is gone; any other sign is a cell.
use Rattle.std.specs.Prelude.{ℕ, zero, suc, ◌-◌, true, false, cond, List, [], ◌∷◌, ◌++◌, map, length, take, drop, leb, eqb}
use Rattle.std.proofs.Math.Option.{Option, none, some}
use Rattle.table.specs.Numbers.{blank_cell, sign_line_end, sign_empty_line, sign_paragraph, sign_page_end}
use Rattle.pages.specs.Numbers.{hyphen}

-- a word of cells, or one of the format signs 70, 71, 72 and 73
pub data Item : Type 0 where
  word : List ℕ → Item
  line_end empty_line paragraph page_end : Item

unfoldable pub format_of : ℕ → Option Item
format_of g =
    cond (eqb g sign_line_end) (some line_end)
    (cond (eqb g sign_empty_line) (some empty_line)
    (cond (eqb g sign_paragraph) (some paragraph) (cond (eqb g sign_page_end) (some page_end) none)))

-- the cells gathered so far are a word, if there are any
unfoldable pub closed : List ℕ → List Item
closed [] = []
closed (c ∷ cells) = word (c ∷ cells) ∷ []

-- the blank, 0 or 64 in the table, ends a word, as do 70..73; a run of blanks is one gap. `cells` is what the word that is being gathered has so far
unfoldable pub gathered : List ℕ → List ℕ → List Item
gathered cells [] = closed cells
gathered cells (g ∷ signs) =
    elim (eqb g blank_cell) [
      | true ↦ closed cells ++ gathered [] signs
      | false ↦ elim (format_of g) [ none ↦ gathered (cells ++ g ∷ []) signs | some format ↦ closed cells ++ format ∷ gathered [] signs ]
    ]

unfoldable pub words_of : List ℕ → List Item
words_of signs = gathered [] signs

-- ---- Parts: while more than W cells of a word remain, a part is W-1 cells and then cell 36; the rest, at most W, has none

abbrev pub part_of : ℕ → List ℕ → List ℕ
part_of W cells = take (W - 1) cells ++ hyphen ∷ []

unfoldable pub cut_within : ℕ → ℕ → List ℕ → List (List ℕ)
cut_within zero W cells = cells ∷ []
cut_within (suc n) W cells = elim (leb (length cells) W) [ true ↦ cells ∷ [] | false ↦ part_of W cells ∷ cut_within n W (drop (W - 1) cells) ]

-- each cut takes a cell, so as many cuts as there are cells are enough
unfoldable pub parts : ℕ → List ℕ → List (List ℕ)
parts W cells = cut_within (length cells) W cells

-- parts count as words below
unfoldable pub cut_item : ℕ → Item → List Item
cut_item W (word cells) = map word (parts W cells)
cut_item W line_end = line_end ∷ []
cut_item W empty_line = empty_line ∷ []
cut_item W paragraph = paragraph ∷ []
cut_item W page_end = page_end ∷ []

unfoldable pub cut : ℕ → List Item → List Item
cut W [] = []
cut W (item ∷ items) = cut_item W item ++ cut W items

-- the words, as parts, and the format signs of a list of signs
unfoldable pub items_of : ℕ → List ℕ → List Item
items_of W signs = cut W (words_of signs)
