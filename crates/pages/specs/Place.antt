-- 'Lines and pages': the place on the page, its moves, and the bytes that a move writes. W is the sheet's width, P its length.
use Rattle.std.specs.Prelude.{ℕ, ◌+◌, ◌-◌, Bool, true, false, cond, ◌&&◌, List, [], ◌∷◌, ◌++◌, length, replicate, leb, ltb, eqb}
use Rattle.table.specs.Numbers.{blank_cell}
use Rattle.pages.specs.Numbers.{gap_blanks, paragraph_blanks, line_mark, page_mark}
use Rattle.pages.specs.Words.{Item, word, line_end, empty_line, paragraph, page_end}
use Rattle.pages.specs.declared.Place.{Place}
use Rattle.pages.specs.declared.Sheet.{Sheet}

-- A place: `column` cells stand on the line; the page has `line` lines that have ended; the next word opens a paragraph where `opening` is true; and
-- `written` bytes, `lines` lines and `pages` pages of the whole volume are behind it.

abbrev pub start : Place
start = record { column = 0; line = 0; opening = false; written = 0; lines = 0; pages = 0 }

-- the line holds a cell
unfoldable pub holds_cell : Place → Bool
holds_cell p = ltb 0 p.column

-- the page has a line; where it hasn't, it has no line yet
unfoldable pub has_line : Place → Bool
has_line p = ltb 0 p.line

-- one more line fills the page
unfoldable pub fills_page : Sheet → Place → Bool
fills_page sheet p = eqb (p.line + 1) sheet.length

-- ---- The line ends, whatever it holds; a page ends by itself after P lines

unfoldable pub after_line : Sheet → Place → Place
after_line sheet p =
    cond (fills_page sheet p)
    (record { column = 0; line = 0; opening = p.opening; written = p.written + 2; lines = p.lines + 1; pages = p.pages + 1 })
    (record { column = 0; line = p.line + 1; opening = p.opening; written = p.written + 1; lines = p.lines + 1; pages = p.pages })

-- ---- 70: end the line if it holds a cell

unfoldable pub after_line_end : Sheet → Place → Place
after_line_end sheet p = cond (holds_cell p) (after_line sheet p) p

-- ---- 71: as 70, then an empty line unless the page has no line yet

unfoldable pub after_empty_line : Sheet → Place → Place
after_empty_line sheet p = let q = after_line_end sheet p in cond (has_line q) (after_line sheet q) q

-- ---- 72: as 70; the next word opens a paragraph. This waits through other format signs

unfoldable pub after_paragraph : Sheet → Place → Place
after_paragraph sheet p =
    let q = after_line_end sheet p in
    record { column = q.column; line = q.line; opening = true; written = q.written; lines = q.lines; pages = q.pages }

-- ---- 73: as 70, then end the page if it has a line

unfoldable pub after_page : Place → Place
after_page p = record { column = 0; line = 0; opening = p.opening; written = p.written + 1; lines = p.lines; pages = p.pages + 1 }

unfoldable pub after_page_end : Sheet → Place → Place
after_page_end sheet p = let q = after_line_end sheet p in cond (has_line q) (after_page q) q

-- ---- A word of `n` cells, at most W

-- on an empty line a word starts in column 0; opening a paragraph, it starts after two blanks when it has at most W-2 cells
unfoldable pub opening_blanks : Sheet → Place → ℕ → ℕ
opening_blanks sheet p n = cond (p.opening && leb (paragraph_blanks + n) sheet.width) paragraph_blanks 0

-- it follows after one blank if that fits in W
unfoldable pub joins : Sheet → Place → ℕ → Bool
joins sheet p n = leb (p.column + gap_blanks + n) sheet.width

-- the word's cells, after some blanks, are on the line
unfoldable pub after_cells : Place → ℕ → ℕ → Place
after_cells p blanks n =
    record {
      column = p.column + blanks + n;
      line = p.line;
      opening = false;
      written = p.written + blanks + n;
      lines = p.lines;
      pages = p.pages;
    }

-- on a line with cells it joins if it fits, otherwise the line ends and it starts the next
unfoldable pub after_word : Sheet → Place → ℕ → Place
after_word sheet p n =
    let q = after_line sheet p in
    cond (holds_cell p)
    (cond (joins sheet p n) (after_cells p gap_blanks n) (after_cells q (opening_blanks sheet q n) n))
    (after_cells p (opening_blanks sheet p n) n)

-- ---- Any item

unfoldable pub after_item : Sheet → Place → Item → Place
after_item sheet p (word cells) = after_word sheet p (length cells)
after_item sheet p line_end = after_line_end sheet p
after_item sheet p empty_line = after_empty_line sheet p
after_item sheet p paragraph = after_paragraph sheet p
after_item sheet p page_end = after_page_end sheet p

-- ---- What a move writes, from the place before it, the place after it and the word's cells

-- a 64 for each line that ended, and a 65 for each page
unfoldable pub marks : Place → Place → List ℕ
marks p q = replicate (q.lines - p.lines) line_mark ++ replicate (q.pages - p.pages) page_mark

-- the cells that stand on the line before the move's own: none where a line has ended
unfoldable pub standing : Place → Place → ℕ
standing p q = cond (eqb q.lines p.lines) p.column 0

-- the word's cells, after some blanks
unfoldable pub cells_after : ℕ → List ℕ → List ℕ
cells_after blanks cells = replicate blanks blank_cell ++ cells

-- then the blanks and the cells
unfoldable pub move_bytes : Place → Place → List ℕ → List ℕ
move_bytes p q cells = marks p q ++ cells_after (q.column - standing p q - length cells) cells

-- the cells of an item
unfoldable pub cells_in : Item → List ℕ
cells_in (word cells) = cells
cells_in line_end = []
cells_in empty_line = []
cells_in paragraph = []
cells_in page_end = []

abbrev pub item_bytes : Sheet → Place → Item → List ℕ
item_bytes sheet p item = move_bytes p (after_item sheet p item) (cells_in item)

-- ---- All items, from a place on

unfoldable pub after_items : Sheet → Place → List Item → Place
after_items sheet p [] = p
after_items sheet p (item ∷ items) = after_items sheet (after_item sheet p item) items

unfoldable pub items_bytes : Sheet → Place → List Item → List ℕ
items_bytes sheet p [] = []
items_bytes sheet p (item ∷ items) = item_bytes sheet p item ++ items_bytes sheet (after_item sheet p item) items

-- ---- The whole volume: end of text is as 73

unfoldable pub ended : List Item → List Item
ended items = items ++ page_end ∷ []

unfoldable pub volume_end : Sheet → List Item → Place
volume_end sheet items = after_items sheet start (ended items)

unfoldable pub volume : Sheet → List Item → List ℕ
volume sheet items = items_bytes sheet start (ended items)
