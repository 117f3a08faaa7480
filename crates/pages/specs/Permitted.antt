-- 'A permitted layout for demand 3 follows all this, but may also end a line that holds a cell before any word': the rules of 'Lines and pages' as a
-- relation, one constructor for each, written from the paper. It mentions no move of our layout.
use Rattle.std.specs.Prelude.{ℕ, ◌+◌, ◌≤◌, ◌<◌, Bool, true, false, List, [], ◌∷◌, ◌++◌, ◌≡◌, length}
use Rattle.pages.specs.Numbers.{gap_blanks, paragraph_blanks}
use Rattle.pages.specs.Words.{Item, word, line_end, empty_line, paragraph, page_end}
use Rattle.pages.specs.declared.Sheet.{Sheet}

-- where a word ends: the line of the whole volume, counted from 0, and the column just after its last cell
pub record Spot : Type 0 where
  pub line : ℕ
  pub column : ℕ

-- how far a layout has come: the lines of the volume that have ended, how many lines each page has that has ended, the lines of the page that have, the
-- cells of the line, and whether the next word opens a paragraph
pub record Stage : Type 0 where
  pub lines : ℕ
  pub pages : List ℕ
  pub on_page : ℕ
  pub column : ℕ
  pub opening : Bool

abbrev pub outset : Stage
outset = record { lines = 0; pages = []; on_page = 0; column = 0; opening = false }

-- the stage after a word that ends before column `c` of the line
abbrev pub worded : Stage → ℕ → Stage
worded s c = record { lines = s.lines; pages = s.pages; on_page = s.on_page; column = c; opening = false }

-- the next word opens a paragraph
abbrev pub opened : Stage → Stage
opened s = record { lines = s.lines; pages = s.pages; on_page = s.on_page; column = s.column; opening = true }

-- the page ends, with the lines that it has
abbrev pub paged : Stage → Stage
paged s = record { lines = s.lines; pages = s.pages ++ s.on_page ∷ []; on_page = 0; column = 0; opening = s.opening }

-- the line ends; a page ends by itself after P lines
abbrev pub lined : Stage → Stage
lined s = record { lines = s.lines + 1; pages = s.pages; on_page = s.on_page + 1; column = 0; opening = s.opening }

pub data LineEnds (sheet : Sheet) (s : Stage) : Stage → Type 0 where
  page_goes_on : s.on_page + 1 < sheet.length → LineEnds sheet s (lined s)
  page_is_full : s.on_page + 1 ≡ sheet.length → LineEnds sheet s (paged (lined s))

-- end the line if it holds a cell
pub data EndsIfHeld (sheet : Sheet) (s : Stage) : Stage → Type 0 where
  line_empty : s.column ≡ 0 → EndsIfHeld sheet s s
  line_held : {t : Stage} → 0 < s.column → LineEnds sheet s t → EndsIfHeld sheet s t

-- end the page if it has a line
pub data PageEndsIfLined (s : Stage) : Stage → Type 0 where
  page_empty : s.on_page ≡ 0 → PageEndsIfLined s s
  page_lined : 0 < s.on_page → PageEndsIfLined s (paged s)

-- from the stage `s` on, the items can be laid out with their words at `spots`, in a volume of so many lines, whose
-- pages have so many each
pub data Lays (sheet : Sheet) : Stage → List Item → List Spot → ℕ → List ℕ → Type 0 where
  -- on an empty line a word starts in column 0
  starts : {s : Stage} {cells : List ℕ} {items : List Item} {spots : List Spot} {lines : ℕ} {pages : List ℕ} → s.column ≡ 0 → s.opening ≡ false
      → Lays sheet (worded s (length cells)) items spots lines pages
      → Lays sheet s (word cells ∷ items) (record { line = s.lines; column = length cells } ∷ spots) lines pages
  -- opening a paragraph, it starts after two blanks when it has at most W-2 cells
  opens : {s : Stage} {cells : List ℕ} {items : List Item} {spots : List Spot} {lines : ℕ} {pages : List ℕ} → s.column ≡ 0 → s.opening ≡ true
      → paragraph_blanks + length cells ≤ sheet.width → Lays sheet (worded s (paragraph_blanks + length cells)) items spots lines pages
      → Lays sheet s (word cells ∷ items) (record { line = s.lines; column = paragraph_blanks + length cells } ∷ spots) lines pages
  -- else in column 0
  opens_wide : {s : Stage} {cells : List ℕ} {items : List Item} {spots : List Spot} {lines : ℕ} {pages : List ℕ} → s.column ≡ 0 → s.opening ≡ true
      → sheet.width < paragraph_blanks + length cells → Lays sheet (worded s (length cells)) items spots lines pages
      → Lays sheet s (word cells ∷ items) (record { line = s.lines; column = length cells } ∷ spots) lines pages
  -- on a line with cells it follows after one blank if that fits in W
  follows : {s : Stage} {cells : List ℕ} {items : List Item} {spots : List Spot} {lines : ℕ} {pages : List ℕ} → 0 < s.column
      → s.column + gap_blanks + length cells ≤ sheet.width → Lays sheet (worded s (s.column + gap_blanks + length cells)) items spots lines pages
      → Lays sheet s (word cells ∷ items) (record { line = s.lines; column = s.column + gap_blanks + length cells } ∷ spots) lines pages
  -- otherwise the line ends and it starts the next
  overflows : {s t : Stage} {cells : List ℕ} {items : List Item} {spots : List Spot} {lines : ℕ} {pages : List ℕ} → 0 < s.column
      → sheet.width < s.column + gap_blanks + length cells → LineEnds sheet s t → Lays sheet t (word cells ∷ items) spots lines pages
      → Lays sheet s (word cells ∷ items) spots lines pages
  -- a permitted layout may also end a line that holds a cell before any word
  ends_early : {s t : Stage} {cells : List ℕ} {items : List Item} {spots : List Spot} {lines : ℕ} {pages : List ℕ} → 0 < s.column → LineEnds sheet s t
      → Lays sheet t (word cells ∷ items) spots lines pages → Lays sheet s (word cells ∷ items) spots lines pages
  -- 70: end the line if it holds a cell
  sign_70 : {s t : Stage} {items : List Item} {spots : List Spot} {lines : ℕ} {pages : List ℕ} → EndsIfHeld sheet s t → Lays sheet t items spots lines pages
      → Lays sheet s (line_end ∷ items) spots lines pages
  -- 71: as 70, then an empty line
  sign_71 : {s t u : Stage} {items : List Item} {spots : List Spot} {lines : ℕ} {pages : List ℕ} → EndsIfHeld sheet s t → 0 < t.on_page → LineEnds sheet t u
      → Lays sheet u items spots lines pages → Lays sheet s (empty_line ∷ items) spots lines pages
  -- unless the page has no line yet
  sign_71_at_top : {s t : Stage} {items : List Item} {spots : List Spot} {lines : ℕ} {pages : List ℕ} → EndsIfHeld sheet s t → t.on_page ≡ 0
      → Lays sheet t items spots lines pages → Lays sheet s (empty_line ∷ items) spots lines pages
  -- 72: as 70; the next word opens a paragraph
  sign_72 : {s t : Stage} {items : List Item} {spots : List Spot} {lines : ℕ} {pages : List ℕ} → EndsIfHeld sheet s t
      → Lays sheet (opened t) items spots lines pages → Lays sheet s (paragraph ∷ items) spots lines pages
  -- 73: as 70, then end the page if it has a line
  sign_73 : {s t u : Stage} {items : List Item} {spots : List Spot} {lines : ℕ} {pages : List ℕ} → EndsIfHeld sheet s t → PageEndsIfLined t u
      → Lays sheet u items spots lines pages → Lays sheet s (page_end ∷ items) spots lines pages
  -- end of text: as 73
  end_of_text : {s t u : Stage} → EndsIfHeld sheet s t → PageEndsIfLined t u → Lays sheet s [] [] u.lines u.pages

-- a layout says where each word ends, how many lines there are, and how many of them each page has
pub record Layout : Type 0 where
  pub spots : List Spot
  pub lines : ℕ
  pub pages : List ℕ

abbrev pub Permitted : Sheet → List Item → Layout → Type 0
Permitted sheet items layout = Lays sheet outset items layout.spots layout.lines layout.pages
