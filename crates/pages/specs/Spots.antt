-- Demand 3: our layout as a list of spots with its lines and pages, and the layouts by choices: a choice of yes before a word ends its line, if that
-- holds a cell.
use Rattle.std.specs.Prelude.{ℕ, suc, ◌+◌, ◌-◌, ◌≤◌, Bool, true, false, List, [], ◌∷◌, ◌++◌, ◌≡◌, length, replicate}
use Rattle.pages.specs.Words.{Item, word, line_end, empty_line, paragraph, page_end}
use Rattle.pages.specs.Place.{start, after_item, ended, volume_end}
use Rattle.pages.specs.Permitted.{Spot, Layout}
use Rattle.pages.specs.declared.Place.{Place}
use Rattle.pages.specs.declared.Sheet.{Sheet}

-- where the word that was placed last ends
abbrev pub spot : Place → Spot
spot p = record { line = p.lines; column = p.column }

-- a word has a spot, and a format sign has none
unfoldable pub spot_after : Place → Item → List Spot
spot_after q (word cells) = spot q ∷ []
spot_after q line_end = []
spot_after q empty_line = []
spot_after q paragraph = []
spot_after q page_end = []

-- where each word ends, from a place on
unfoldable pub spots_from : Sheet → Place → List Item → List Spot
spots_from sheet p [] = []
spots_from sheet p (item ∷ items) = let q = after_item sheet p item in spot_after q item ++ spots_from sheet q items

-- the lines of the page that ends on the way from one place to another, if one does: those that it had, and those that ended on the way
unfoldable pub ended_pages : Place → Place → List ℕ
ended_pages p q = replicate (q.pages - p.pages) (p.line + (q.lines - p.lines))

-- how many lines each page has, from a place on
unfoldable pub sizes_from : Sheet → Place → List Item → List ℕ
sizes_from sheet p [] = []
sizes_from sheet p (item ∷ items) = let q = after_item sheet p item in ended_pages p q ++ sizes_from sheet q items

-- our layout
unfoldable pub layout_of : Sheet → List Item → Layout
layout_of sheet items =
    record { spots = spots_from sheet start items; lines = (volume_end sheet items).lines; pages = sizes_from sheet start (ended items) }

-- how many words there are
unfoldable pub word_count : List Item → ℕ
word_count [] = 0
word_count (word cells ∷ items) = suc (word_count items)
word_count (line_end ∷ items) = word_count items
word_count (empty_line ∷ items) = word_count items
word_count (paragraph ∷ items) = word_count items
word_count (page_end ∷ items) = word_count items

-- ---- Choices: one for each word, and no where the list is too short

-- the line is ended before each word that is chosen: sign 70 does so if the line holds a cell
unfoldable pub with_choices : List Bool → List Item → List Item
with_choices choices [] = []
with_choices [] (word cells ∷ items) = word cells ∷ with_choices [] items
with_choices (true ∷ choices) (word cells ∷ items) = line_end ∷ word cells ∷ with_choices choices items
with_choices (false ∷ choices) (word cells ∷ items) = word cells ∷ with_choices choices items
with_choices choices (line_end ∷ items) = line_end ∷ with_choices choices items
with_choices choices (empty_line ∷ items) = empty_line ∷ with_choices choices items
with_choices choices (paragraph ∷ items) = paragraph ∷ with_choices choices items
with_choices choices (page_end ∷ items) = page_end ∷ with_choices choices items

-- a layout that arises from choices, one for each word
pub record ByChoices (sheet : Sheet) (items : List Item) (layout : Layout) : Type 0 where
  pub choices : List Bool
  pub one_each : length choices ≡ word_count items
  pub same : layout_of sheet (with_choices choices items) ≡ layout

-- ---- No later: the words of one layout against those of another

-- on no later line of the volume, and where the line is equal in no later column
pub record NoLaterSpot (a b : Spot) : Type 0 where
  pub line : a.line ≤ b.line
  pub column : a.line ≡ b.line → a.column ≤ b.column

-- word by word
pub data NoLaterSpots : List Spot → List Spot → Type 0 where
  no_word : NoLaterSpots [] []
  each_word : {a b : Spot} {ours theirs : List Spot} → NoLaterSpot a b → NoLaterSpots ours theirs → NoLaterSpots (a ∷ ours) (b ∷ theirs)

pub record NoLater (a b : Layout) : Type 0 where
  pub spots : NoLaterSpots a.spots b.spots
  pub lines : a.lines ≤ b.lines
  pub pages : length a.pages ≤ length b.pages
