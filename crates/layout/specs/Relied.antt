-- What a caller of the whole call may rely on, in the words of the three demands: of a setting, an image, a text, a sheet, the bytes lent, the answer and
-- the bytes afterwards. proofs/Relied.antt shows each of whatever answer and bytes the promise of `emboss` allows.
use Rattle.std.specs.Prelude.{ℕ, suc, ◌<◌, ◌≤◌, false, ◌≡◌, length, take, drop, Ok}
use mathlib.Core.List.{List, ◌∷◌, map, flatten}
use Rattle.table.specs.Refusals.{Between, HasLetter}
use Rattle.table.specs.Table.{table_of}
use Rattle.table.specs.Verdict.{verdict_of}
use Rattle.table.specs.Lists.{All}
use Rattle.translation.specs.Collapse.{collapsed}
use Rattle.translation.specs.Decide.{state, moved}
use Rattle.translation.specs.Pieces.{Piece, characters, pieces_of, signs_of}
use Rattle.translation.specs.Chosen.{Chosen, piece}
use Rattle.translation.specs.declared.Setting.{Setting}
use Rattle.pages.specs.Numbers.{least_width, most_width, least_length, most_length}
use Rattle.pages.specs.Lists.{only}
use Rattle.pages.specs.Words.{Item, items_of}
use Rattle.pages.specs.Parts.{Sized, bare, cuts_of}
use Rattle.pages.specs.Pages.{pages_of, bytes_of_pages}
use Rattle.pages.specs.Permitted.{Layout, Permitted}
use Rattle.pages.specs.Spots.{NoLater}
use Rattle.pages.specs.Fitting.{words_in}
use Rattle.pages.specs.Right.{PageRight}
use Rattle.pages.specs.Signs.{is_dotted}
use Rattle.pages.specs.Drawn.{Shows}
use Rattle.layout.specs.Emboss.{Answer, written, pieces, lines, pages, bytes_of}
use Rattle.pages.specs.declared.Sheet.{Sheet}

-- the bytes that the call wrote, read back out of the bytes afterwards
abbrev pub wrote : Answer → List ℕ → List ℕ
wrote answer after = take (written answer) after

-- the pieces of the text by the table of the image, and its words and format signs
abbrev pub text_pieces : Setting → List ℕ → List ℕ → List Piece
text_pieces setting image text = pieces_of (table_of image) setting text

abbrev pub text_items : Setting → List ℕ → List ℕ → Sheet → List Item
text_items setting image text sheet = items_of sheet.width (signs_of (text_pieces setting image text))

-- its words, each as its parts
abbrev pub text_cuts : Setting → List ℕ → List ℕ → Sheet → List (List (List ℕ))
text_cuts setting image text sheet = cuts_of sheet.width (signs_of (text_pieces setting image text))

-- demand 1: the call changed no byte, and has nothing to count
pub record Untouched (before : List ℕ) (answer : Answer) (after : List ℕ) : Type 0 where
  pub bytes : after ≡ before
  pub written : written answer ≡ 0
  pub pieces : pieces answer ≡ 0
  pub lines : lines answer ≡ 0
  pub pages : pages answer ≡ 0

-- demand 1: the table, the sizes and the room are right, and beyond the written bytes nothing changed
pub record Bounded (image : List ℕ) (sheet : Sheet) (before : List ℕ) (answer : Answer) (after : List ℕ) : Type 0 where
  pub accepted : verdict_of image ≡ Ok tt
  pub width : Between least_width most_width sheet.width
  pub page_length : Between least_length most_length sheet.length
  pub room : written answer ≤ length before
  pub beyond : drop (written answer) after ≡ drop (written answer) before

-- demand 2: the collapsed text is consumed from front to back, at each place by the first admissible entry or by the character's own record, and the
-- states start at no and are moved by each piece's class. What a piece is given is the rest of the text: the first piece all of it, each next one what the
-- one before leaves; and its first character has an alphabet record. The symbol that follows has
-- one too; it is looked at past the end and never consumed
pub record Translates (setting : Setting) (image text : List ℕ) (answer : Answer) : Type 0 where
  pub counted : pieces answer ≡ length (text_pieces setting image text)
  pub consumed : flatten (map characters (text_pieces setting image text)) ≡ collapsed text
  pub first_rest : 0 < pieces answer → (piece (text_pieces setting image text) 0).rest ≡ collapsed text
  pub next_rest : (i : ℕ) → suc i < pieces answer
      → (piece (text_pieces setting image text) (suc i)).rest ≡ drop (piece (text_pieces setting image text) i).shift (piece (text_pieces setting image text) i).rest
  pub known : (i : ℕ) → i < pieces answer → (c : ℕ) (after : List ℕ) → (piece (text_pieces setting image text) i).rest ≡ c ∷ after
      → HasLetter (table_of image).letters c
  pub following_known : HasLetter (table_of image).letters setting.following
  pub chosen : (i : ℕ) → i < pieces answer → Chosen (table_of image) setting (piece (text_pieces setting image text) i)
  pub start : 0 < pieces answer → (v : ℕ) → state (piece (text_pieces setting image text) 0).states v ≡ false
  pub move : (i : ℕ) → suc i < pieces answer
      → (piece (text_pieces setting image text) (suc i)).states
      ≡ moved (table_of image) (piece (text_pieces setting image text) i).class (piece (text_pieces setting image text) i).states

-- demand 2: the written bytes are those of the rules, and read back as pages they keep every rule of lines and pages. The cells that aren't blank are, in
-- order, the parts of the words that the signs make: each part of a word but the last has W cells, of which the hyphen is the last. Without these hyphens they
-- are the signs 1 to 63
pub record LaysOut (setting : Setting) (image text : List ℕ) (sheet : Sheet) (answer : Answer) (after : List ℕ) : Type 0 where
  pub exact : wrote answer after ≡ bytes_of (table_of image) setting text sheet
  pub right : All (PageRight sheet) (pages_of (wrote answer after))
  pub bytes : bytes_of_pages (pages_of (wrote answer after)) ≡ wrote answer after
  pub lines : length (flatten (pages_of (wrote answer after))) ≡ lines answer
  pub pages : length (pages_of (wrote answer after)) ≡ pages answer
  pub cells : only is_dotted (flatten (flatten (pages_of (wrote answer after)))) ≡ flatten (flatten (text_cuts setting image text sheet))
  pub parts : All (Sized sheet.width) (text_cuts setting image text sheet)
  pub signs : flatten (flatten (map bare (text_cuts setting image text sheet))) ≡ only is_dotted (signs_of (text_pieces setting image text))

-- demand 3: the layout that the written bytes show, page by page, is permitted; no permitted layout has a word earlier, fewer lines or fewer pages
pub record Earliest (setting : Setting) (image text : List ℕ) (sheet : Sheet) (answer : Answer) (after : List ℕ) : Type 0 where
  pub ours : Layout
  pub shown : Shows (wrote answer after) (words_in (text_items setting image text sheet)) ours
  pub lines : ours.lines ≡ lines answer
  pub pages : length ours.pages ≡ pages answer
  pub permitted : Permitted sheet (text_items setting image text sheet) ours
  pub no_later : (other : Layout) → Permitted sheet (text_items setting image text sheet) other → NoLater ours other
