-- Demands 2 and 3 of a text and an accepted table: the laws of the layers, put together. Everything is over the words and format signs that the pieces
-- of the text yield, for every W and P within the limits and every symbol that follows.
use Prim.Native.Nat.{ℕ, ◌<◌, ◌≤◌}
use mathlib.Core.Bool.{Bool}
use mathlib.Core.List.{List, map, flatten}
use mathlib.Core.Path.{◌≡◌, subst, ◌∙◌}
use native.Mathlib.Omega.{arith}
use lib.ListN.{length, get_or}
use Rattle.table.specs.Printed.{PrintedSign}
use Rattle.table.specs.Refusals.{Between}
use Rattle.table.specs.Table.{table_of}
use Rattle.table.specs.Verdict.{verdict_of}
use Rattle.std.specs.Prelude.{Ok}
use Rattle.table.specs.Lists.{All}
use Rattle.translation.specs.Collapse.{collapsed}
use Rattle.translation.specs.Pieces.{characters, pieces_of, signs_of}
use Rattle.translation.specs.declared.Setting.{Setting}
use Rattle.table.proofs.Sound.{accepted_sound}
use Rattle.translation.proofs.Consumed.{consumed}
use Rattle.translation.proofs.Signs.{signs_printed}
use Rattle.pages.specs.Numbers.{least_width, most_width, least_length, most_length, line_mark, page_mark}
use Rattle.pages.specs.Lists.{only}
use Rattle.pages.specs.Words.{Item, items_of}
use Rattle.pages.specs.Parts.{Sized, bare, cuts_of}
use Rattle.pages.specs.Place.{volume}
use Rattle.pages.specs.Pages.{pages_of, bytes_of_pages}
use Rattle.table.specs.Search.{count}
use Rattle.pages.specs.Permitted.{Layout, Permitted}
use Rattle.pages.specs.Spots.{layout_of, with_choices, NoLater}
use Rattle.pages.specs.Fitting.{Fitting, words_in}
use Rattle.pages.specs.Right.{PageRight}
use Rattle.pages.specs.Signs.{is_dotted}
use Rattle.pages.specs.Drawn.{Shows}
use Rattle.pages.specs.Volume.{bytes_of as bytes_of_signs}
use Rattle.layout.specs.Emboss.{bytes_of}
use Rattle.pages.proofs.Permitted as Permitted-laws
use Rattle.pages.proofs.NoLater as NoLater-laws
use Rattle.pages.proofs.Counts.{lines_are_64s, pages_are_65s}
use Rattle.pages.proofs.Words.{items_fit}
use Rattle.pages.proofs.Volume as Volume-laws
use Rattle.pages.proofs.Signs.{volume_has_the_parts, signs_cut_sized, parts_are_the_signs}
use Rattle.pages.proofs.Drawn.{bytes_show_the_layout, choices_are_the_bytes}
use Rattle.pages.proofs.Ended.{volume_sizes_counted}
use Rattle.pages.specs.declared.Sheet.{Sheet}

module _ (setting : Setting) (image text : List ℕ) (sheet : Sheet) (width : Between least_width most_width sheet.width) (page_length : Between least_length most_length sheet.length)
    (accepted : verdict_of image ≡ Ok tt) where
  -- the signs of the text, and its words and format signs
  abbrev signs : List ℕ
  signs = signs_of (pieces_of (table_of image) setting text)

  abbrev items : List Item
  items = items_of sheet.width signs

  -- ---- Demand 2

  -- the characters of the pieces, joined, are the collapsed text
  pub text_consumed : flatten (map characters (pieces_of (table_of image) setting text)) ≡ collapsed text
  unfolding pieces_of
  text_consumed = consumed (table_of image) setting (accepted_sound image accepted) (collapsed text)

  signs_are_printed : (i : ℕ) → i < length signs → PrintedSign (get_or signs i 0)
  unfolding pieces_of
  signs_are_printed = signs_printed (table_of image) (accepted_sound image accepted) setting (collapsed text)

  cuttable : 2 ≤ sheet.width
  cuttable = let w = width.low in omega arith

  -- the words have a cell and at most W, and their cells are 1 to 63
  text_fits : Fitting sheet.width items
  text_fits = items_fit cuttable signs signs_are_printed

  page_room : 0 < sheet.length
  page_room = let p = page_length.low in omega arith

  -- no line has more than W cells or ends in a blank, its cells are at most 63; no page has more than P lines, or none
  pub text_pages_right : All (PageRight sheet) (pages_of (bytes_of (table_of image) setting text sheet))
  unfolding bytes_of_signs
  text_pages_right = Volume-laws.pages_right sheet items text_fits page_room

  -- the pages, as lists of lines, have the output's bytes
  pub text_pages_bytes : bytes_of_pages (pages_of (bytes_of (table_of image) setting text sheet)) ≡ bytes_of (table_of image) setting text sheet
  unfolding bytes_of_signs
  text_pages_bytes = Volume-laws.pages_have_the_bytes sheet items text_fits page_room

  -- the answer's lines and pages are those of the pages
  pub text_lines_counted :
      length (flatten (pages_of (bytes_of (table_of image) setting text sheet))) ≡ count line_mark (bytes_of (table_of image) setting text sheet)
  unfolding bytes_of_signs
  text_lines_counted = Volume-laws.lines_counted sheet items text_fits page_room

  pub text_pages_counted : length (pages_of (bytes_of (table_of image) setting text sheet)) ≡ count page_mark (bytes_of (table_of image) setting text sheet)
  unfolding bytes_of_signs
  text_pages_counted = Volume-laws.pages_counted sheet items text_fits page_room

  -- the cells of the pages that aren't blank are, in order, the parts of the words
  pub text_has_the_parts :
      only is_dotted (flatten (flatten (pages_of (bytes_of (table_of image) setting text sheet)))) ≡ flatten (flatten (cuts_of sheet.width signs))
  unfolding bytes_of_signs
  text_has_the_parts = volume_has_the_parts sheet signs signs_are_printed cuttable page_room

  -- each part of a word but the last has W cells, the hyphen the last of them, and the last has 1 to W
  pub text_parts_sized : All (Sized sheet.width) (cuts_of sheet.width signs)
  text_parts_sized = signs_cut_sized sheet signs signs_are_printed cuttable

  -- without these hyphens they are, in order, the signs 1 to 63
  pub text_has_the_signs : flatten (flatten (map bare (cuts_of sheet.width signs))) ≡ only is_dotted signs
  text_has_the_signs = parts_are_the_signs sheet signs signs_are_printed cuttable

  -- ---- Demand 3

  pub text_permitted : Permitted sheet items (layout_of sheet items)
  text_permitted = Permitted-laws.ours_permitted sheet page_room items

  -- each word of ours ends on no later line, and on the same line in no later column; ours has no more lines and no more pages
  pub text_no_later : (layout : Layout) → Permitted sheet items layout → NoLater (layout_of sheet items) layout
  text_no_later = NoLater-laws.no_later sheet page_room items

  -- the output shows our layout: its spots, its lines, and the lines of each of its pages
  pub text_shown : Shows (bytes_of (table_of image) setting text sheet) (words_in items) (layout_of sheet items)
  unfolding bytes_of_signs
  text_shown = bytes_show_the_layout sheet items text_fits page_room

  -- and its lines and pages are the output's
  pub text_layout_lines : (layout_of sheet items).lines ≡ count line_mark (bytes_of (table_of image) setting text sheet)
  unfolding bytes_of_signs layout_of
  text_layout_lines = lines_are_64s sheet items text_fits page_room

  pub text_layout_pages : length (layout_of sheet items).pages ≡ count page_mark (bytes_of (table_of image) setting text sheet)
  unfolding bytes_of_signs layout_of
  text_layout_pages = volume_sizes_counted sheet items page_room ∙ pages_are_65s sheet items text_fits page_room

  -- every permitted layout arises from choices, and is shown by the bytes of the same words with the line ended before each chosen one
  pub permitted_shown : (layout : Layout) → Permitted sheet items layout
      → (choices : List Bool) × Shows (volume sheet (with_choices choices items)) (words_in items) layout
  permitted_shown layout d =
      let c = Permitted-laws.permitted_by_choices sheet page_room items layout d in (
        c.choices,
        subst (λ (l : Layout). Shows (volume sheet (with_choices c.choices items)) (words_in items) l) c.same
            (choices_are_the_bytes sheet items text_fits page_room c.choices),
      )
