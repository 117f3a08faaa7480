-- The cells of the pages that aren't blank are, in order, the parts of the words, and these, without the hyphens that cutting put there, are the signs 1 to
-- 63. A move writes blanks, a word or a mark, and of these only the word has dots.
use Prim.Native.Nat.{ℕ, ◌≤◌, ◌<◌}
use mathlib.Core.Bool.{true}
use mathlib.Core.List.{List, [], ◌∷◌, append-nil, flatten, map}
use mathlib.Core.Path.{◌≡◌, refl, ◌∙◌, ap}
use native.Mathlib.Omega.{arith}
use native.Mathlib.Decide.{ℕ_discrete}
use lib.ListN.{length, get_or, replicate}
use borrow.Author.Tests.{le-leb, lt-leb, ne_eqb}
use Rattle.table.specs.Numbers.{blank_cell}
use Rattle.table.specs.Cells.{most_cell}
use Rattle.table.specs.Lists.{All, empty, ◌and◌}
use Rattle.table.proofs.Lists.{all_replicate, all_weaker, all_of_places}
use Rattle.table.specs.Printed.{PrintedSign, cell, format}
use Rattle.pages.specs.Words.{Item, parts, items_of}
use Rattle.pages.specs.Parts.{Sized, bare, cuts_of}
use Rattle.pages.specs.Place.{cells_after, volume}
use Rattle.pages.specs.Pages.{Line, Page, bytes_of_lines, bytes_of_pages, pages_of}
use Rattle.pages.specs.Lists.{only}
use Rattle.pages.specs.Fitting.{Dotted, WordFits, Fitting, words_in}
use Rattle.pages.specs.Signs.{is_dotted, ends_word, stays_in_word}
use Rattle.pages.proofs.Lists.{flatten_append, only_append, only_all, only_none, only_same}
use Rattle.pages.proofs.Kept.{Kept, volume_keeps}
use Rattle.pages.proofs.Volume.{pages_have_the_bytes}
use Rattle.pages.proofs.Words.{Word, format_signs, no_format, words_join, items_are_cuts, words_are_words, items_fit}
use Rattle.pages.proofs.Parts.{cut_as_written, cuts_sized, bare_joined}
use Rattle.pages.specs.declared.Sheet.{Sheet}

-- ---- What a move writes

dotted : (c : ℕ) → Dotted c → is_dotted c ≡ true
unfolding is_dotted
dotted c h = rw (le-leb 1 c h.least, le-leb c most_cell h.most)

dots_after : {W : ℕ} (blanks : ℕ) {w : List ℕ} → WordFits W w → only is_dotted (cells_after blanks w) ≡ w
unfolding cells_after is_dotted
dots_after blanks {w} fits =
    let none = only_none is_dotted (all_replicate blanks blank_cell refl) in
    let all = only_all is_dotted (all_weaker dotted fits.dotted) in
    rw (only_append is_dotted (replicate blanks blank_cell) w, none, all)

dots_kept : (sheet : Sheet) → Kept sheet (λ bytes words spots p. only is_dotted bytes ≡ flatten words)
unfolding only is_dotted flatten
dots_kept sheet =
    record {
      cells = λ bytes words spots p blanks w fits h apart r.
          rw (only_append is_dotted bytes (cells_after blanks w), dots_after blanks fits, flatten_append words (w ∷ []), append-nil, r);
      line = λ bytes words spots p h r. rw (only_append, append-nil) r;
      page = λ bytes words spots p c l m r. rw (only_append, append-nil) r;
      opens = λ bytes words spots p r. r;
    }

-- ---- Marks have no dots: the bytes of the pages and their cells

dots_of_lines : (lines : List Line) → only is_dotted (bytes_of_lines lines) ≡ only is_dotted (flatten lines)
unfolding only is_dotted flatten bytes_of_lines
dots_of_lines [] = refl
dots_of_lines (line ∷ lines) = rw (only_append, only_append, dots_of_lines lines)

dots_of_pages : (pages : List Page) → only is_dotted (bytes_of_pages pages) ≡ only is_dotted (flatten (flatten pages))
unfolding only is_dotted flatten bytes_of_pages
dots_of_pages [] = refl
dots_of_pages (page ∷ pages) = rw (only_append, flatten_append, only_append, dots_of_lines page, dots_of_pages pages)

-- ---- The volume

module _ (sheet : Sheet) (items : List Item) (fits : Fitting sheet.width items) (room : 0 < sheet.length) where
  -- the output bytes 1 to 63, all but 0, 64 and 65, are the cells of the words, in order
  pub bytes_have_the_words : only is_dotted (volume sheet items) ≡ flatten (words_in items)
  unfolding only flatten
  bytes_have_the_words = volume_keeps sheet _ (dots_kept sheet) items fits room refl

  -- so are the cells of the pages that aren't blank
  pub cells_are_the_words : only is_dotted (flatten (flatten (pages_of (volume sheet items)))) ≡ flatten (words_in items)
  cells_are_the_words =
      rw (← (dots_of_pages (pages_of (volume sheet items))), pages_have_the_bytes sheet items fits room) bytes_have_the_words

-- of printed signs, those that end no word are 1 to 63
signs_dotted : (g : ℕ) → PrintedSign g → stays_in_word g ≡ is_dotted g
unfolding is_dotted ends_word
signs_dotted g (cell h) = go (ℕ_discrete g blank_cell)
  where
    go : Dec (g ≡ blank_cell) → stays_in_word g ≡ is_dotted g
    go (yes e) = rw e
    go (no d) = rw (ne_eqb g blank_cell d, no_format g h, le-leb 1 g (omega arith), le-leb g most_cell h)
signs_dotted g (format l m) =
    rw (ne_eqb g blank_cell (λ e. omega arith), format_signs g l m, le-leb 1 g (omega arith), lt-leb g most_cell (omega arith))

-- the words of the signs, cut and without their hyphens, are the words
all_bare_joined : {W : ℕ} → 2 ≤ W → {words : List (List ℕ)} → All Word words → flatten (flatten (map bare (map (parts W) words))) ≡ flatten words
unfolding flatten
all_bare_joined wide empty = refl
all_bare_joined {W} wide (◌and◌ {x = w} {xs = words} h hs) =
    rw (
      flatten_append (bare (parts W w)) (flatten (map bare (map (parts W) words))),
      bare_joined (cut_as_written W wide w h.least),
      all_bare_joined wide hs,
    )

all_sized : {W : ℕ} → 2 ≤ W → {words : List (List ℕ)} → All Word words → All (Sized W) (map (parts W) words)
all_sized wide empty = empty
all_sized {W} wide (◌and◌ {x = w} h hs) = cuts_sized (cut_as_written W wide w h.least) and all_sized wide hs

module _ (sheet : Sheet) (signs : List ℕ) (printed : (i : ℕ) → i < length signs → PrintedSign (get_or signs i 0)) (wide : 2 ≤ sheet.width) where
  all_printed : All PrintedSign signs
  all_printed = all_of_places signs 0 printed

  -- the cells of the pages that aren't blank are, in order, the parts of the words of the signs
  pub volume_has_the_parts : 0 < sheet.length
      → only is_dotted (flatten (flatten (pages_of (volume sheet (items_of sheet.width signs))))) ≡ flatten (flatten (cuts_of sheet.width signs))
  volume_has_the_parts room =
      cells_are_the_words sheet (items_of sheet.width signs) (items_fit wide signs printed) room ∙ ap flatten (items_are_cuts sheet.width signs)

  -- these have W cells each with the hyphen, but for the last of a word, which has 1 to W
  pub signs_cut_sized : All (Sized sheet.width) (cuts_of sheet.width signs)
  unfolding cuts_of
  signs_cut_sized = all_sized wide (words_are_words signs all_printed)

  -- without the hyphens they are the signs 1 to 63
  pub parts_are_the_signs : flatten (flatten (map bare (cuts_of sheet.width signs))) ≡ only is_dotted signs
  unfolding cuts_of
  parts_are_the_signs =
      all_bare_joined wide (words_are_words signs all_printed) ∙ words_join signs ∙ only_same stays_in_word (all_weaker signs_dotted all_printed)
