-- Laws of the moves, case by case: what each move does, by the fact that the paper names and not by a test.
use Prim.Native.Nat.{ℕ, zero, suc, ◌+◌, ◌≤◌, ◌<◌}
use mathlib.Core.Bool.{Bool, true, false, ◌&&◌}
use mathlib.Core.Logic.{◌⊎◌, inl, inr}
use mathlib.Core.Path.{◌≡◌, refl, sym, ◌∙◌}
use native.Mathlib.Decide.{dec_le, dec_lt}
use native.Mathlib.Omega.{arith}
use lib.Dec.{leb}
use borrow.Author.Tests.{lt-ltb, le-ltb, le-leb, lt-leb, eq-eqb, ne_eqb}
use Rattle.pages.specs.Numbers.{gap_blanks, paragraph_blanks}
use Rattle.pages.specs.Place.{holds_cell, has_line, fills_page, after_line, after_line_end, after_empty_line, after_paragraph, after_page, after_page_end, opening_blanks, joins, after_cells, after_word}
use Rattle.pages.specs.inside.Gather.{Modest}
use Rattle.pages.specs.declared.Place.{Place}
use Rattle.pages.specs.declared.Sheet.{Sheet}

-- ---- The tests

pub holds_cell_lem : (p : Place) → 0 < p.column → holds_cell p ≡ true
unfolding holds_cell
holds_cell_lem p h = lt-ltb 0 p.column h

pub holds_none : (p : Place) → p.column ≡ 0 → holds_cell p ≡ false
unfolding holds_cell
holds_none p h = le-ltb 0 p.column (omega arith)

pub has_line_lem : (p : Place) → 0 < p.line → has_line p ≡ true
unfolding has_line
has_line_lem p h = lt-ltb 0 p.line h

pub has_none : (p : Place) → p.line ≡ 0 → has_line p ≡ false
unfolding has_line
has_none p h = le-ltb 0 p.line (omega arith)

pub page_fills : (sheet : Sheet) (p : Place) → p.line + 1 ≡ sheet.length → fills_page sheet p ≡ true
unfolding fills_page
page_fills sheet p h = eq-eqb (p.line + 1) sheet.length h

pub page_goes_on : (sheet : Sheet) (p : Place) → p.line + 1 < sheet.length → fills_page sheet p ≡ false
unfolding fills_page
page_goes_on sheet p h = ne_eqb (p.line + 1) sheet.length (λ e. omega arith)

-- ---- A line's end

pub line_fills : (sheet : Sheet) (p : Place) → p.line + 1 ≡ sheet.length
    → after_line sheet p
    ≡ record { column = 0; line = 0; opening = p.opening; written = p.written + 2; lines = p.lines + 1; pages = p.pages + 1 }
unfolding after_line
line_fills sheet p h = rw (page_fills sheet p h)

pub line_goes_on : (sheet : Sheet) (p : Place) → p.line + 1 < sheet.length
    → after_line sheet p
    ≡ record { column = 0; line = p.line + 1; opening = p.opening; written = p.written + 1; lines = p.lines + 1; pages = p.pages }
unfolding after_line
line_goes_on sheet p h = rw (page_goes_on sheet p h)

pub line_end_held : (sheet : Sheet) (p : Place) → 0 < p.column → after_line_end sheet p ≡ after_line sheet p
unfolding after_line_end
line_end_held sheet p h = rw (holds_cell_lem p h)

pub line_end_empty : (sheet : Sheet) (p : Place) → p.column ≡ 0 → after_line_end sheet p ≡ p
unfolding after_line_end
line_end_empty sheet p h = rw (holds_none p h)

-- ---- A word

pub opening_none : (sheet : Sheet) (p : Place) (n : ℕ) → p.opening ≡ false → opening_blanks sheet p n ≡ 0
unfolding opening_blanks
opening_none sheet p n h = rw h

pub opening_blanks_lem : (sheet : Sheet) (p : Place) (n : ℕ) → p.opening ≡ true → paragraph_blanks + n ≤ sheet.width → opening_blanks sheet p n ≡ paragraph_blanks
unfolding opening_blanks
opening_blanks_lem sheet p n h fits = rw (h, le-leb (paragraph_blanks + n) sheet.width fits)

pub opening_wide : (sheet : Sheet) (p : Place) (n : ℕ) → p.opening ≡ true → sheet.width < paragraph_blanks + n → opening_blanks sheet p n ≡ 0
unfolding opening_blanks
opening_wide sheet p n h wide = rw (h, lt-leb (paragraph_blanks + n) sheet.width wide)

pub word_starts : (sheet : Sheet) (p : Place) (n : ℕ) → p.column ≡ 0 → after_word sheet p n ≡ after_cells p (opening_blanks sheet p n) n
unfolding after_word
word_starts sheet p n h = rw (holds_none p h)

pub word_joins : (sheet : Sheet) (p : Place) (n : ℕ) → 0 < p.column → p.column + gap_blanks + n ≤ sheet.width → after_word sheet p n ≡ after_cells p gap_blanks n
unfolding after_word joins
word_joins sheet p n h fits = rw (holds_cell_lem p h, le-leb (p.column + gap_blanks + n) sheet.width fits)

pub word_overflows : (sheet : Sheet) (p : Place) (n : ℕ) → 0 < p.column → sheet.width < p.column + gap_blanks + n
    → after_word sheet p n ≡ after_cells (after_line sheet p) (opening_blanks sheet (after_line sheet p) n) n
unfolding after_word joins
word_overflows sheet p n h wide = rw (holds_cell_lem p h, lt-leb (p.column + gap_blanks + n) sheet.width wide)

-- ---- 71 and 73, by whether the page has a line once the line has ended

pub empty_line_below : (sheet : Sheet) (p : Place) → 0 < (after_line_end sheet p).line → after_empty_line sheet p ≡ after_line sheet (after_line_end sheet p)
unfolding after_empty_line
empty_line_below sheet p h = rw (has_line_lem (after_line_end sheet p) h)

pub empty_line_at_top : (sheet : Sheet) (p : Place) → (after_line_end sheet p).line ≡ 0 → after_empty_line sheet p ≡ after_line_end sheet p
unfolding after_empty_line
empty_line_at_top sheet p h = rw (has_none (after_line_end sheet p) h)

pub page_end_lined : (sheet : Sheet) (p : Place) → 0 < (after_line_end sheet p).line → after_page_end sheet p ≡ after_page (after_line_end sheet p)
unfolding after_page_end
page_end_lined sheet p h = rw (has_line_lem (after_line_end sheet p) h)

pub page_end_empty : (sheet : Sheet) (p : Place) → (after_line_end sheet p).line ≡ 0 → after_page_end sheet p ≡ after_line_end sheet p
unfolding after_page_end
page_end_empty sheet p h = rw (has_none (after_line_end sheet p) h)

-- ---- After a line's end the line is empty, and the page has room for a line

pub record Fresh (sheet : Sheet) (p : Place) : Type 0 where
  pub room : p.line < sheet.length
  pub empty : p.column ≡ 0

pub line_is_fresh : (sheet : Sheet) (p : Place) → p.line < sheet.length → Fresh sheet (after_line sheet p)
line_is_fresh sheet p h = go (dec_lt (p.line + 1) sheet.length)
  where
    go : Dec (p.line + 1 < sheet.length) → Fresh sheet (after_line sheet p)
    go (yes l) = rw (line_goes_on sheet p l) (record { room = l; empty = refl })
    go (no d) = rw (line_fills sheet p (omega arith)) (record { room = omega arith; empty = refl })

pub held_or_empty : (n : ℕ) → (n ≡ 0) ⊎ (0 < n)
held_or_empty zero = inl refl
held_or_empty (suc n) = inr (omega arith)

pub line_end_is_fresh : (sheet : Sheet) (p : Place) → p.line < sheet.length → Fresh sheet (after_line_end sheet p)
line_end_is_fresh sheet p h = go (held_or_empty p.column)
  where
    go : (p.column ≡ 0) ⊎ (0 < p.column) → Fresh sheet (after_line_end sheet p)
    go (inl e) = rw (line_end_empty sheet p e) (record { room = h; empty = e })
    go (inr l) = rw (line_end_held sheet p l) (line_is_fresh sheet p h)

pub empty_line_is_fresh : (sheet : Sheet) (p : Place) → p.line < sheet.length → Fresh sheet (after_empty_line sheet p)
empty_line_is_fresh sheet p h = go (held_or_empty (after_line_end sheet p).line)
  where
    go : ((after_line_end sheet p).line ≡ 0) ⊎ (0 < (after_line_end sheet p).line) → Fresh sheet (after_empty_line sheet p)
    go (inl e) = rw (empty_line_at_top sheet p e) (line_end_is_fresh sheet p h)
    go (inr l) = rw (empty_line_below sheet p l) (line_is_fresh sheet (after_line_end sheet p) (line_end_is_fresh sheet p h).room)

pub page_end_is_fresh : (sheet : Sheet) (p : Place) → p.line < sheet.length → Fresh sheet (after_page_end sheet p)
unfolding after_page
page_end_is_fresh sheet p h = go (held_or_empty (after_line_end sheet p).line)
  where
    go : ((after_line_end sheet p).line ≡ 0) ⊎ (0 < (after_line_end sheet p).line) → Fresh sheet (after_page_end sheet p)
    go (inl e) = rw (page_end_empty sheet p e) (line_end_is_fresh sheet p h)
    go (inr l) = rw (page_end_lined sheet p l) (record { room = omega arith; empty = refl })

pub word_has_room : (sheet : Sheet) (p : Place) (n : ℕ) → p.line < sheet.length → (after_word sheet p n).line < sheet.length
unfolding after_cells
word_has_room sheet p n h = go (held_or_empty p.column) (dec_le (p.column + gap_blanks + n) sheet.width)
  where
    go : (p.column ≡ 0) ⊎ (0 < p.column) → Dec (p.column + gap_blanks + n ≤ sheet.width) → (after_word sheet p n).line < sheet.length
    go (inl e) d = rw (word_starts sheet p n e) h
    go (inr l) (yes f) = rw (word_joins sheet p n l f) h
    go (inr l) (no d) = rw (word_overflows sheet p n l (omega arith)) (line_is_fresh sheet p h).room

-- a word that doesn't fit is placed as on the next line
pub word_on_next : (sheet : Sheet) (p : Place) (n : ℕ) → p.line < sheet.length → 0 < p.column → sheet.width < p.column + gap_blanks + n
    → after_word sheet p n ≡ after_word sheet (after_line sheet p) n
word_on_next sheet p n room h wide = word_overflows sheet p n h wide ∙ sym (word_starts sheet (after_line sheet p) n (line_is_fresh sheet p room).empty)

-- 72 waits through the end of a line
pub line_keeps_opening : (sheet : Sheet) (p : Place) → (after_line sheet p).opening ≡ p.opening
unfolding after_line
line_keeps_opening sheet p = go (fills_page sheet p) refl
  where
    go : (b : Bool) → fills_page sheet p ≡ b → (after_line sheet p).opening ≡ p.opening
    go true e = rw e
    go false e = rw e

pub line_end_keeps_opening : (sheet : Sheet) (p : Place) → (after_line_end sheet p).opening ≡ p.opening
line_end_keeps_opening sheet p = go (held_or_empty p.column)
  where
    go : (p.column ≡ 0) ⊎ (0 < p.column) → (after_line_end sheet p).opening ≡ p.opening
    go (inl e) = rw (line_end_empty sheet p e)
    go (inr l) = rw (line_end_held sheet p l) (line_keeps_opening sheet p)

-- and it is spent on the first word
pub word_spends_opening : (sheet : Sheet) (p : Place) (n : ℕ) → (after_word sheet p n).opening ≡ false
unfolding after_cells
word_spends_opening sheet p n = go (held_or_empty p.column) (dec_le (p.column + gap_blanks + n) sheet.width)
  where
    go : (p.column ≡ 0) ⊎ (0 < p.column) → Dec (p.column + gap_blanks + n ≤ sheet.width) → (after_word sheet p n).opening ≡ false
    go (inl e) d = rw (word_starts sheet p n e)
    go (inr l) (yes f) = rw (word_joins sheet p n l f)
    go (inr l) (no d) = rw (word_overflows sheet p n l (omega arith))

-- ---- The numbers of a place grow slowly

pub modest_more : {m n : ℕ} {p : Place} → m ≤ n → Modest m p → Modest n p
modest_more h d =
    record { column_most = omega arith; line_most = omega arith; written_most = omega arith; lines_most = omega arith; pages_most = omega arith }

pub modest_line : (sheet : Sheet) (m : ℕ) (p : Place) → Modest m p → Modest (m + 2) (after_line sheet p)
unfolding after_line
modest_line sheet m p d = go (fills_page sheet p) refl
  where
    go : (b : Bool) → fills_page sheet p ≡ b → Modest (m + 2) (after_line sheet p)
    go true e =
        rw (e, after_line)
        (record { column_most = omega arith; line_most = omega arith; written_most = omega arith; lines_most = omega arith; pages_most = omega arith })
    go false e =
        rw (e, after_line)
        (record { column_most = omega arith; line_most = omega arith; written_most = omega arith; lines_most = omega arith; pages_most = omega arith })

pub modest_line_end : (sheet : Sheet) (m : ℕ) (p : Place) → Modest m p → Modest (m + 2) (after_line_end sheet p)
modest_line_end sheet m p d = go (held_or_empty p.column)
  where
    go : (p.column ≡ 0) ⊎ (0 < p.column) → Modest (m + 2) (after_line_end sheet p)
    go (inl e) = rw (line_end_empty sheet p e) (modest_more (omega arith) d)
    go (inr l) = rw (line_end_held sheet p l) (modest_line sheet m p d)

pub opening_at_most : (sheet : Sheet) (p : Place) (n : ℕ) → opening_blanks sheet p n ≤ paragraph_blanks
unfolding opening_blanks
opening_at_most sheet p n = go (p.opening && leb (paragraph_blanks + n) sheet.width) refl
  where
    go : (b : Bool) → (p.opening && leb (paragraph_blanks + n) sheet.width) ≡ b → opening_blanks sheet p n ≤ paragraph_blanks
    go true e = rw (e, opening_blanks) (omega arith)
    go false e = rw (e, opening_blanks) (omega arith)

pub modest_cells : (m n blanks : ℕ) (p : Place) → blanks ≤ paragraph_blanks → Modest m p → Modest (m + 2 + n) (after_cells p blanks n)
unfolding after_cells
modest_cells m n blanks p b d =
    record { column_most = omega arith; line_most = omega arith; written_most = omega arith; lines_most = omega arith; pages_most = omega arith }

pub modest_word : (sheet : Sheet) (m n : ℕ) (p : Place) → Modest m p → Modest (m + 4 + n) (after_word sheet p n)
modest_word sheet m n p d = go (held_or_empty p.column) (dec_le (p.column + gap_blanks + n) sheet.width)
  where
    go : (p.column ≡ 0) ⊎ (0 < p.column) → Dec (p.column + gap_blanks + n ≤ sheet.width) → Modest (m + 4 + n) (after_word sheet p n)
    go (inl e) x =
        rw (word_starts sheet p n e) (modest_more (omega arith) (modest_cells m n (opening_blanks sheet p n) p (opening_at_most sheet p n) d))
    go (inr l) (yes f) = rw (word_joins sheet p n l f) (modest_more (omega arith) (modest_cells m n gap_blanks p (omega arith) d))
    go (inr l) (no x) =
        let q : Place = after_line sheet p in
        rw (word_overflows sheet p n l (omega arith))
        (modest_more (omega arith) (modest_cells (m + 2) n (opening_blanks sheet q n) q (opening_at_most sheet q n) (modest_line sheet m p d)))

pub modest_empty_line : (sheet : Sheet) (m : ℕ) (p : Place) → Modest m p → Modest (m + 4) (after_empty_line sheet p)
modest_empty_line sheet m p d = go (held_or_empty (after_line_end sheet p).line)
  where
    go : ((after_line_end sheet p).line ≡ 0) ⊎ (0 < (after_line_end sheet p).line) → Modest (m + 4) (after_empty_line sheet p)
    go (inl e) = rw (empty_line_at_top sheet p e) (modest_more (omega arith) (modest_line_end sheet m p d))
    go (inr l) = rw (empty_line_below sheet p l) (modest_more (omega arith) (modest_line sheet (m + 2) (after_line_end sheet p) (modest_line_end sheet m p d)))

pub modest_page_end : (sheet : Sheet) (m : ℕ) (p : Place) → Modest m p → Modest (m + 4) (after_page_end sheet p)
unfolding after_page
modest_page_end sheet m p d = go (held_or_empty (after_line_end sheet p).line) (modest_line_end sheet m p d)
  where
    go : ((after_line_end sheet p).line ≡ 0) ⊎ (0 < (after_line_end sheet p).line) → Modest (m + 2) (after_line_end sheet p) → Modest (m + 4) (after_page_end sheet p)
    go (inl e) x = rw (page_end_empty sheet p e) (modest_more (omega arith) x)
    go (inr l) x =
        rw (page_end_lined sheet p l)
        (record { column_most = omega arith; line_most = omega arith; written_most = omega arith; lines_most = omega arith; pages_most = omega arith })

pub modest_paragraph : (sheet : Sheet) (m : ℕ) (p : Place) → Modest m p → Modest (m + 4) (after_paragraph sheet p)
unfolding after_paragraph
modest_paragraph sheet m p d =
    let x = modest_line_end sheet m p d in
    record { column_most = omega arith; line_most = omega arith; written_most = omega arith; lines_most = omega arith; pages_most = omega arith }
