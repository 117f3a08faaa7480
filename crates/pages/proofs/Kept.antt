-- What every move keeps, the volume keeps. `R` relates the bytes written, the words placed, their spots and the place. There are four moves: cells go
-- on the line, a 64 ends it, a 65 ends the page, and the next word is told to open a paragraph. Whatever `R` all four keep, it holds after any items
-- that fit.
use Prim.Native.Nat.{ℕ, ◌+◌, ◌≤◌, ◌<◌}
use mathlib.Core.Bool.{Bool, true, false, cond, ◌&&◌}
use mathlib.Core.List.{List, [], ◌∷◌, ◌++◌, append_assoc, append-nil}
use mathlib.Core.Logic.{◌≢◌, ◌⊎◌, inl, inr}
use mathlib.Core.Path.{◌≡◌, refl}
use native.Mathlib.Omega.{arith}
use lib.Dec.{leb, ltb, eqb}
use lib.ListN.{length}
use borrow.Author.Tests.{ltb-true, ltb-false, leb-true, eqb-true, eqb-false}
use Rattle.table.specs.Lists.{empty, ◌and◌}
use Rattle.pages.specs.Numbers.{gap_blanks, paragraph_blanks, line_mark, page_mark}
use Rattle.pages.specs.Words.{Item, word, line_end, empty_line, paragraph, page_end}
use Rattle.pages.specs.Place.{start, holds_cell, has_line, fills_page, after_line, after_line_end, after_empty_line, after_paragraph, after_page, after_page_end, opening_blanks, joins, after_cells, cells_after, after_word, after_item, cells_in, after_items, items_bytes, ended, volume_end, volume}
use Rattle.pages.specs.Permitted.{Spot}
use Rattle.pages.specs.Spots.{spot, spot_after, spots_from}
use Rattle.pages.specs.Fitting.{WordFits, Fitting, words_in}
use Rattle.pages.specs.declared.Place.{Place}
use Rattle.pages.proofs.Bytes.{end_of_line, bytes70, bytes71, bytes73, bytes_of_word, writes_70, writes_71, writes_72, writes_73, writes_word}
use Rattle.pages.proofs.Moves.{line_is_fresh, line_end_is_fresh, page_end_lined, page_end_empty, held_or_empty}
use Rattle.pages.specs.declared.Sheet.{Sheet}

-- ---- Of the four moves of a place, the two that the definitions have no name for

abbrev pub lined : Place → Place
lined p = record { column = 0; line = p.line + 1; opening = p.opening; written = p.written + 1; lines = p.lines + 1; pages = p.pages }

abbrev pub opened : Place → Place
opened p = record { column = p.column; line = p.line; opening = true; written = p.written; lines = p.lines; pages = p.pages }

pub record Kept (sheet : Sheet) (R : List ℕ → List (List ℕ) → List Spot → Place → Type 0) : Type 0 where
  pub cells : (bytes : List ℕ) (words : List (List ℕ)) (spots : List Spot) (p : Place) (blanks : ℕ) (w : List ℕ) → WordFits sheet.width w
      → p.column + blanks + length w ≤ sheet.width → (0 < p.column → gap_blanks ≤ blanks) → R bytes words spots p
      → R (bytes ++ cells_after blanks w) (words ++ w ∷ []) (spots ++ spot (after_cells p blanks (length w)) ∷ []) (after_cells p blanks (length w))
  pub line : (bytes : List ℕ) (words : List (List ℕ)) (spots : List Spot) (p : Place) → p.line < sheet.length → R bytes words spots p
      → R (bytes ++ line_mark ∷ []) words spots (lined p)
  pub page : (bytes : List ℕ) (words : List (List ℕ)) (spots : List Spot) (p : Place) → p.column ≡ 0 → 0 < p.line → p.line ≤ sheet.length
      → R bytes words spots p → R (bytes ++ page_mark ∷ []) words spots (after_page p)
  pub opens : (bytes : List ℕ) (words : List (List ℕ)) (spots : List Spot) (p : Place) → R bytes words spots p → R bytes words spots (opened p)

-- ---- What opens a line fits

opening_fits : (sheet : Sheet) (p : Place) (n : ℕ) → n ≤ sheet.width → opening_blanks sheet p n + n ≤ sheet.width
unfolding opening_blanks
opening_fits sheet p n h = go p.opening (leb (paragraph_blanks + n) sheet.width) refl
  where
    go : (b c : Bool) → leb (paragraph_blanks + n) sheet.width ≡ c → cond (b && c) paragraph_blanks 0 + n ≤ sheet.width
    go true true e = leb-true (paragraph_blanks + n) sheet.width e
    go true false e = omega arith
    go false c e = omega arith

-- ---- The end of text is as 73

bytes_to_the_end : (sheet : Sheet) (p : Place) (items : List Item)
    → items_bytes sheet p (items ++ page_end ∷ []) ≡ items_bytes sheet p items ++ bytes73 sheet (after_items sheet p items)
unfolding items_bytes after_item cells_in after_items
bytes_to_the_end sheet p [] = rw append-nil (writes_73 sheet p)
bytes_to_the_end sheet p (item ∷ items) = rw (append_assoc, bytes_to_the_end sheet (after_item sheet p item) items)

place_at_the_end : (sheet : Sheet) (p : Place) (items : List Item)
    → after_items sheet p (items ++ page_end ∷ []) ≡ after_page_end sheet (after_items sheet p items)
unfolding after_items after_item
place_at_the_end sheet p [] = refl
place_at_the_end sheet p (item ∷ items) = place_at_the_end sheet (after_item sheet p item) items

-- no line is left open, and no page
pub record AtEnd (p : Place) : Type 0 where
  pub column : p.column ≡ 0
  pub line : p.line ≡ 0

page_ends : (sheet : Sheet) (p : Place) → p.line < sheet.length → AtEnd (after_page_end sheet p)
unfolding after_page
page_ends sheet p h = go (held_or_empty (after_line_end sheet p).line)
  where
    go : ((after_line_end sheet p).line ≡ 0) ⊎ (0 < (after_line_end sheet p).line) → AtEnd (after_page_end sheet p)
    go (inl e) = rw (page_end_empty sheet p e) (record { column = (line_end_is_fresh sheet p h).empty; line = e })
    go (inr l) = rw (page_end_lined sheet p l) (record { column = refl; line = refl })

-- ---- The items, by their moves

module _ (sheet : Sheet) (R : List ℕ → List (List ℕ) → List Spot → Place → Type 0) (kept : Kept sheet R) where
  -- `R` holds, and the page has room for a line
  record Held (bytes : List ℕ) (words : List (List ℕ)) (spots : List Spot) (p : Place) : Type 0 where
    room : p.line < sheet.length
    holds : R bytes words spots p

  module _ (bytes : List ℕ) (words : List (List ℕ)) (spots : List Spot) (p : Place) (held : Held bytes words spots p) where
    line_kept : Held (bytes ++ end_of_line sheet p) words spots (after_line sheet p)
    unfolding after_line fills_page after_page
    line_kept = go (eqb (p.line + 1) sheet.length) refl (kept.line bytes words spots p held.room held.holds)
      where
        go : (b : Bool) → eqb (p.line + 1) sheet.length ≡ b → R (bytes ++ line_mark ∷ []) words spots (lined p)
            → Held (bytes ++ end_of_line sheet p) words spots (after_line sheet p)
        go true e r =
            let h = eqb-true (p.line + 1) sheet.length e in
            let r' = kept.page (bytes ++ line_mark ∷ []) words spots (lined p) refl (omega arith) (omega arith) r in
            let two : p.written + 1 + 1 ≡ p.written + 2 = omega arith in
            rw e (record { room = omega arith; holds = rw (append_assoc, two) at r' })
        go false e r =
            let h : p.line + 1 ≢ sheet.length = eqb-false (p.line + 1) sheet.length e in
            rw e (record { room = omega arith; holds = r })

    line_end_kept : Held (bytes ++ bytes70 sheet p) words spots (after_line_end sheet p)
    unfolding after_line_end
    line_end_kept = go (holds_cell p) refl
      where
        go : (b : Bool) → holds_cell p ≡ b → Held (bytes ++ bytes70 sheet p) words spots (after_line_end sheet p)
        go true e = rw e line_kept
        go false e = rw (e, append-nil) held

  module _ (bytes : List ℕ) (words : List (List ℕ)) (spots : List Spot) (p : Place) (held : Held bytes words spots p) where
    empty_line_kept : Held (bytes ++ bytes71 sheet p) words spots (after_empty_line sheet p)
    unfolding after_empty_line
    empty_line_kept = go (has_line q) refl (line_end_kept bytes words spots p held)
      where
        q : Place
        q = after_line_end sheet p

        go : (b : Bool) → has_line q ≡ b → Held (bytes ++ bytes70 sheet p) words spots q
            → Held (bytes ++ bytes71 sheet p) words spots (after_empty_line sheet p)
        go true e r = rw e (rw append_assoc at (line_kept (bytes ++ bytes70 sheet p) words spots q r))
        go false e r = rw (e, append-nil) r

    page_end_kept : Held (bytes ++ bytes73 sheet p) words spots (after_page_end sheet p)
    unfolding after_page_end after_page has_line
    page_end_kept = go (ltb 0 q.line) refl (line_end_kept bytes words spots p held)
      where
        q : Place
        q = after_line_end sheet p

        go : (b : Bool) → ltb 0 q.line ≡ b → Held (bytes ++ bytes70 sheet p) words spots q
            → Held (bytes ++ bytes73 sheet p) words spots (after_page_end sheet p)
        go true e r =
            let h = ltb-true 0 q.line e in
            let r' = kept.page (bytes ++ bytes70 sheet p) words spots q (line_end_is_fresh sheet p held.room).empty h (omega arith) r.holds in
            rw e (record { room = omega arith; holds = rw append_assoc at r' })
        go false e r = rw (e, append-nil) r

    paragraph_kept : Held (bytes ++ bytes70 sheet p) words spots (after_paragraph sheet p)
    unfolding after_paragraph
    paragraph_kept =
        let r = line_end_kept bytes words spots p held in
        record { room = r.room; holds = kept.opens (bytes ++ bytes70 sheet p) words spots (after_line_end sheet p) r.holds }

  module _ (bytes : List ℕ) (words : List (List ℕ)) (spots : List Spot) (p : Place) (held : Held bytes words spots p) (w : List ℕ)
      (fits : WordFits sheet.width w) where
    cells_kept : (blanks : ℕ) → p.column + blanks + length w ≤ sheet.width → (0 < p.column → gap_blanks ≤ blanks) → let q = after_cells p blanks (length w) in
        Held (bytes ++ cells_after blanks w) (words ++ w ∷ []) (spots ++ spot q ∷ []) q
    unfolding after_cells
    cells_kept blanks h apart = record { room = held.room; holds = kept.cells bytes words spots p blanks w fits h apart held.holds }

    opening_kept : p.column ≡ 0 → let blanks = opening_blanks sheet p (length w) in let q = after_cells p blanks (length w) in
        Held (bytes ++ cells_after blanks w) (words ++ w ∷ []) (spots ++ spot q ∷ []) q
    opening_kept h =
        let l = opening_fits sheet p (length w) fits.most in
        cells_kept (opening_blanks sheet p (length w)) (omega arith) (λ c. omega arith)

  module _ (bytes : List ℕ) (words : List (List ℕ)) (spots : List Spot) (p : Place) (held : Held bytes words spots p) (w : List ℕ)
      (fits : WordFits sheet.width w) where
    word_kept : let q = after_word sheet p (length w) in Held (bytes ++ bytes_of_word sheet p w) (words ++ w ∷ []) (spots ++ spot q ∷ []) q
    unfolding after_word holds_cell joins
    word_kept = go (ltb 0 p.column) (leb (p.column + gap_blanks + length w) sheet.width) refl refl
      where
        Goal : Type 0
        Goal = let q = after_word sheet p (length w) in Held (bytes ++ bytes_of_word sheet p w) (words ++ w ∷ []) (spots ++ spot q ∷ []) q

        go : (b c : Bool) → ltb 0 p.column ≡ b → leb (p.column + gap_blanks + length w) sheet.width ≡ c → Goal
        go true true e f = rw (e, f) (cells_kept bytes words spots p held w fits gap_blanks (leb-true _ _ f) (λ c. omega arith))
        go true false e f =
            let r = line_kept bytes words spots p held in
            let c = (line_is_fresh sheet p held.room).empty in
            rw (e, f) (rw append_assoc at (opening_kept (bytes ++ end_of_line sheet p) words spots (after_line sheet p) r w fits c))
        go false c e f =
            let h = ltb-false 0 p.column e in
            rw e (opening_kept bytes words spots p held w fits (omega arith))

  items_held : (bytes : List ℕ) (words : List (List ℕ)) (spots : List Spot) (p : Place) (items : List Item) → Fitting sheet.width items
      → Held bytes words spots p
      → Held (bytes ++ items_bytes sheet p items) (words ++ words_in items) (spots ++ spots_from sheet p items) (after_items sheet p items)
  unfolding after_item cells_in after_items items_bytes words_in spot_after spots_from
  items_held bytes words spots p [] empty held = simp append-nil held
  items_held bytes words spots p (word w ∷ items) (fits and rest) held =
      let q = after_word sheet p (length w) in
      let r = word_kept bytes words spots p held w fits in
      rw (writes_word sheet p w) (simp append_assoc at (items_held (bytes ++ bytes_of_word sheet p w) (words ++ w ∷ []) (spots ++ spot q ∷ []) q items rest r))
  items_held bytes words spots p (line_end ∷ items) (fits and rest) held =
      rw (writes_70 sheet p) (rw append_assoc at (items_held (bytes ++ bytes70 sheet p) words spots _ items rest (line_end_kept bytes words spots p held)))
  items_held bytes words spots p (empty_line ∷ items) (fits and rest) held =
      rw (writes_71 sheet p) (rw append_assoc at (items_held (bytes ++ bytes71 sheet p) words spots _ items rest (empty_line_kept bytes words spots p held)))
  items_held bytes words spots p (paragraph ∷ items) (fits and rest) held =
      rw (writes_72 sheet p) (rw append_assoc at (items_held (bytes ++ bytes70 sheet p) words spots _ items rest (paragraph_kept bytes words spots p held)))
  items_held bytes words spots p (page_end ∷ items) (fits and rest) held =
      rw (writes_73 sheet p) (rw append_assoc at (items_held (bytes ++ bytes73 sheet p) words spots _ items rest (page_end_kept bytes words spots p held)))

  module _ (items : List Item) (fits : Fitting sheet.width items) (room : 0 < sheet.length) (outset : R [] [] [] start) where
    at_the_end : Held (items_bytes sheet start items) (words_in items) (spots_from sheet start items) (after_items sheet start items)
    at_the_end = items_held [] [] [] start items fits (record { room = room; holds = outset })

    pub volume_keeps : R (volume sheet items) (words_in items) (spots_from sheet start items) (volume_end sheet items)
    unfolding volume volume_end ended
    volume_keeps = rw (bytes_to_the_end sheet start items, place_at_the_end sheet start items) (page_end_kept _ _ _ _ at_the_end).holds

    pub volume_ends : AtEnd (volume_end sheet items)
    unfolding volume_end ended
    volume_ends = rw (place_at_the_end sheet start items) (page_ends sheet (after_items sheet start items) at_the_end.room)
