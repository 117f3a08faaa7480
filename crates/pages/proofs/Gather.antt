-- Sign by sign is word by word: what the items of the signs do to a place and write, from a word that is being gathered on, is what one sign does and
-- writes, and then what the rest does. The first part of a word is placed as soon as it is known to have more than W cells.
use Prim.Native.Nat.{ℕ, suc, ◌+◌, ◌-◌, ◌≤◌, ◌<◌}
use mathlib.Core.Bool.{Bool, true, false}
use mathlib.Core.List.{List, [], ◌∷◌, ◌++◌, append_assoc, append-nil}
use mathlib.Core.Option.{Option, none, some}
use mathlib.Core.Path.{◌≡◌, refl, sym, ◌∙◌, ap, subst}
use native.Mathlib.Numerals.{add-one}
use native.Mathlib.Omega.{arith}
use lib.Dec.{ltb, eqb}
use lib.ListN.{length, get_or, drop, length-append, length-drop}
use lib.Seq.{drop-cons}
use borrow.Author.Tests.{lt-ltb, eqb-true, eqb-false}
use Rattle.table.specs.Numbers.{blank_cell, sign_page_end}
use Rattle.pages.specs.Numbers.{most_width}
use Rattle.pages.specs.Words.{Item, word, line_end, empty_line, paragraph, page_end, format_of, closed, gathered, part_of, cut_item, cut}
use Rattle.pages.specs.Place.{after_word, after_item, after_page_end, move_bytes, cells_in, item_bytes, after_items, items_bytes, ended}
use Rattle.pages.specs.Signs.{ends_word}
use Rattle.pages.specs.inside.Gather.{Modest, after_flush, flush_bytes, after_format, format_bytes, word_bytes, cells_held, stepped, waiting, step_bytes, after_rest, rest_bytes}
use Rattle.pages.specs.declared.Place.{Place}
use Rattle.pages.proofs.Formats.{format_no_word, nil_cells, blank_no_format}
use Rattle.pages.proofs.Gathered.{closed_word}
use Rattle.pages.proofs.Words.{part_length}
use Rattle.pages.proofs.Parts.{one_part, full_part}
use Rattle.pages.proofs.Bytes.{stays_bytes}
use Rattle.pages.proofs.Moves.{modest_more, modest_word, modest_line_end, modest_empty_line, modest_paragraph, modest_page_end}
use Rattle.pages.specs.declared.Sheet.{Sheet}

module _ (W : ℕ) (wide : 2 ≤ W) where
  cut_append : (xs ys : List Item) → cut W (xs ++ ys) ≡ cut W xs ++ cut W ys
  unfolding cut
  cut_append [] ys = refl
  cut_append (x ∷ xs) ys = ap (λ (r : List Item). cut_item W x ++ r) (cut_append xs ys) ∙ sym (append_assoc (cut_item W x) (cut W xs) (cut W ys))

  cut_closed : (cells : List ℕ) → length cells ≤ W → cut W (closed cells) ≡ closed cells
  unfolding cut cut_item closed
  cut_closed [] h = refl
  cut_closed (c ∷ cells) h = rw (one_part W wide (c ∷ cells) h)

  cut_closed_full : (cells more : List ℕ) (items : List Item) → length cells ≡ W → 1 ≤ length more
      → cut W (closed (cells ++ more) ++ items) ≡ word (part_of W cells) ∷ cut W (closed (drop (W - 1) cells ++ more) ++ items)
  unfolding cut cut_item
  cut_closed_full cells more items e h =
      let l = length-append cells more in
      let k = length-append (drop (W - 1) cells) more in
      rw (
        closed_word (cells ++ more) items (omega arith),
        closed_word (drop (W - 1) cells ++ more) items (omega arith),
        full_part W wide cells more e h,
      )

  -- W cells that are gathered, with one more at least, have their first part placed
  gathered_full : (cells more signs : List ℕ) → length cells ≡ W → 1 ≤ length more
      → cut W (gathered (cells ++ more) signs) ≡ word (part_of W cells) ∷ cut W (gathered (drop (W - 1) cells ++ more) signs)
  unfolding gathered
  gathered_full cells more [] e h =
      rw (append-nil (closed (cells ++ more)), append-nil (closed (drop (W - 1) cells ++ more))) at (cut_closed_full cells more [] e h)
  gathered_full cells more (g ∷ signs) e h =
      let l = length-append more (g ∷ []) in
      go (eqb g blank_cell) (format_of g) refl refl (gathered_full cells (more ++ g ∷ []) signs e (omega arith))
    where
      go : (b : Bool) (f : Option Item) → eqb g blank_cell ≡ b → format_of g ≡ f
          → cut W (gathered (cells ++ (more ++ g ∷ [])) signs) ≡ word (part_of W cells) ∷ cut W (gathered (drop (W - 1) cells ++ (more ++ g ∷ [])) signs)
          → cut W (gathered (cells ++ more) (g ∷ signs)) ≡ word (part_of W cells) ∷ cut W (gathered (drop (W - 1) cells ++ more) (g ∷ signs))
      go true f x y later = rw (x, gathered) (cut_closed_full cells more (gathered [] signs) e h)
      go false none x y later =
          rw (x, gathered, y, append_assoc cells more (g ∷ []), append_assoc (drop (W - 1) cells) more (g ∷ [])) later
      go false (some format) x y later = rw (x, gathered, y) (cut_closed_full cells more (format ∷ gathered [] signs) e h)

module _ (sheet : Sheet) (wide : 2 ≤ sheet.width) where
  -- ---- What the items do, list after list

  after_append : (p : Place) (xs ys : List Item) → after_items sheet p (xs ++ ys) ≡ after_items sheet (after_items sheet p xs) ys
  unfolding after_items
  after_append p [] ys = refl
  after_append p (x ∷ xs) ys = after_append (after_item sheet p x) xs ys

  bytes_append : (p : Place) (xs ys : List Item) → items_bytes sheet p (xs ++ ys) ≡ items_bytes sheet p xs ++ items_bytes sheet (after_items sheet p xs) ys
  unfolding items_bytes after_items
  bytes_append p [] ys = refl
  bytes_append p (x ∷ xs) ys =
      ap (λ (r : List ℕ). item_bytes sheet p x ++ r) (bytes_append (after_item sheet p x) xs ys)
      ∙ sym (append_assoc (item_bytes sheet p x) (items_bytes sheet (after_item sheet p x) xs) (items_bytes sheet (after_items sheet (after_item sheet p x) xs) ys))

  after_closed : (p : Place) (cells : List ℕ) → after_items sheet p (closed cells) ≡ after_flush sheet p (length cells)
  unfolding after_items after_item closed after_flush
  after_closed p [] = refl
  after_closed p (c ∷ cells) = rw (lt-ltb 0 (length (c ∷ cells)) (omega arith))

  bytes_closed : (p : Place) (cells : List ℕ) → items_bytes sheet p (closed cells) ≡ flush_bytes sheet p cells
  unfolding items_bytes after_item cells_in closed after_flush
  bytes_closed p [] = sym (stays_bytes p)
  bytes_closed p (c ∷ cells) = rw (lt-ltb 0 (length (c ∷ cells)) (omega arith)) (append-nil (word_bytes sheet p (c ∷ cells)))

  -- ---- What is left to do, from a place on

  -- both at once: the place at the end, and the bytes
  record Runs (p : Place) (items : List Item) (done : List ℕ) (q : Place) (items' : List Item) : Type 0 where
    place : after_items sheet p items ≡ after_items sheet q items'
    written : items_bytes sheet p items ≡ done ++ items_bytes sheet q items'

  -- some items first
  runs_append : (p : Place) (xs ys : List Item) → Runs p (xs ++ ys) (items_bytes sheet p xs) (after_items sheet p xs) ys
  runs_append p xs ys = record { place = after_append p xs ys; written = bytes_append p xs ys }

  -- the cells that wait are placed first
  runs_closed : (p : Place) (cells : List ℕ) (items : List Item) → length cells ≤ sheet.width
      → Runs p (ended (cut sheet.width (closed cells ++ items))) (flush_bytes sheet p cells) (after_flush sheet p (length cells)) (ended (cut sheet.width items))
  unfolding ended
  runs_closed p cells items h =
      let e : cut sheet.width (closed cells ++ items) ++ page_end ∷ [] ≡ closed cells ++ (cut sheet.width items ++ page_end ∷ []) =
      ap (λ (r : List Item). r ++ page_end ∷ [])
      (cut_append sheet.width wide (closed cells) items ∙ ap (λ (r : List Item). r ++ cut sheet.width items) (cut_closed sheet.width wide cells h))
      ∙ append_assoc (closed cells) (cut sheet.width items) (page_end ∷ []) in
      let r = runs_append p (closed cells) (cut sheet.width items ++ page_end ∷ []) in
      record {
        place = rw e (r.place ∙ ap (λ (q : Place). after_items sheet q (cut sheet.width items ++ page_end ∷ [])) (after_closed p cells));
        written = rw e (r.written ∙ rw (bytes_closed p cells, after_closed p cells));
      }

  -- a format sign isn't cut
  format_whole : (g : ℕ) (f : Item) → format_of g ≡ some f → cut_item sheet.width f ≡ f ∷ []
  unfolding cut_item
  format_whole g line_end e = refl
  format_whole g empty_line e = refl
  format_whole g paragraph e = refl
  format_whole g page_end e = refl
  format_whole g (word cells) e = absurd (format_no_word g cells e)

  -- where W cells wait and one more comes, a part is placed
  runs_full : (p : Place) (cells : List ℕ) (g : ℕ) (signs : List ℕ) → length cells ≡ sheet.width
      → Runs p (ended (cut sheet.width (gathered (cells ++ g ∷ []) signs))) (word_bytes sheet p (part_of sheet.width cells))
      (after_word sheet p sheet.width)
      (ended (cut sheet.width (gathered (drop (sheet.width - 1) cells ++ g ∷ []) signs)))
  unfolding ended after_items after_item items_bytes cells_in
  runs_full p cells g signs e =
      let part : List ℕ = part_of sheet.width cells in
      let rest : List Item = cut sheet.width (gathered (drop (sheet.width - 1) cells ++ g ∷ []) signs) in
      rw (gathered_full sheet.width wide cells (g ∷ []) signs e (omega arith))
      (subst (λ (n : ℕ). Runs p (ended (word part ∷ rest)) (word_bytes sheet p part) (after_word sheet p n) (ended rest))
      (part_length sheet.width cells (omega arith) (omega arith))
      (record { place = refl; written = refl }))

  -- a format sign after the cells that wait
  runs_format : (p : Place) (cells : List ℕ) (g : ℕ) (f : Item) (signs : List ℕ) → length cells ≤ sheet.width → format_of g ≡ some f
      → Runs p (ended (cut sheet.width (closed cells ++ f ∷ gathered [] signs)))
      (flush_bytes sheet p cells ++ format_bytes sheet (after_flush sheet p (length cells)) g)
      (after_format sheet (after_flush sheet p (length cells)) g)
      (ended (cut sheet.width (gathered [] signs)))
  unfolding ended cut after_items items_bytes
  runs_format p cells g f signs h y =
      let r = runs_closed p cells (f ∷ gathered [] signs) h in
      let q : Place = after_flush sheet p (length cells) in
      let c : cut sheet.width (f ∷ gathered [] signs) ≡ f ∷ cut sheet.width (gathered [] signs) =
      ap (λ (r : List Item). r ++ cut sheet.width (gathered [] signs)) (format_whole g f y) in
      let a : after_format sheet q g ≡ after_item sheet q f = unfold after_format in rw (y, after_format) in
      record {
        place = r.place ∙ rw (c, a);
        written =
            r.written
            ∙ rw (c, a, nil_cells g f y)
            (sym (append_assoc (flush_bytes sheet p cells) (move_bytes q (after_item sheet q f) []) (items_bytes sheet (after_item sheet q f) (cut sheet.width (gathered [] signs) ++ page_end ∷ []))));
      }

  -- the blank after the cells that wait: it moves nothing
  runs_blank : (p : Place) (cells : List ℕ) (g : ℕ) (items : List Item) → length cells ≤ sheet.width → format_of g ≡ none
      → Runs p (ended (cut sheet.width (closed cells ++ items))) (flush_bytes sheet p cells ++ format_bytes sheet (after_flush sheet p (length cells)) g)
      (after_format sheet (after_flush sheet p (length cells)) g) (ended (cut sheet.width items))
  unfolding after_format
  runs_blank p cells g items h y =
      rw (y, after_format, stays_bytes (after_flush sheet p (length cells)), append-nil) (runs_closed p cells items h)

  -- ---- One sign

  abbrev Step : Place → List ℕ → ℕ → List ℕ → Type 0
  Step p cells g signs =
      Runs p (ended (cut sheet.width (gathered cells (g ∷ signs)))) (step_bytes sheet p cells g) (stepped sheet p (length cells) g).place
      (ended (cut sheet.width (gathered (waiting sheet cells g) signs)))

  runs_step : (p : Place) (cells : List ℕ) (g : ℕ) (signs : List ℕ) → length cells ≤ sheet.width → Step p cells g signs
  unfolding gathered stepped step_bytes waiting ends_word
  runs_step p cells g signs h = go (eqb g blank_cell) (format_of g) (eqb (length cells) sheet.width) refl refl refl
    where
      go : (b : Bool) (f : Option Item) (full : Bool) → eqb g blank_cell ≡ b → format_of g ≡ f → eqb (length cells) sheet.width ≡ full → Step p cells g signs
      go true f full x y z = rw (x, gathered) (runs_blank p cells g (gathered [] signs) h (blank_no_format g x))
      go false none true x y z = rw (x, gathered, y, z) (runs_full p cells g signs (eqb-true (length cells) sheet.width z))
      go false none false x y z = rw (x, gathered, y, z) (record { place = refl; written = refl })
      go false (some f) full x y z = rw (x, gathered, y) (runs_format p cells g f signs h y)

  -- ---- For the loops

  held_length : (cells : List ℕ) (g : ℕ) → length cells ≡ sheet.width → length (drop (sheet.width - 1) cells ++ g ∷ []) ≡ cells_held
  held_length cells g e =
      let l = length-append (drop (sheet.width - 1) cells) (g ∷ []) in let d = length-drop (sheet.width - 1) cells in omega arith

  pub waiting_length : (p : Place) (cells : List ℕ) (g : ℕ) → length (waiting sheet cells g) ≡ (stepped sheet p (length cells) g).cells
  unfolding waiting stepped
  waiting_length p cells g = go (ends_word g) (eqb (length cells) sheet.width) refl refl
    where
      go : (b full : Bool) → ends_word g ≡ b → eqb (length cells) sheet.width ≡ full
          → length (waiting sheet cells g) ≡ (stepped sheet p (length cells) g).cells
      go true full x z = rw x
      go false true x z = rw (x, z) (held_length cells g (eqb-true (length cells) sheet.width z))
      go false false x z = rw (x, z) (length-append cells (g ∷ []))

  pub waiting_most : (cells : List ℕ) (g : ℕ) → length cells ≤ sheet.width → length (waiting sheet cells g) ≤ sheet.width
  unfolding waiting
  waiting_most cells g h = go (ends_word g) (eqb (length cells) sheet.width) refl refl
    where
      go : (b full : Bool) → ends_word g ≡ b → eqb (length cells) sheet.width ≡ full → length (waiting sheet cells g) ≤ sheet.width
      go true full x z = rw x (omega arith)
      go false true x z = rw (x, z, held_length cells g (eqb-true (length cells) sheet.width z)) wide
      go false false x z =
          let l = length-append cells (g ∷ []) in
          let d = eqb-false (length cells) sheet.width z in
          let n : (length cells ≡ sheet.width → ⊥) = d in
          rw (x, z) (omega arith)

  pub step_after : (p : Place) (cells : List ℕ) (g : ℕ) (signs : List ℕ) → length cells ≤ sheet.width
      → after_rest sheet p cells (g ∷ signs) ≡ after_rest sheet (stepped sheet p (length cells) g).place (waiting sheet cells g) signs
  unfolding after_rest
  step_after p cells g signs h = (runs_step p cells g signs h).place

  pub step_bytes_lem : (p : Place) (cells : List ℕ) (g : ℕ) (signs : List ℕ) → length cells ≤ sheet.width
      → rest_bytes sheet p cells (g ∷ signs) ≡ step_bytes sheet p cells g ++ rest_bytes sheet (stepped sheet p (length cells) g).place (waiting sheet cells g) signs
  unfolding rest_bytes
  step_bytes_lem p cells g signs h = (runs_step p cells g signs h).written

  -- the end of the text is as 73
  pub ends_as_73 : (p : Place) → after_page_end sheet p ≡ after_format sheet p sign_page_end
  unfolding after_format format_of after_item
  ends_as_73 p = refl

  pub end_after : (p : Place) (cells : List ℕ) → length cells ≤ sheet.width
      → after_rest sheet p cells [] ≡ after_format sheet (after_flush sheet p (length cells)) sign_page_end
  unfolding after_rest gathered ended cut after_items after_format format_of
  end_after p cells h =
      rw (cut_closed sheet.width wide cells h)
      (after_append p (closed cells) (page_end ∷ []) ∙ ap (λ (q : Place). after_item sheet q page_end) (after_closed p cells))

  pub end_bytes : (p : Place) (cells : List ℕ) → length cells ≤ sheet.width
      → rest_bytes sheet p cells [] ≡ flush_bytes sheet p cells ++ format_bytes sheet (after_flush sheet p (length cells)) sign_page_end
  unfolding rest_bytes gathered ended items_bytes cells_in after_format format_of
  end_bytes p cells h =
      rw (cut_closed sheet.width wide cells h)
      (bytes_append p (closed cells) (page_end ∷ [])
      ∙ rw (bytes_closed p cells, after_closed p cells)
      (ap (λ (r : List ℕ). flush_bytes sheet p cells ++ r) (append-nil (item_bytes sheet (after_flush sheet p (length cells)) page_end))))

-- ---- The numbers of the place stay small

module _ (sheet : Sheet) where
  pub modest_flush : (m n : ℕ) (p : Place) → Modest m p → Modest (m + 4 + n) (after_flush sheet p n)
  unfolding after_flush
  modest_flush m n p d = go (ltb 0 n) refl
    where
      go : (b : Bool) → ltb 0 n ≡ b → Modest (m + 4 + n) (after_flush sheet p n)
      go true e = rw (e, after_flush) (modest_word sheet m n p d)
      go false e = rw (e, after_flush) (modest_more (omega arith) d)

  pub modest_format : (m g : ℕ) (p : Place) → Modest m p → Modest (m + 4) (after_format sheet p g)
  modest_format m g p d = go (format_of g) refl
    where
      go : (o : Option Item) → format_of g ≡ o → Modest (m + 4) (after_format sheet p g)
      go none e = unfold after_format in rw (e, after_format) (modest_more (omega arith) d)
      go (some line_end) e = unfold after_format after_item in rw (e, after_format) (modest_more (omega arith) (modest_line_end sheet m p d))
      go (some empty_line) e = unfold after_format after_item in rw (e, after_format) (modest_empty_line sheet m p d)
      go (some paragraph) e = unfold after_format after_item in rw (e, after_format) (modest_paragraph sheet m p d)
      go (some page_end) e = unfold after_format after_item in rw (e, after_format) (modest_page_end sheet m p d)
      go (some (word cells)) e = absurd (format_no_word g cells e)

  -- a sign adds at most 70 to each number, where no more cells wait than a line holds
  pub modest_step : (m n g : ℕ) (p : Place) → n ≤ most_width → Modest m p → Modest (m + 70) (stepped sheet p n g).place
  unfolding stepped
  modest_step m n g p h d = go (ends_word g) (eqb n sheet.width) refl refl
    where
      go : (b full : Bool) → ends_word g ≡ b → eqb n sheet.width ≡ full → Modest (m + 70) (stepped sheet p n g).place
      go true full x z = rw x (modest_more (omega arith) (modest_format (m + 4 + n) g (after_flush sheet p n) (modest_flush m n p d)))
      go false true x z =
          let e = eqb-true n sheet.width z in rw (x, z) (modest_more (omega arith) (modest_word sheet m sheet.width p d))
      go false false x z = rw (x, z) (modest_more (omega arith) d)

-- ---- A turn of a loop over the signs: what is left after it is what was left before

module _ (sheet : Sheet) (wide : 2 ≤ sheet.width) (signs : List ℕ) (i : ℕ) (there : i < length signs) (p : Place) (cells : List ℕ) (most : length cells ≤ sheet.width) where
  abbrev sign : ℕ
  sign = get_or signs i 0

  pub turn_after : after_rest sheet p cells (drop i signs) ≡ after_rest sheet (stepped sheet p (length cells) sign).place (waiting sheet cells sign) (drop (i + 1) signs)
  turn_after = rw (drop-cons signs i 0 there, add-one i) (step_after sheet wide p cells sign (drop (suc i) signs) most)

  pub turn_bytes :
      rest_bytes sheet p cells (drop i signs)
      ≡ step_bytes sheet p cells sign ++ rest_bytes sheet (stepped sheet p (length cells) sign).place (waiting sheet cells sign) (drop (i + 1) signs)
  turn_bytes = rw (drop-cons signs i 0 there, add-one i) (step_bytes_lem sheet wide p cells sign (drop (suc i) signs) most)
