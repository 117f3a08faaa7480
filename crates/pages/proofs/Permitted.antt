-- Demand 3: the relation of permitted layouts is as wide as the paper and no wider. For each list of choices the layout that ends the line before each
-- chosen word is permitted, ours is the one with no choice, and every permitted layout arises from such a list. The idea: a stage of the relation is a
-- place without its count of bytes, and each rule is a move, or sign 70 before a word and then a move.
use Prim.Native.Nat.{ℕ, suc, ◌+◌, ◌-◌, ◌≤◌, ◌<◌}
use mathlib.Core.Bool.{Bool, true, false}
use mathlib.Core.List.{List, [], ◌∷◌, ◌++◌, append_assoc, append-nil}
use mathlib.Core.Logic.{◌⊎◌, inl, inr}
use mathlib.Core.Path.{◌≡◌, refl, sym, ◌∙◌, ap, subst}
use native.Mathlib.Decide.{dec_le, dec_lt}
use native.Mathlib.Omega.{arith}
use lib.ListN.{length, length-append}
use Rattle.pages.specs.Numbers.{gap_blanks, paragraph_blanks}
use Rattle.pages.specs.Words.{Item, word, line_end, empty_line, paragraph, page_end}
use Rattle.pages.specs.Place.{start, after_line, after_line_end, after_empty_line, after_paragraph, after_page, after_page_end, opening_blanks, after_cells, after_word, after_item, after_items, ended, volume_end}
use Rattle.pages.specs.Permitted.{Spot, Stage, worded, opened, paged, LineEnds, page_goes_on, page_is_full, EndsIfHeld, line_empty, line_held, PageEndsIfLined, page_empty, page_lined, Lays, starts, opens, opens_wide, follows, overflows, ends_early, sign_70, sign_71, sign_71_at_top, sign_72, sign_73, end_of_text, Layout, Permitted}
use Rattle.pages.specs.Spots.{spot, spot_after, spots_from, ended_pages, sizes_from, layout_of, word_count, with_choices, ByChoices}
use Rattle.pages.specs.declared.Place.{Place}
use Rattle.pages.proofs.Moves as Moves
use Rattle.pages.proofs.Ended.{SamePage, none_ended, one_ended, then_ended, lined_same_page, turns_line, turns_line_end, turns_forward}
use Rattle.pages.specs.declared.Sheet.{Sheet}

-- ---- A place as a stage, once these pages have ended, and a stage as a place with a count of bytes

abbrev pub stage_of : List ℕ → Place → Stage
stage_of b p = record { lines = p.lines; pages = b; on_page = p.line; column = p.column; opening = p.opening }

abbrev pub place_of : Stage → ℕ → Place
place_of s w = record { column = s.column; line = s.on_page; opening = s.opening; written = w; lines = s.lines; pages = length s.pages }

-- the stage at `q`, where `b` have ended before `p`
abbrev stage_from : List ℕ → Place → Place → Stage
stage_from b p q = stage_of (b ++ ended_pages p q) q

module _ (sheet : Sheet) where
  -- ---- Each move is by the rules

  line_ends : (b : List ℕ) (p : Place) → p.line < sheet.length → LineEnds sheet (stage_of b p) (stage_from b p (after_line sheet p))
  line_ends b p h = go (dec_lt (p.line + 1) sheet.length)
    where
      go : Dec (p.line + 1 < sheet.length) → LineEnds sheet (stage_of b p) (stage_from b p (after_line sheet p))
      go (yes l) =
          let q : Place = record { column = 0; line = p.line + 1; opening = p.opening; written = p.written + 1; lines = p.lines + 1; pages = p.pages } in
          rw (Moves.line_goes_on sheet p l, none_ended p q refl, append-nil) (page_goes_on l)
      go (no d) =
          let e : p.line + 1 ≡ sheet.length = omega arith in
          let q : Place = record { column = 0; line = 0; opening = p.opening; written = p.written + 2; lines = p.lines + 1; pages = p.pages + 1 } in
          rw (Moves.line_fills sheet p e, one_ended p q (p.line + 1) refl (omega arith)) (page_is_full e)

  ends_if_held : (b : List ℕ) (p : Place) → p.line < sheet.length → EndsIfHeld sheet (stage_of b p) (stage_from b p (after_line_end sheet p))
  ends_if_held b p h = go (Moves.held_or_empty p.column)
    where
      go : (p.column ≡ 0) ⊎ (0 < p.column) → EndsIfHeld sheet (stage_of b p) (stage_from b p (after_line_end sheet p))
      go (inl e) = rw (Moves.line_end_empty sheet p e, none_ended p p refl, append-nil) (line_empty e)
      go (inr l) = rw (Moves.line_end_held sheet p l) (line_held l (line_ends b p h))

  page_ends_if_lined : (b : List ℕ) (p : Place) → p.line < sheet.length
      → PageEndsIfLined (stage_from b p (after_line_end sheet p)) (stage_from b p (after_page_end sheet p))
  unfolding after_page
  page_ends_if_lined b p room = go (Moves.held_or_empty (after_line_end sheet p).line)
    where
      q : Place
      q = after_line_end sheet p

      go : ((after_line_end sheet p).line ≡ 0) ⊎ (0 < (after_line_end sheet p).line)
          → PageEndsIfLined (stage_from b p (after_line_end sheet p)) (stage_from b p (after_page_end sheet p))
      go (inl e) = rw (Moves.page_end_empty sheet p e) (page_empty e)
      go (inr l) =
          let s = lined_same_page (turns_line_end sheet p room) l in
          let before = none_ended p (after_line_end sheet p) s.pages in
          let after = one_ended p (after_page (after_line_end sheet p)) (after_line_end sheet p).line (omega arith) (sym s.line) in
          rw (Moves.page_end_lined sheet p l, before, append-nil, after) (page_lined l)

  -- the place after a word that ends before column `c` of the line
  placed : Place → ℕ → ℕ → Place
  placed p c w = record { column = c; line = p.line; opening = false; written = w; lines = p.lines; pages = p.pages }

  cells_placed : (p : Place) (b n c : ℕ) → p.column + b + n ≡ c → after_cells p b n ≡ placed p c (p.written + b + n)
  unfolding after_cells placed
  cells_placed p b n c e =
      λ i. record { column = e i; line = p.line; opening = false; written = p.written + b + n; lines = p.lines; pages = p.pages }

  -- ---- A word is laid out by the rules: at `p`, so that the place is then `q`

  module _ (cells : List ℕ) (items : List Item) (spots : List Spot) (lines : ℕ) (pages : List ℕ) where
    abbrev size : ℕ
    size = length cells

    -- no page ends before the word, once these have ended
    abbrev LaidHere : List ℕ → Place → Place → Type 0
    LaidHere b p q = Lays sheet (stage_of b q) items spots lines pages → Lays sheet (stage_of b p) (word cells ∷ items) (spot q ∷ spots) lines pages

    -- a page may end before it
    abbrev Laid : List ℕ → Place → Place → Type 0
    Laid b p q = Lays sheet (stage_from b p q) items spots lines pages → Lays sheet (stage_of b p) (word cells ∷ items) (spot q ∷ spots) lines pages

    here : (b : List ℕ) (p q : Place) → q.pages ≡ p.pages → LaidHere b p q → Laid b p q
    here b p q e d = rw (none_ended p q e, append-nil) d

    laid_on_empty : (pages : List ℕ) (p : Place) → p.column ≡ 0 → LaidHere pages p (after_word sheet p size)
    unfolding placed
    laid_on_empty pages p h = go p.opening refl (dec_le (paragraph_blanks + size) sheet.width)
      where
        by : (b c : ℕ) → opening_blanks sheet p size ≡ b → b + size ≡ c → LaidHere pages p (placed p c (p.written + b + size))
            → LaidHere pages p (after_word sheet p size)
        by b c e f d = rw (Moves.word_starts sheet p size h, e, cells_placed p b size c (omega arith)) d

        go : (o : Bool) → p.opening ≡ o → Dec (paragraph_blanks + size ≤ sheet.width) → LaidHere pages p (after_word sheet p size)
        go false o d = by 0 size (Moves.opening_none sheet p size o) (omega arith) (λ l. starts h o l)
        go true o (yes f) = by paragraph_blanks (paragraph_blanks + size) (Moves.opening_blanks_lem sheet p size o f) refl (λ l. opens h o f l)
        go true o (no d) = by 0 size (Moves.opening_wide sheet p size o (omega arith)) (omega arith) (λ l. opens_wide h o (omega arith) l)

    -- on an empty line a word ends no page
    starts_on_page : (p : Place) → p.column ≡ 0 → (after_word sheet p size).pages ≡ p.pages
    unfolding after_cells
    starts_on_page p h = rw (Moves.word_starts sheet p size h)

    -- once the line has ended, the word is laid out as on the empty line
    laid_on_next : (b : List ℕ) (p : Place) → p.line < sheet.length
        → Lays sheet (stage_from b p (after_word sheet (after_line sheet p) size)) items spots lines pages
        → Lays sheet (stage_from b p (after_line sheet p)) (word cells ∷ items) (spot (after_word sheet (after_line sheet p) size) ∷ spots) lines pages
    unfolding ended_pages after_cells
    laid_on_next b p room =
        let h = (Moves.line_is_fresh sheet p room).empty in
        let q = after_line sheet p in
        let d = laid_on_empty (b ++ ended_pages p q) q h in
        rw (Moves.word_starts sheet q size h) (rw (Moves.word_starts sheet q size h) at d)

    laid : (b : List ℕ) (p : Place) → p.line < sheet.length → Laid b p (after_word sheet p size)
    unfolding placed
    laid b p room = go (Moves.held_or_empty p.column) (dec_le (p.column + gap_blanks + size) sheet.width)
      where
        go : (p.column ≡ 0) ⊎ (0 < p.column) → Dec (p.column + gap_blanks + size ≤ sheet.width) → Laid b p (after_word sheet p size)
        go (inl e) d = here b p _ (starts_on_page p e) (laid_on_empty b p e)
        go (inr l) (yes f) =
            rw (Moves.word_joins sheet p size l f, cells_placed p gap_blanks size (p.column + gap_blanks + size) refl)
            (here b p _ refl (λ d. follows l f d))
        go (inr l) (no d) =
            let wide : sheet.width < p.column + gap_blanks + size = omega arith in
            rw (Moves.word_on_next sheet p size room l wide) (λ r. overflows l wide (line_ends b p room) (laid_on_next b p room r))

    -- with the line ended before the word, if it holds a cell
    laid_early : (b : List ℕ) (p : Place) → p.line < sheet.length → Laid b p (after_word sheet (after_line_end sheet p) size)
    laid_early b p room = go (Moves.held_or_empty p.column)
      where
        go : (p.column ≡ 0) ⊎ (0 < p.column) → Laid b p (after_word sheet (after_line_end sheet p) size)
        go (inl e) = rw (Moves.line_end_empty sheet p e) (here b p _ (starts_on_page p e) (laid_on_empty b p e))
        go (inr l) = rw (Moves.line_end_held sheet p l) (λ r. ends_early l (line_ends b p room) (laid_on_next b p room r))

  -- 71 is by the rules
  empty_line_laid : (items : List Item) (spots : List Spot) (lines : ℕ) (pages b : List ℕ) (p : Place) → p.line < sheet.length
      → Lays sheet (stage_from b p (after_empty_line sheet p)) items spots lines pages → Lays sheet (stage_of b p) (empty_line ∷ items) spots lines pages
  empty_line_laid items spots lines pages b p room d = go (Moves.held_or_empty (after_line_end sheet p).line)
    where
      go : ((after_line_end sheet p).line ≡ 0) ⊎ (0 < (after_line_end sheet p).line) → Lays sheet (stage_of b p) (empty_line ∷ items) spots lines pages
      go (inl e) = sign_71_at_top (ends_if_held b p room) e (rw (Moves.empty_line_at_top sheet p e) at d)
      go (inr l) =
          let q = after_line_end sheet p in
          let q_room = (Moves.line_end_is_fresh sheet p room).room in
          let s = lined_same_page (turns_line_end sheet p room) l in
          let forward = turns_forward (turns_line sheet q q_room) in
          let before = none_ended p q s.pages in
          let after = then_ended (after_line sheet q) s forward in
          sign_71 (rw (before, append-nil) at (ends_if_held b p room)) l (line_ends b q q_room) (rw (Moves.empty_line_below sheet p l, after) at d)

  -- ---- Every layout by choices is permitted

  -- how a volume ends, from a place on
  abbrev end : Place → List Item → Place
  end p items = after_items sheet p (ended items)

  -- the lines of each page, from a place on
  abbrev sized : Place → List Item → List ℕ
  sized p items = sizes_from sheet p (ended items)

  -- the pages that the move from `p` to `q` ended are put before those that follow
  joined : {s : Stage} {items : List Item} {spots : List Spot} {lines : ℕ} (b : List ℕ) (p q : Place) (rest : List ℕ)
      → Lays sheet s items spots lines ((b ++ ended_pages p q) ++ rest) → Lays sheet s items spots lines (b ++ (ended_pages p q ++ rest))
  joined {s} {items} {spots} {lines} b p q rest d = subst (Lays sheet s items spots lines) (append_assoc b (ended_pages p q) rest) d

  -- a word on an empty line ends no page more
  then_word : (p q : Place) (n : ℕ) → q.column ≡ 0 → ended_pages p q ++ ended_pages q (after_word sheet q n) ≡ ended_pages p (after_word sheet q n)
  unfolding after_cells ended_pages
  then_word p q n h = rw (Moves.word_starts sheet q n h, none_ended q (after_cells q (opening_blanks sheet q n) n) refl, append-nil)

  by_choices_permitted : (choices : List Bool) (items : List Item) (b : List ℕ) (p : Place) → p.line < sheet.length
      → let chosen = with_choices choices items in Lays sheet (stage_of b p) items (spots_from sheet p chosen) (end p chosen).lines (b ++ sized p chosen)
  unfolding spot_after spots_from sizes_from with_choices after_items after_item ended after_paragraph ended_pages
  by_choices_permitted choices [] b p h = rw append-nil (end_of_text (ends_if_held b p h) (page_ends_if_lined b p h))
  by_choices_permitted [] (word cells ∷ items) b p h =
      let q = after_word sheet p (length cells) in
      joined b p q _ (laid cells items _ _ _ b p h (by_choices_permitted [] items (b ++ ended_pages p q) q (Moves.word_has_room sheet p (length cells) h)))
  by_choices_permitted (true ∷ choices) (word cells ∷ items) b p h =
      let q = after_line_end sheet p in
      let r = after_word sheet q (length cells) in
      let fresh = Moves.line_end_is_fresh sheet p h in
      let later = by_choices_permitted choices items (b ++ ended_pages p r) r (Moves.word_has_room sheet q (length cells) fresh.room) in
      rw (← (append_assoc (ended_pages p q) (ended_pages q r) (sized r (with_choices choices items))), then_word p q (length cells) fresh.empty)
      (joined b p r _ (laid_early cells items _ _ _ b p h later))
  by_choices_permitted (false ∷ choices) (word cells ∷ items) b p h =
      let q = after_word sheet p (length cells) in
      joined b p q _ (laid cells items _ _ _ b p h (by_choices_permitted choices items (b ++ ended_pages p q) q (Moves.word_has_room sheet p (length cells) h)))
  by_choices_permitted choices (line_end ∷ items) b p h =
      let q = after_line_end sheet p in
      joined b p q _ (sign_70 (ends_if_held b p h) (by_choices_permitted choices items (b ++ ended_pages p q) q (Moves.line_end_is_fresh sheet p h).room))
  by_choices_permitted choices (empty_line ∷ items) b p h =
      let q = after_empty_line sheet p in
      joined b p q _ (empty_line_laid items _ _ _ b p h (by_choices_permitted choices items (b ++ ended_pages p q) q (Moves.empty_line_is_fresh sheet p h).room))
  by_choices_permitted choices (paragraph ∷ items) b p h =
      let q = after_paragraph sheet p in
      joined b p q _
      (sign_72 (ends_if_held b p h) (by_choices_permitted choices items (b ++ ended_pages p q) q (Moves.line_end_is_fresh sheet p h).room))
  by_choices_permitted choices (page_end ∷ items) b p h =
      let q = after_page_end sheet p in
      joined b p q _
      (sign_73 (ends_if_held b p h) (page_ends_if_lined b p h) (by_choices_permitted choices items (b ++ ended_pages p q) q (Moves.page_end_is_fresh sheet p h).room))

  -- ---- Every permitted layout arises from choices

  -- our moves give this layout, from a place on, once the pages `b` have ended
  record Gives (b : List ℕ) (p : Place) (items : List Item) (spots : List Spot) (lines : ℕ) (pages : List ℕ) : Type 0 where
    spots_are : spots_from sheet p items ≡ spots
    lines_are : (end p items).lines ≡ lines
    pages_are : b ++ sized p items ≡ pages

  -- so they do from a stage on
  abbrev GivesFrom : Stage → ℕ → List Item → List Spot → ℕ → List ℕ → Type 0
  GivesFrom s w items spots lines pages = Gives s.pages (place_of s w) items spots lines pages

  record Arises (s : Stage) (items : List Item) (spots : List Spot) (lines : ℕ) (pages : List ℕ) : Type 0 where
    choices : List Bool
    one_each : length choices ≡ word_count items
    gives : (w : ℕ) → GivesFrom s w (with_choices choices items) spots lines pages

  -- a move from the stage `s` leads to the stage `t`
  record Leads (s t : Stage) (w : ℕ) (q : Place) : Type 0 where
    count : ℕ
    place_is : q ≡ place_of t count
    pages_are : s.pages ++ ended_pages (place_of s w) (place_of t count) ≡ t.pages

  -- where no page ends
  leads_on : (s t : Stage) (w count : ℕ) {q : Place} → t.pages ≡ s.pages → q ≡ place_of t count → Leads s t w q
  leads_on s t w count e f =
      record {
        count = count;
        place_is = f;
        pages_are = rw (none_ended (place_of s w) (place_of t count) (ap length e), append-nil) (sym e);
      }

  -- where the page ends, with its lines and those that end with it
  leads_over : (s t : Stage) (w count : ℕ) {q : Place} (n : ℕ) → t.pages ≡ s.pages ++ n ∷ [] → s.on_page + (t.lines - s.lines) ≡ n
      → q ≡ place_of t count → Leads s t w q
  leads_over s t w count n e g f =
      let more : length t.pages ≡ length s.pages + 1 = rw e (length-append s.pages (n ∷ [])) in
      record {
        count = count;
        place_is = f;
        pages_are = rw (one_ended (place_of s w) (place_of t count) n more g) (sym e);
      }

  line_at : {s t : Stage} → LineEnds sheet s t → (w : ℕ) → Leads s t w (after_line sheet (place_of s w))
  line_at {s} (page_goes_on l) w = leads_on s _ w (w + 1) refl (Moves.line_goes_on sheet (place_of s w) l)
  line_at {s} (page_is_full e) w =
      let n : length (s.pages ++ (s.on_page + 1) ∷ []) ≡ length s.pages + 1 = length-append s.pages ((s.on_page + 1) ∷ []) in
      leads_over s _ w (w + 2) (s.on_page + 1) refl (omega arith) (rw n (Moves.line_fills sheet (place_of s w) e))

  end_at : {s t : Stage} → EndsIfHeld sheet s t → (w : ℕ) → Leads s t w (after_line_end sheet (place_of s w))
  end_at {s} (line_empty e) w = leads_on s s w w refl (Moves.line_end_empty sheet (place_of s w) e)
  end_at {s} (line_held l d) w =
      let r = line_at d w in
      record { count = r.count; place_is = Moves.line_end_held sheet (place_of s w) l ∙ r.place_is; pages_are = r.pages_are }

  step_gives : {s t : Stage} (item : Item) (w : ℕ) (items : List Item) (spots : List Spot) (lines : ℕ) (pages : List ℕ)
      → (r : Leads s t w (after_item sheet (place_of s w) item)) → GivesFrom t r.count items spots lines pages
      → GivesFrom s w (item ∷ items) (spot_after (place_of t r.count) item ++ spots) lines pages
  unfolding spots_from sizes_from after_items ended
  step_gives {s} {t} item w items spots lines pages r g =
      let p : Place = place_of s w in
      subst
      (λ (q : Place). s.pages ++ ended_pages p q ≡ t.pages → Gives t.pages q items spots lines pages
      → Gives s.pages p (item ∷ items) (spot_after q item ++ spots) lines pages)
      r.place_is
      (λ f g'.
      let q : Place = after_item sheet p item in
      record {
        spots_are = ap (λ (x : List Spot). spot_after q item ++ x) g'.spots_are;
        lines_are = g'.lines_are;
        pages_are = sym (append_assoc s.pages (ended_pages p q) (sized q items)) ∙ ap (λ (x : List ℕ). x ++ sized q items) f ∙ g'.pages_are;
      })
      r.pages_are
      g

  -- a word that is placed on its line, so that it ends before column `c`
  placed_on_line : {s : Stage} {cells : List ℕ} {items : List Item} {spots : List Spot} {lines : ℕ} {pages : List ℕ} (c : ℕ)
      → ((w : ℕ) → Leads s (worded s c) w (after_word sheet (place_of s w) (length cells))) → Arises (worded s c) items spots lines pages
      → Arises s (word cells ∷ items) (record { line = s.lines; column = c } ∷ spots) lines pages
  unfolding with_choices word_count spot_after after_item
  placed_on_line {s} {cells} {items} {spots} {lines} {pages} c m a =
      record {
        choices = false ∷ a.choices;
        one_each = ap suc a.one_each;
        gives =
            λ w.
            step_gives (word cells) w (with_choices a.choices items) spots lines pages (m w) (a.gives (m w).count);
      }

  -- a word that starts an empty line, after `b` blanks
  started : {s : Stage} {cells : List ℕ} {items : List Item} {spots : List Spot} {lines : ℕ} {pages : List ℕ} (b c : ℕ) → s.column ≡ 0
      → ((w : ℕ) → opening_blanks sheet (place_of s w) (length cells) ≡ b) → b + length cells ≡ c → Arises (worded s c) items spots lines pages
      → Arises s (word cells ∷ items) (record { line = s.lines; column = c } ∷ spots) lines pages
  unfolding placed
  started {s} {cells} b c h o e a =
      placed_on_line c
      (λ w.
      let n : ℕ = length cells in
      leads_on s (worded s c) w (w + b + n) refl
      (Moves.word_starts sheet (place_of s w) n h ∙ rw (o w) (cells_placed (place_of s w) b n c (omega arith))))
      a

  -- a line that ends before a word, whatever the reason
  ended_before : {s t : Stage} {cells : List ℕ} {items : List Item} {spots : List Spot} {lines : ℕ} {pages : List ℕ} → 0 < s.column → LineEnds sheet s t
      → Arises t (word cells ∷ items) spots lines pages → Arises s (word cells ∷ items) spots lines pages
  unfolding with_choices word_count spot_after spots_from sizes_from after_item after_items ended
  ended_before {s} {t} {cells} {items} {spots} {lines} {pages} h d a = go a.choices a.one_each a.gives
    where
      empty : {t : Stage} → LineEnds sheet s t → t.column ≡ 0
      empty (page_goes_on l) = refl
      empty (page_is_full e) = refl

      here : (choices : List Bool) → ((w : ℕ) → GivesFrom t w (word cells ∷ with_choices choices items) spots lines pages)
          → (w : ℕ) → GivesFrom s w (line_end ∷ word cells ∷ with_choices choices items) spots lines pages
      here choices g w =
          let r = end_at (line_held h d) w in
          step_gives line_end w (word cells ∷ with_choices choices items) spots lines pages r (g r.count)

      -- on the empty line sign 70 does nothing
      spared : (choices : List Bool) (w : ℕ) → GivesFrom t w (line_end ∷ word cells ∷ with_choices choices items) spots lines pages
          → GivesFrom t w (word cells ∷ with_choices choices items) spots lines pages
      spared choices w g =
          let p : Place = place_of t w in
          let q : Place = after_line_end sheet p in
          let rest : List Item = word cells ∷ with_choices choices items in
          let stays = Moves.line_end_empty sheet p (empty d) in
          let none = none_ended p q (ap (λ (r : Place). r.pages) stays) in
          subst (λ (r : Place). Gives t.pages r rest spots lines pages) stays
          (record {
            spots_are = g.spots_are;
            lines_are = g.lines_are;
            pages_are = ap (λ (x : List ℕ). t.pages ++ (x ++ sized q rest)) (sym none) ∙ g.pages_are;
          })

      go : (choices : List Bool) → length choices ≡ suc (word_count items)
          → ((w : ℕ) → GivesFrom t w (with_choices choices (word cells ∷ items)) spots lines pages) → Arises s (word cells ∷ items) spots lines pages
      go [] e g = absurd (omega arith)
      go (false ∷ choices) e g = record { choices = true ∷ choices; one_each = e; gives = here choices g }
      go (true ∷ choices) e g = record { choices = true ∷ choices; one_each = e; gives = here choices (λ w. spared choices w (g w)) }

  -- a format sign, by its move
  signed : {s t : Stage} {items : List Item} {spots : List Spot} {lines : ℕ} {pages : List ℕ} (item : Item) → ((w : ℕ) → Leads s t w (after_item sheet (place_of s w) item))
      → ((q : Place) → spot_after q item ≡ []) → ((choices : List Bool) → with_choices choices (item ∷ items) ≡ item ∷ with_choices choices items)
      → word_count (item ∷ items) ≡ word_count items → Arises t items spots lines pages → Arises s (item ∷ items) spots lines pages
  signed {s} {t} {items} {spots} {lines} {pages} item m none passes count a =
      record {
        choices = a.choices;
        one_each = a.one_each ∙ sym count;
        gives =
            λ w.
            let q : Place = place_of t (m w).count in
            let g = step_gives item w (with_choices a.choices items) spots lines pages (m w) (a.gives (m w).count) in
            rw (passes a.choices) (subst (λ (r : List Spot). GivesFrom s w (item ∷ with_choices a.choices items) (r ++ spots) lines pages) (none q) g);
      }

  -- where the page has a line after 70, no page has ended
  held_same_page : {s t : Stage} → EndsIfHeld sheet s t → 0 < t.on_page → (w c : ℕ) → (t.pages ≡ s.pages) × SamePage (place_of s w) (place_of t c)
  held_same_page (line_empty e) h w c = (refl, record { pages = refl; lines = omega arith; line = omega arith })
  held_same_page (line_held l (page_goes_on g)) h w c = (refl, record { pages = refl; lines = omega arith; line = omega arith })
  held_same_page (line_held l (page_is_full g)) h w c = absurd (omega arith)

  -- so what ends a page from there ends it with the lines since `s`
  leads_then : {s t u : Stage} (w c : ℕ) {q r : Place} → EndsIfHeld sheet s t → 0 < t.on_page → t.lines ≤ u.lines → q ≡ r → Leads t u c r → Leads s u w q
  leads_then {s} {t} {u} w c e l f is m =
      let k = held_same_page e l w c in
      record {
        count = m.count;
        place_is = is ∙ m.place_is;
        pages_are = rw (then_ended (place_of u m.count) k.1 f, ← k.0) m.pages_are;
      }

  line_forward : {s t : Stage} → LineEnds sheet s t → s.lines ≤ t.lines
  line_forward (page_goes_on l) = omega arith
  line_forward (page_is_full e) = omega arith

  empty_line_at : {s t u : Stage} → EndsIfHeld sheet s t → 0 < t.on_page → LineEnds sheet t u → (w : ℕ) → Leads s u w (after_empty_line sheet (place_of s w))
  empty_line_at {s} e l f w =
      let r = end_at e w in
      let i : 0 < (after_line_end sheet (place_of s w)).line = rw r.place_is l in
      leads_then w r.count e l (line_forward f)
      (Moves.empty_line_below sheet (place_of s w) i ∙ ap (λ (q : Place). after_line sheet q) r.place_is)
      (line_at f r.count)

  empty_line_at_top_at : {s t : Stage} → EndsIfHeld sheet s t → t.on_page ≡ 0 → (w : ℕ) → Leads s t w (after_empty_line sheet (place_of s w))
  empty_line_at_top_at {s} e z w =
      let r = end_at e w in
      let i : (after_line_end sheet (place_of s w)).line ≡ 0 = rw r.place_is z in
      record { count = r.count; place_is = Moves.empty_line_at_top sheet (place_of s w) i ∙ r.place_is; pages_are = r.pages_are }

  paragraph_at : {s t : Stage} → EndsIfHeld sheet s t → (w : ℕ) → Leads s (opened t) w (after_paragraph sheet (place_of s w))
  unfolding after_paragraph ended_pages
  paragraph_at {s} e w =
      let r = end_at e w in
      record {
        count = r.count;
        place_is =
            ap
            (λ (q : Place). record { column = q.column; line = q.line; opening = true; written = q.written; lines = q.lines; pages = q.pages })
            r.place_is;
        pages_are = r.pages_are;
      }

  page_at : (t : Stage) (c : ℕ) → Leads t (paged t) c (after_page (place_of t c))
  unfolding after_page
  page_at t c =
      let n : length (t.pages ++ t.on_page ∷ []) ≡ length t.pages + 1 = length-append t.pages (t.on_page ∷ []) in
      leads_over t (paged t) c (c + 1) t.on_page refl (omega arith) (rw n)

  page_end_at : {s t u : Stage} → EndsIfHeld sheet s t → PageEndsIfLined t u → (w : ℕ) → Leads s u w (after_page_end sheet (place_of s w))
  page_end_at {s} {t} e f w = go f (end_at e w)
    where
      go : {u : Stage} → PageEndsIfLined t u → Leads s t w (after_line_end sheet (place_of s w)) → Leads s u w (after_page_end sheet (place_of s w))
      go (page_empty z) r =
          let i : (after_line_end sheet (place_of s w)).line ≡ 0 = rw r.place_is z in
          record { count = r.count; place_is = Moves.page_end_empty sheet (place_of s w) i ∙ r.place_is; pages_are = r.pages_are }
      go (page_lined l) r =
          let i : 0 < (after_line_end sheet (place_of s w)).line = rw r.place_is l in
          leads_then w r.count e l (omega arith) (Moves.page_end_lined sheet (place_of s w) i ∙ ap after_page r.place_is) (page_at t r.count)

  arises : {s : Stage} {items : List Item} {spots : List Spot} {lines : ℕ} {pages : List ℕ} → Lays sheet s items spots lines pages
      → Arises s items spots lines pages
  unfolding with_choices word_count spot_after spots_from sizes_from after_items after_item ended placed
  arises (starts {s = s} {cells = cells} h o d) =
      started 0 _ h (λ w. Moves.opening_none sheet (place_of s w) (length cells) o) (omega arith) (arises d)
  arises (opens {s = s} {cells = cells} h o f d) =
      started paragraph_blanks _ h (λ w. Moves.opening_blanks_lem sheet (place_of s w) (length cells) o f) refl (arises d)
  arises (opens_wide {s = s} {cells = cells} h o f d) =
      started 0 _ h (λ w. Moves.opening_wide sheet (place_of s w) (length cells) o f) (omega arith) (arises d)
  arises (follows {s = s} {cells = cells} h f d) =
      placed_on_line _
      (λ w.
      let n : ℕ = length cells in
      leads_on s (worded s (s.column + gap_blanks + n)) w (w + gap_blanks + n) refl
      (Moves.word_joins sheet (place_of s w) n h f ∙ cells_placed (place_of s w) gap_blanks n _ refl))
      (arises d)
  arises (overflows h f e d) = ended_before h e (arises d)
  arises (ends_early h e d) = ended_before h e (arises d)
  arises (sign_70 e d) = signed line_end (end_at e) (λ q. refl) (λ c. refl) refl (arises d)
  arises (sign_71 e l f d) = signed empty_line (empty_line_at e l f) (λ q. refl) (λ c. refl) refl (arises d)
  arises (sign_71_at_top e z d) = signed empty_line (empty_line_at_top_at e z) (λ q. refl) (λ c. refl) refl (arises d)
  arises (sign_72 e d) = signed paragraph (paragraph_at e) (λ q. refl) (λ c. refl) refl (arises d)
  arises (sign_73 e f d) = signed page_end (page_end_at e f) (λ q. refl) (λ c. refl) refl (arises d)
  arises (end_of_text e f) =
      record {
        choices = [];
        one_each = refl;
        gives =
            λ w.
            let r = page_end_at e f w in
            record {
              spots_are = refl;
              lines_are = ap (λ (q : Place). q.lines) r.place_is;
              pages_are = rw (r.place_is, append-nil) r.pages_are;
            };
      }

-- ---- The theorems

no_choices : (items : List Item) → with_choices [] items ≡ items
unfolding with_choices
no_choices [] = refl
no_choices (word cells ∷ items) = ap (λ (r : List Item). word cells ∷ r) (no_choices items)
no_choices (line_end ∷ items) = ap (λ (r : List Item). line_end ∷ r) (no_choices items)
no_choices (empty_line ∷ items) = ap (λ (r : List Item). empty_line ∷ r) (no_choices items)
no_choices (paragraph ∷ items) = ap (λ (r : List Item). paragraph ∷ r) (no_choices items)
no_choices (page_end ∷ items) = ap (λ (r : List Item). page_end ∷ r) (no_choices items)

module _ (sheet : Sheet) (page : 0 < sheet.length) (items : List Item) where
  -- for each list of choices, the layout that ends the line before each chosen word is permitted
  pub choices_permitted : (choices : List Bool) → Permitted sheet items (layout_of sheet (with_choices choices items))
  unfolding layout_of volume_end
  choices_permitted choices = by_choices_permitted sheet choices items [] start page

  pub ours_permitted : Permitted sheet items (layout_of sheet items)
  ours_permitted = subst (λ (r : List Item). Permitted sheet items (layout_of sheet r)) (no_choices items) (choices_permitted [])

  -- every permitted layout arises so
  pub permitted_by_choices : (layout : Layout) → Permitted sheet items layout → ByChoices sheet items layout
  unfolding layout_of volume_end
  permitted_by_choices layout d =
      let a = arises sheet d in
      let g = a.gives 0 in
      record {
        choices = a.choices;
        one_each = a.one_each;
        same = λ i. record { spots = g.spots_are i; lines = g.lines_are i; pages = g.pages_are i };
      }
