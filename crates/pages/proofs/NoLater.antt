-- Demand 3: of all permitted layouts of the same words and format signs, ours ends each word on no later line of the volume, and where the line is
-- equal in no later column, and has no more lines and no more pages. The idea: since the last page end that a 73 brought, both layouts count their
-- lines from a fresh page, so the page and the line on it are the same functions of that count. Ours is behind in the count, or equal and no further
-- in the column; every move keeps that, and so does a sign 70 in the other alone.
use Prim.Native.Nat.{ℕ, zero, suc, ◌+◌, ◌≤◌, ◌<◌}
use mathlib.Core.Bool.{Bool, true, false, cond}
use mathlib.Core.List.{List, [], ◌∷◌}
use mathlib.Core.Logic.{◌⊎◌, inl, inr}
use mathlib.Core.Path.{◌≡◌, refl, sym, ◌∙◌, ap, subst}
use native.Mathlib.Decide.{dec_le, dec_lt}
use native.Mathlib.Omega.{arith}
use lib.Dec.{ltb, eqb}
use lib.ListN.{length}
use borrow.Author.Tests.{lt-ltb, le-ltb, eq-eqb, ne_eqb}
use Rattle.pages.specs.Numbers.{gap_blanks}
use Rattle.pages.specs.Words.{Item, word, line_end, empty_line, paragraph, page_end}
use Rattle.pages.specs.Place.{start, after_line, after_line_end, after_empty_line, after_paragraph, after_page, after_page_end, opening_blanks, after_cells, after_word, after_item, after_items, ended, volume_end}
use Rattle.pages.specs.Permitted.{Layout, Permitted}
use Rattle.pages.specs.Spots.{spot, spot_after, spots_from, layout_of, with_choices, NoLaterSpot, NoLaterSpots, no_word, each_word, NoLater}
use Rattle.pages.specs.declared.Place.{Place}
use Rattle.pages.proofs.Moves as Moves
use Rattle.pages.proofs.Ended.{volume_sizes_counted}
use Rattle.pages.proofs.Permitted.{permitted_by_choices}
use Rattle.pages.specs.declared.Sheet.{Sheet}

module _ (sheet : Sheet) where
  -- ---- The lines of the page, and the pages, after `k` lines from a fresh page

  line_of : ℕ → ℕ
  line_of zero = 0
  line_of (suc k) = cond (eqb (line_of k + 1) sheet.length) 0 (line_of k + 1)

  page_of : ℕ → ℕ
  page_of zero = 0
  page_of (suc k) = cond (eqb (line_of k + 1) sheet.length) (page_of k + 1) (page_of k)

  -- the pages, where a page that has a line is ended
  pages_by : ℕ → ℕ
  pages_by k = cond (ltb 0 (line_of k)) (page_of k + 1) (page_of k)

  -- the place has come `k` lines from a fresh page, before which the volume had so many lines and pages
  record Counted (lines pages k : ℕ) (p : Place) : Type 0 where
    lines_at : p.lines ≡ lines + k
    pages_at : p.pages ≡ pages + page_of k
    line_at : p.line ≡ line_of k
    room : p.line < sheet.length

  counted_line : {lines pages k : ℕ} {p : Place} → Counted lines pages k p → Counted lines pages (suc k) (after_line sheet p)
  unfolding line_of page_of
  counted_line {lines} {pages} {k} {p} c = go (dec_lt (p.line + 1) sheet.length)
    where
      go : Dec (p.line + 1 < sheet.length) → Counted lines pages (suc k) (after_line sheet p)
      go (yes l) =
          let e : eqb (line_of k + 1) sheet.length ≡ false = ne_eqb (line_of k + 1) sheet.length (λ q. omega arith) in
          rw (Moves.line_goes_on sheet p l)
          (record { lines_at = omega arith; pages_at = rw e c.pages_at; line_at = rw e (omega arith); room = l })
      go (no d) =
          let f : p.line + 1 ≡ sheet.length = omega arith in
          let e : eqb (line_of k + 1) sheet.length ≡ true = eq-eqb (line_of k + 1) sheet.length (omega arith) in
          rw (Moves.line_fills sheet p f)
          (record { lines_at = omega arith; pages_at = rw e (omega arith); line_at = rw e refl; room = omega arith })

  -- more lines are no fewer pages
  page_of_more : (k j : ℕ) → k ≤ j → page_of k ≤ page_of j
  unfolding page_of
  page_of_more k zero h = let e : k ≡ 0 = omega arith in rw e (omega arith)
  page_of_more k (suc j) h = go (dec_le k j) (page_of_more k j) (eqb (line_of j + 1) sheet.length) refl
    where
      go : Dec (k ≤ j) → (k ≤ j → page_of k ≤ page_of j) → (b : Bool) → eqb (line_of j + 1) sheet.length ≡ b → page_of k ≤ page_of (suc j)
      go (yes l) less true e = let i = less l in rw e (omega arith)
      go (yes l) less false e = rw e (less l)
      go (no d) less b e = let f : k ≡ suc j = omega arith in rw f (omega arith)

  pages_by_lined : (k : ℕ) → 0 < line_of k → pages_by k ≡ page_of k + 1
  unfolding pages_by
  pages_by_lined k h = rw (lt-ltb 0 (line_of k) h)

  pages_by_empty : (k : ℕ) → line_of k ≡ 0 → pages_by k ≡ page_of k
  unfolding pages_by
  pages_by_empty k h = rw (le-ltb 0 (line_of k) (omega arith))

  pages_by_suc : (k : ℕ) → pages_by (suc k) ≡ page_of k + 1
  unfolding line_of page_of
  pages_by_suc k = go (eqb (line_of k + 1) sheet.length) refl
    where
      go : (b : Bool) → eqb (line_of k + 1) sheet.length ≡ b → pages_by (suc k) ≡ page_of k + 1
      go true e =
          let line : line_of (suc k) ≡ 0 = rw e in
          let page : page_of (suc k) ≡ page_of k + 1 = rw e in
          pages_by_empty (suc k) line ∙ page
      go false e =
          let line : line_of (suc k) ≡ line_of k + 1 = rw e in
          let page : page_of (suc k) ≡ page_of k = rw e in
          let f = pages_by_lined (suc k) (omega arith) in
          omega arith

  pages_by_at_most : (k : ℕ) → pages_by k ≤ page_of k + 1
  pages_by_at_most k = go (Moves.held_or_empty (line_of k))
    where
      go : (line_of k ≡ 0) ⊎ (0 < line_of k) → pages_by k ≤ page_of k + 1
      go (inl e) = let f = pages_by_empty k e in omega arith
      go (inr l) = let f = pages_by_lined k l in omega arith

  -- nor where the page is ended
  pages_by_more : (k j : ℕ) → k ≤ j → pages_by k ≤ pages_by j
  pages_by_more k zero h = let e : k ≡ 0 = omega arith in rw e (omega arith)
  pages_by_more k (suc j) h = go (dec_le k j) (pages_by_more k j)
    where
      go : Dec (k ≤ j) → (k ≤ j → pages_by k ≤ pages_by j) → pages_by k ≤ pages_by (suc j)
      go (yes l) less = let i = less l in let m = pages_by_at_most j in let n = pages_by_suc j in omega arith
      go (no d) less = let e : k ≡ suc j = omega arith in rw e (omega arith)

  -- ---- What a word does to the count and the column

  data Worded (n : ℕ) (lines pages k : ℕ) (p q : Place) : Type 0 where
    on_empty : p.column ≡ 0 → q.column ≡ opening_blanks sheet p n + n → Counted lines pages k q → Worded n lines pages k p q
    on_line : 0 < p.column → p.column + gap_blanks + n ≤ sheet.width → q.column ≡ p.column + gap_blanks + n → Counted lines pages k q
        → Worded n lines pages k p q
    on_next : 0 < p.column → sheet.width < p.column + gap_blanks + n → q.column ≡ n → Counted lines pages (suc k) q → Worded n lines pages k p q

  word_view : {n lines pages k : ℕ} {p : Place} → Counted lines pages k p → (p.opening ≡ true → p.column ≡ 0)
      → Worded n lines pages k p (after_word sheet p n)
  unfolding after_cells
  word_view {n} {lines} {pages} {k} {p} c idle = go (Moves.held_or_empty p.column) (dec_le (p.column + gap_blanks + n) sheet.width)
    where
      go : (p.column ≡ 0) ⊎ (0 < p.column) → Dec (p.column + gap_blanks + n ≤ sheet.width) → Worded n lines pages k p (after_word sheet p n)
      go (inl e) d =
          rw (Moves.word_starts sheet p n e)
          (on_empty e (omega arith) (record { lines_at = c.lines_at; pages_at = c.pages_at; line_at = c.line_at; room = c.room }))
      go (inr l) (yes f) =
          rw (Moves.word_joins sheet p n l f)
          (on_line l f refl (record { lines_at = c.lines_at; pages_at = c.pages_at; line_at = c.line_at; room = c.room }))
      go (inr l) (no d) =
          let wide : sheet.width < p.column + gap_blanks + n = omega arith in
          let q = after_line sheet p in
          let m = counted_line c in
          let o : opening_blanks sheet (after_line sheet p) n ≡ 0 =
          Moves.opening_none sheet (after_line sheet p) n (Moves.line_keeps_opening sheet p ∙ not_opening p.opening refl) in
          let z = (Moves.line_is_fresh sheet p c.room).empty in
          rw (Moves.word_overflows sheet p n l wide, o)
          (on_next l wide (omega arith) (record { lines_at = m.lines_at; pages_at = m.pages_at; line_at = m.line_at; room = m.room }))
        where
          not_opening : (b : Bool) → p.opening ≡ b → p.opening ≡ false
          not_opening true e = let h = idle e in absurd (omega arith)
          not_opening false e = e

  -- ---- What the end of a line that holds a cell does

  data LineEnded (lines pages k : ℕ) (p q : Place) : Type 0 where
    stays : p.column ≡ 0 → Counted lines pages k q → LineEnded lines pages k p q
    moves : 0 < p.column → Counted lines pages (suc k) q → LineEnded lines pages k p q

  line_end_view : {lines pages k : ℕ} {p : Place} → Counted lines pages k p → LineEnded lines pages k p (after_line_end sheet p)
  line_end_view {lines} {pages} {k} {p} c = go (Moves.held_or_empty p.column)
    where
      go : (p.column ≡ 0) ⊎ (0 < p.column) → LineEnded lines pages k p (after_line_end sheet p)
      go (inl e) = rw (Moves.line_end_empty sheet p e) (stays e c)
      go (inr l) = rw (Moves.line_end_held sheet p l) (moves l (counted_line c))

  -- ---- Ours, `p`, is behind theirs, `q`, or level with it

  -- fewer lines, or as many and no more cells
  record Order (k j c d : ℕ) : Type 0 where
    counts : k ≤ j
    columns : k ≡ j → c ≤ d

  -- where the columns are out of order, the counts are not level
  ahead : {k j c d : ℕ} → Order k j c d → (c ≤ d → ⊥) → k < j
  ahead {k} {j} o out = go (dec_lt k j)
    where
      go : Dec (k < j) → k < j
      go (yes h) = h
      go (no d) = absurd (out (o.columns (let h = o.counts in omega arith)))

  record Behind (p q : Place) : Type 0 where
    lines : ℕ
    pages : ℕ
    k : ℕ
    lines' : ℕ
    pages' : ℕ
    j : ℕ
    ours : Counted lines pages k p
    theirs : Counted lines' pages' j q
    lines_before : lines ≤ lines'
    pages_before : pages ≤ pages'
    order : Order k j p.column q.column
    opening : p.opening ≡ q.opening
    idle : p.opening ≡ true → p.column ≡ 0
    idle' : q.opening ≡ true → q.column ≡ 0

  no_later_spot : {p q : Place} → Behind p q → NoLaterSpot (spot p) (spot q)
  no_later_spot b =
      let a = b.ours.lines_at in
      let c = b.theirs.lines_at in
      let d = b.lines_before in
      let o = b.order.counts in
      record { line = omega arith; column = λ e. b.order.columns (omega arith) }

  no_more_pages : {p q : Place} → Behind p q → p.pages ≤ q.pages
  no_more_pages b =
      let a = b.ours.pages_at in
      let c = b.theirs.pages_at in
      let d = b.pages_before in
      let m = page_of_more b.k b.j b.order.counts in
      omega arith

  -- the two places after a move, given their counts and the order
  moved_on : {p q : Place} (b : Behind p q) (p' q' : Place) (k j : ℕ) → Counted b.lines b.pages k p' → Counted b.lines' b.pages' j q'
      → Order k j p'.column q'.column → p'.opening ≡ q'.opening → (p'.opening ≡ true → p'.column ≡ 0)
      → (q'.opening ≡ true → q'.column ≡ 0) → Behind p' q'
  moved_on b p' q' k j c d o same idle idle' =
      record {
        lines = b.lines;
        pages = b.pages;
        k = k;
        lines' = b.lines';
        pages' = b.pages';
        j = j;
        ours = c;
        theirs = d;
        lines_before = b.lines_before;
        pages_before = b.pages_before;
        order = o;
        opening = same;
        idle = idle;
        idle' = idle';
      }

  clash : {b : Bool} → b ≡ false → b ≡ true → ⊥
  clash e f = let z : ◌≡◌ {A = ℕ} 0 1 = cc in omega arith

  shut : (b : Bool) {c : ℕ} → (b ≡ true → c ≡ 0) → 0 < c → b ≡ false
  shut true h l = let e = h refl in absurd (omega arith)
  shut false h l = refl

  same_blanks : (n : ℕ) (p q : Place) → p.opening ≡ q.opening → opening_blanks sheet p n ≡ opening_blanks sheet q n
  unfolding opening_blanks
  same_blanks n p q e = rw e

  behind_word : (n : ℕ) {p q : Place} → Behind p q → Behind (after_word sheet p n) (after_word sheet q n)
  behind_word n {p} {q} b = go (word_view b.ours b.idle) (word_view b.theirs b.idle')
    where
      p' : Place
      p' = after_word sheet p n

      q' : Place
      q' = after_word sheet q n

      at : (k j : ℕ) → Counted b.lines b.pages k p' → Counted b.lines' b.pages' j q' → Order k j p'.column q'.column → Behind p' q'
      at k j c d o =
          let f = Moves.word_spends_opening sheet p n in
          let g = Moves.word_spends_opening sheet q n in
          moved_on b p' q' k j c d o (f ∙ sym g) (λ e. absurd (clash f e)) (λ e. absurd (clash g e))

      o : Order b.k b.j p.column q.column
      o = b.order

      less : b.k ≤ b.j
      less = b.order.counts

      go : Worded n b.lines b.pages b.k p p' → Worded n b.lines' b.pages' b.j q q' → Behind p' q'
      go (on_empty e f c) (on_empty e' f' c') =
          let s = same_blanks n p q b.opening in
          at b.k b.j c c' (record { counts = less; columns = λ h. omega arith })
      go (on_empty e f c) (on_line l g f' c') =
          let s = Moves.opening_none sheet p n (b.opening ∙ shut q.opening b.idle' l) in
          at b.k b.j c c' (record { counts = less; columns = λ h. omega arith })
      go (on_empty e f c) (on_next l g f' c') = at b.k (suc b.j) c c' (record { counts = omega arith; columns = λ h. absurd (omega arith) })
      go (on_line l g f c) (on_empty e' f' c') =
          at b.k b.j c c' (record { counts = less; columns = λ h. let x = o.columns h in absurd (omega arith) })
      go (on_line l g f c) (on_line l' g' f' c') =
          at b.k b.j c c' (record { counts = less; columns = λ h. let x = o.columns h in omega arith })
      go (on_line l g f c) (on_next l' g' f' c') =
          at b.k (suc b.j) c c' (record { counts = omega arith; columns = λ h. absurd (omega arith) })
      go (on_next l g f c) (on_empty e' f' c') = at (suc b.k) b.j c c' (record { counts = ahead b.order (λ x. omega arith); columns = λ h. omega arith })
      go (on_next l g f c) (on_line l' g' f' c') = at (suc b.k) b.j c c' (record { counts = ahead b.order (λ x. omega arith); columns = λ h. omega arith })
      go (on_next l g f c) (on_next l' g' f' c') =
          at (suc b.k) (suc b.j) c c' (record { counts = omega arith; columns = λ h. omega arith })

  -- both lines are empty: the counts alone are in order
  level : {p q : Place} (b : Behind p q) (p' q' : Place) (k j : ℕ) → Counted b.lines b.pages k p' → Counted b.lines' b.pages' j q'
      → k ≤ j → p'.column ≡ 0 → q'.column ≡ 0 → p'.opening ≡ q'.opening → Behind p' q'
  level b p' q' k j c d h z z' same = moved_on b p' q' k j c d (record { counts = h; columns = λ e. omega arith }) same (λ e. z) (λ e. z')

  -- ---- Sign 70, in both layouts or in theirs alone

  behind_line_end : {p q : Place} → Behind p q → Behind (after_line_end sheet p) (after_line_end sheet q)
  behind_line_end {p} {q} b = go (line_end_view b.ours) (line_end_view b.theirs)
    where
      at : (k j : ℕ) → Counted b.lines b.pages k (after_line_end sheet p) → Counted b.lines' b.pages' j (after_line_end sheet q) → k ≤ j
          → Behind (after_line_end sheet p) (after_line_end sheet q)
      at k j c d h =
          level b (after_line_end sheet p) (after_line_end sheet q) k j c d h
          (Moves.line_end_is_fresh sheet p b.ours.room).empty
          (Moves.line_end_is_fresh sheet q b.theirs.room).empty
          (Moves.line_end_keeps_opening sheet p ∙ b.opening ∙ sym (Moves.line_end_keeps_opening sheet q))

      less : b.k ≤ b.j
      less = b.order.counts

      go : LineEnded b.lines b.pages b.k p (after_line_end sheet p) → LineEnded b.lines' b.pages' b.j q (after_line_end sheet q)
          → Behind (after_line_end sheet p) (after_line_end sheet q)
      go (stays e c) (stays e' c') = at b.k b.j c c' less
      go (stays e c) (moves l' c') = at b.k (suc b.j) c c' (omega arith)
      go (moves l c) (stays e' c') = at (suc b.k) b.j c c' (ahead b.order (λ x. omega arith))
      go (moves l c) (moves l' c') = at (suc b.k) (suc b.j) c c' (omega arith)

  behind_their_line_end : {p q : Place} → Behind p q → Behind p (after_line_end sheet q)
  behind_their_line_end {p} {q} b = go (line_end_view b.theirs)
    where
      z' : (after_line_end sheet q).column ≡ 0
      z' = (Moves.line_end_is_fresh sheet q b.theirs.room).empty

      less : b.k ≤ b.j
      less = b.order.counts

      at : (j : ℕ) → Counted b.lines' b.pages' j (after_line_end sheet q) → Order b.k j p.column (after_line_end sheet q).column
          → Behind p (after_line_end sheet q)
      at j d o =
          moved_on b p (after_line_end sheet q) b.k j b.ours d o (b.opening ∙ sym (Moves.line_end_keeps_opening sheet q)) b.idle (λ e. z')

      go : LineEnded b.lines' b.pages' b.j q (after_line_end sheet q) → Behind p (after_line_end sheet q)
      go (stays e' c') = at b.j c' (record { counts = less; columns = λ h. let x = b.order.columns h in omega arith })
      go (moves l' c') = at (suc b.j) c' (record { counts = omega arith; columns = λ h. absurd (omega arith) })

  -- ---- Signs 71, 72 and 73, once sign 70 has ended both lines

  -- both lines are empty
  record Emptied (p q : Place) : Type 0 where
    behind : Behind p q
    empty : p.column ≡ 0
    empty' : q.column ≡ 0

  emptied : {p q : Place} → Behind p q → Emptied (after_line_end sheet p) (after_line_end sheet q)
  emptied {p} {q} b =
      record {
        behind = behind_line_end b;
        empty = (Moves.line_end_is_fresh sheet p b.ours.room).empty;
        empty' = (Moves.line_end_is_fresh sheet q b.theirs.room).empty;
      }

  -- where the lines of the pages differ, the counts are not level
  apart : {p q : Place} (b : Behind p q) → (p.line ≡ q.line → ⊥) → b.k < b.j
  apart {p} {q} b d = go (dec_lt b.k b.j)
    where
      go : Dec (b.k < b.j) → b.k < b.j
      go (yes h) = h
      go (no n) =
          let o = b.order.counts in
          let e : b.k ≡ b.j = omega arith in
          absurd (d (b.ours.line_at ∙ ap line_of e ∙ sym b.theirs.line_at))

  behind_empty_line : {p q : Place} → Behind p q → Behind (after_empty_line sheet p) (after_empty_line sheet q)
  behind_empty_line {p} {q} b₀ = go (emptied b₀) (Moves.held_or_empty (after_line_end sheet p).line) (Moves.held_or_empty (after_line_end sheet q).line)
    where
      p₀ : Place
      p₀ = after_line_end sheet p

      q₀ : Place
      q₀ = after_line_end sheet q

      opens : Behind p₀ q₀ → (after_line sheet p₀).opening ≡ q₀.opening
      opens b = Moves.line_keeps_opening sheet p₀ ∙ b.opening

      go : Emptied p₀ q₀ → (p₀.line ≡ 0) ⊎ (0 < p₀.line) → (q₀.line ≡ 0) ⊎ (0 < q₀.line) → Behind (after_empty_line sheet p) (after_empty_line sheet q)
      go a (inl e) (inl e') = rw (Moves.empty_line_at_top sheet p e, Moves.empty_line_at_top sheet q e') a.behind
      go a (inl e) (inr l') =
          let b = a.behind in
          let o = b.order.counts in
          rw (Moves.empty_line_at_top sheet p e, Moves.empty_line_below sheet q l')
          (level b p₀ (after_line sheet q₀) b.k (suc b.j) b.ours (counted_line b.theirs) (omega arith) a.empty
          (Moves.line_is_fresh sheet q₀ b.theirs.room).empty
          (b.opening ∙ sym (Moves.line_keeps_opening sheet q₀)))
      go a (inr l) (inl e') =
          let b = a.behind in
          rw (Moves.empty_line_below sheet p l, Moves.empty_line_at_top sheet q e')
          (level b (after_line sheet p₀) q₀ (suc b.k) b.j (counted_line b.ours) b.theirs (apart b (λ e. omega arith))
          (Moves.line_is_fresh sheet p₀ b.ours.room).empty
          a.empty'
          (opens b))
      go a (inr l) (inr l') =
          let b = a.behind in
          let o = b.order.counts in
          rw (Moves.empty_line_below sheet p l, Moves.empty_line_below sheet q l')
          (level b (after_line sheet p₀) (after_line sheet q₀) (suc b.k) (suc b.j) (counted_line b.ours) (counted_line b.theirs) (omega arith)
          (Moves.line_is_fresh sheet p₀ b.ours.room).empty
          (Moves.line_is_fresh sheet q₀ b.theirs.room).empty
          (opens b ∙ sym (Moves.line_keeps_opening sheet q₀)))

  behind_paragraph : {p q : Place} → Behind p q → Behind (after_paragraph sheet p) (after_paragraph sheet q)
  unfolding after_paragraph
  behind_paragraph {p} {q} b₀ =
      let a = emptied b₀ in
      let b = a.behind in
      level b (after_paragraph sheet p) (after_paragraph sheet q) b.k b.j
      (record { lines_at = b.ours.lines_at; pages_at = b.ours.pages_at; line_at = b.ours.line_at; room = b.ours.room })
      (record { lines_at = b.theirs.lines_at; pages_at = b.theirs.pages_at; line_at = b.theirs.line_at; room = b.theirs.room })
      b.order.counts
      a.empty
      a.empty'
      refl

  -- after sign 73 both count from a fresh page
  counted_page_end : {lines pages k : ℕ} (p : Place) → Counted lines pages k (after_line_end sheet p) → p.line < sheet.length
      → Counted (lines + k) (pages + pages_by k) 0 (after_page_end sheet p)
  unfolding after_page line_of page_of
  counted_page_end {lines} {pages} {k} p c room = go (Moves.held_or_empty (after_line_end sheet p).line)
    where
      go : ((after_line_end sheet p).line ≡ 0) ⊎ (0 < (after_line_end sheet p).line) → Counted (lines + k) (pages + pages_by k) 0 (after_page_end sheet p)
      go (inl e) =
          let f = pages_by_empty k (sym c.line_at ∙ e) in
          rw (Moves.page_end_empty sheet p e) (record { lines_at = omega arith; pages_at = omega arith; line_at = e; room = c.room })
      go (inr l) =
          let f = pages_by_lined k (omega arith) in
          rw (Moves.page_end_lined sheet p l) (record { lines_at = omega arith; pages_at = omega arith; line_at = refl; room = omega arith })

  page_end_keeps_opening : (p : Place) → (after_page_end sheet p).opening ≡ p.opening
  unfolding after_page
  page_end_keeps_opening p = go (Moves.held_or_empty (after_line_end sheet p).line)
    where
      go : ((after_line_end sheet p).line ≡ 0) ⊎ (0 < (after_line_end sheet p).line) → (after_page_end sheet p).opening ≡ p.opening
      go (inl e) = rw (Moves.page_end_empty sheet p e) (Moves.line_end_keeps_opening sheet p)
      go (inr l) = rw (Moves.page_end_lined sheet p l) (Moves.line_end_keeps_opening sheet p)

  behind_page_end : {p q : Place} → Behind p q → Behind (after_page_end sheet p) (after_page_end sheet q)
  behind_page_end {p} {q} b₀ =
      let b = behind_line_end b₀ in
      let z = (Moves.page_end_is_fresh sheet p b₀.ours.room).empty in
      let z' = (Moves.page_end_is_fresh sheet q b₀.theirs.room).empty in
      let m = pages_by_more b.k b.j b.order.counts in
      let o = b.order.counts in
      let x = b.lines_before in
      let y = b.pages_before in
      record {
        lines = b.lines + b.k;
        pages = b.pages + pages_by b.k;
        k = 0;
        lines' = b.lines' + b.j;
        pages' = b.pages' + pages_by b.j;
        j = 0;
        ours = counted_page_end p b.ours b₀.ours.room;
        theirs = counted_page_end q b.theirs b₀.theirs.room;
        lines_before = omega arith;
        pages_before = omega arith;
        order = record { counts = omega arith; columns = λ e. omega arith };
        opening = page_end_keeps_opening p ∙ b₀.opening ∙ sym (page_end_keeps_opening q);
        idle = λ e. z;
        idle' = λ e. z';
      }

  -- ---- All items, theirs with sign 70 before the chosen words

  record Compared (p q : Place) (items theirs : List Item) : Type 0 where
    spots : NoLaterSpots (spots_from sheet p items) (spots_from sheet q theirs)
    behind : Behind (after_items sheet p (ended items)) (after_items sheet q (ended theirs))

  compared : (choices : List Bool) (items : List Item) (p q : Place) → Behind p q → Compared p q items (with_choices choices items)
  unfolding spots_from spot_after after_items after_item ended with_choices
  compared choices [] p q b = record { spots = no_word; behind = behind_page_end b }
  compared [] (word cells ∷ items) p q b =
      let n = behind_word (length cells) b in
      let r = compared [] items _ _ n in
      record { spots = each_word (no_later_spot n) r.spots; behind = r.behind }
  compared (true ∷ choices) (word cells ∷ items) p q b =
      let n = behind_word (length cells) (behind_their_line_end b) in
      let r = compared choices items _ _ n in
      record { spots = each_word (no_later_spot n) r.spots; behind = r.behind }
  compared (false ∷ choices) (word cells ∷ items) p q b =
      let n = behind_word (length cells) b in
      let r = compared choices items _ _ n in
      record { spots = each_word (no_later_spot n) r.spots; behind = r.behind }
  compared choices (line_end ∷ items) p q b =
      let r = compared choices items _ _ (behind_line_end b) in record { spots = r.spots; behind = r.behind }
  compared choices (empty_line ∷ items) p q b =
      let r = compared choices items _ _ (behind_empty_line b) in record { spots = r.spots; behind = r.behind }
  compared choices (paragraph ∷ items) p q b =
      let r = compared choices items _ _ (behind_paragraph b) in record { spots = r.spots; behind = r.behind }
  compared choices (page_end ∷ items) p q b =
      let r = compared choices items _ _ (behind_page_end b) in record { spots = r.spots; behind = r.behind }

-- ---- The theorem

module _ (sheet : Sheet) (page : 0 < sheet.length) (items : List Item) where
  at_start : Behind sheet start start
  unfolding line_of page_of
  at_start =
      record {
        lines = 0;
        pages = 0;
        k = 0;
        lines' = 0;
        pages' = 0;
        j = 0;
        ours = record { lines_at = refl; pages_at = refl; line_at = refl; room = page };
        theirs = record { lines_at = refl; pages_at = refl; line_at = refl; room = page };
        lines_before = omega arith;
        pages_before = omega arith;
        order = record { counts = omega arith; columns = λ e. omega arith };
        opening = refl;
        idle = λ e. refl;
        idle' = λ e. refl;
      }

  no_later_by_choices : (choices : List Bool) → NoLater (layout_of sheet items) (layout_of sheet (with_choices choices items))
  unfolding layout_of volume_end
  no_later_by_choices choices =
      let r = compared sheet choices items start start at_start in
      let ours = volume_sizes_counted sheet items page in
      let theirs = volume_sizes_counted sheet (with_choices choices items) page in
      let fewer = no_more_pages sheet r.behind in
      record { spots = r.spots; lines = (no_later_spot sheet r.behind).line; pages = omega (arith, ours, theirs, fewer) }

  -- for every permitted layout of the same words and format signs, ours is no later
  pub no_later : (layout : Layout) → Permitted sheet items layout → NoLater (layout_of sheet items) layout
  no_later layout d =
      let c = permitted_by_choices sheet page items layout d in
      subst (λ (l : Layout). NoLater (layout_of sheet items) l) c.same (no_later_by_choices c.choices)
