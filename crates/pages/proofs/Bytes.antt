-- What a move writes. The laws of `move_bytes`: a move that stays writes nothing, a line that ends a 64 and with the page a 65, a page a 65, a word its
-- blanks and cells, and a move that starts by ending a line writes that first. So each sign writes what the paper says of it (`writes_70` and so on), every
-- move goes forward, and the count of bytes that a place keeps is the length of what was written.
use Prim.Native.Nat.{ℕ, ◌+◌, ◌-◌, ◌≤◌, ◌<◌}
use mathlib.Core.Bool.{Bool, true, false, cond}
use mathlib.Core.List.{List, [], ◌∷◌, ◌++◌, append-nil, append_assoc}
use mathlib.Core.Logic.{◌⊎◌, inl, inr}
use mathlib.Core.Option.{Option, none, some}
use mathlib.Core.Path.{◌≡◌, refl, sym, ◌∙◌, ap, ap₂, subst}
use native.Mathlib.Decide.{dec_le}
use native.Mathlib.Omega.{arith}
use lib.Dec.{ltb, eqb}
use lib.ListN.{length, replicate, length-append, length-replicate, replicate-append-replicate}
use borrow.Author.Tests.{eq-eqb, ne_eqb, ltb-true, ltb-false, eqb-true}
use lib.Seq.{sets}
use Rattle.table.specs.Numbers.{blank_cell}
use Rattle.table.specs.inside.Wrote.{Wrote}
use Rattle.table.proofs.Wrote.{put_then}
use Rattle.pages.specs.Numbers.{gap_blanks, line_mark, page_mark}
use Rattle.pages.specs.Words.{Item, word, line_end, empty_line, paragraph, page_end, format_of, part_of}
use Rattle.pages.specs.Place.{holds_cell, has_line, fills_page, after_line, after_line_end, after_empty_line, after_paragraph, after_page, after_page_end, opening_blanks, joins, after_cells, after_word, after_item, marks, standing, cells_after, move_bytes, cells_in}
use Rattle.pages.specs.inside.Gather.{after_flush, after_format, stepped, step_bytes}
use Rattle.pages.specs.Signs.{ends_word}
use Rattle.pages.specs.inside.Writing.{Goes}
use Rattle.pages.specs.declared.Place.{Place}
use Rattle.pages.specs.declared.Sheet.{Sheet}
use Rattle.pages.proofs.Moves as Moves
use Rattle.pages.proofs.Formats.{nil_cells}
use Rattle.pages.proofs.Words.{part_length}

-- ---- The laws of `move_bytes`

standing_same : (p q : Place) → q.lines ≡ p.lines → standing p q ≡ p.column
unfolding standing
standing_same p q e = rw (eq-eqb q.lines p.lines e)

standing_ended : (p q : Place) → p.lines < q.lines → standing p q ≡ 0
unfolding standing
standing_ended p q h = rw (ne_eqb q.lines p.lines (λ e. omega arith))

-- so many lines ended, so many pages, and so many blanks are before the cells
move_is : (p q : Place) (cells : List ℕ) (a g b : ℕ) → q.lines - p.lines ≡ a → q.pages - p.pages ≡ g → q.column - standing p q - length cells ≡ b
    → move_bytes p q cells ≡ (replicate a line_mark ++ replicate g page_mark) ++ cells_after b cells
unfolding move_bytes marks
move_is p q cells a g b e f h = rw (e, f, h)

pub stays_bytes : (p : Place) → move_bytes p p [] ≡ []
unfolding cells_after
stays_bytes p = let s = standing_same p p refl in move_is p p [] 0 0 0 (omega arith) (omega arith) (omega arith)

pub cells_bytes : (p : Place) (blanks : ℕ) (cells : List ℕ) → move_bytes p (after_cells p blanks (length cells)) cells ≡ cells_after blanks cells
unfolding after_cells
cells_bytes p blanks cells =
    let q = after_cells p blanks (length cells) in
    let s = standing_same p q refl in
    move_is p q cells 0 0 blanks (omega arith) (omega arith) (omega arith)

pub page_bytes : (p : Place) → move_bytes p (after_page p) [] ≡ page_mark ∷ []
unfolding after_page cells_after
page_bytes p = let s = standing_same p (after_page p) refl in move_is p (after_page p) [] 0 1 0 (omega arith) (omega arith) (omega arith)

-- a line that ends, whatever it holds
pub record EndsLine (p q : Place) : Type 0 where
  pub lines : q.lines ≡ p.lines + 1
  pub pages : p.pages ≤ q.pages
  pub column : q.column ≡ 0
  pub written : q.written ≡ p.written + 1 + (q.pages - p.pages)

pub ends_line : (sheet : Sheet) (p : Place) → EndsLine p (after_line sheet p)
unfolding after_line
ends_line sheet p = go (fills_page sheet p) refl
  where
    go : (b : Bool) → fills_page sheet p ≡ b → EndsLine p (after_line sheet p)
    go true e = rw (e, after_line) (record { lines = refl; pages = omega arith; column = refl; written = omega arith })
    go false e = rw (e, after_line) (record { lines = refl; pages = omega arith; column = refl; written = omega arith })

pub line_bytes : (sheet : Sheet) (p : Place) → move_bytes p (after_line sheet p) [] ≡ cond (fills_page sheet p) (line_mark ∷ page_mark ∷ []) (line_mark ∷ [])
unfolding after_line cells_after
line_bytes sheet p = go (fills_page sheet p) refl
  where
    go : (b : Bool) → fills_page sheet p ≡ b → move_bytes p (after_line sheet p) [] ≡ cond (fills_page sheet p) (line_mark ∷ page_mark ∷ []) (line_mark ∷ [])
    go true e =
        let q : Place = record { column = 0; line = 0; opening = p.opening; written = p.written + 2; lines = p.lines + 1; pages = p.pages + 1 } in
        let s = standing_ended p q (omega arith) in
        rw (e, after_line) (move_is p q [] 1 1 0 (omega arith) (omega arith) (omega arith))
    go false e =
        let q : Place = record { column = 0; line = p.line + 1; opening = p.opening; written = p.written + 1; lines = p.lines + 1; pages = p.pages } in
        let s = standing_ended p q (omega arith) in
        rw (e, after_line) (move_is p q [] 1 0 0 (omega arith) (omega arith) (omega arith))

join_lines : (a b g : ℕ) (c : List ℕ)
    → (replicate (a + b) line_mark ++ replicate g page_mark) ++ c
    ≡ ((replicate a line_mark ++ []) ++ []) ++ ((replicate b line_mark ++ replicate g page_mark) ++ c)
join_lines a b g c = rw (← (replicate-append-replicate a b line_mark)) (simp (append_assoc, append-nil))

join_pages : (a g h : ℕ) (c : List ℕ)
    → (replicate a line_mark ++ replicate (g + h) page_mark) ++ c ≡ ((replicate a line_mark ++ replicate g page_mark) ++ []) ++ (([] ++ replicate h page_mark) ++ c)
join_pages a g h c = rw (← (replicate-append-replicate g h page_mark)) (simp (append_assoc, append-nil))

-- a move that starts by ending a line, where no line ends after a page, writes that first
pub then_bytes : {p q : Place} (r : Place) (cells : List ℕ) → EndsLine p q → q.lines ≤ r.lines → q.pages ≤ r.pages
    → (q.pages ≡ p.pages) ⊎ (r.lines ≡ q.lines) → move_bytes p r cells ≡ move_bytes p q [] ++ move_bytes q r cells
unfolding cells_after
then_bytes {p} {q} r cells e l g order = go order
  where
    far : standing p r ≡ 0
    far = standing_ended p r (omega arith)

    half : standing p q ≡ 0
    half = standing_ended p q (omega arith)

    near : standing q r ≡ 0
    near = by (dec_le r.lines q.lines)
      where
        by : Dec (r.lines ≤ q.lines) → standing q r ≡ 0
        by (yes h) = standing_same q r (omega arith) ∙ e.column
        by (no h) = standing_ended q r (omega arith)

    go : (q.pages ≡ p.pages) ⊎ (r.lines ≡ q.lines) → move_bytes p r cells ≡ move_bytes p q [] ++ move_bytes q r cells
    go (inl f) =
        let x = far in
        let y = near in
        let z = half in
        move_is p r cells (1 + (r.lines - q.lines)) (r.pages - q.pages) (r.column - length cells) (omega arith) (omega arith) (omega arith)
        ∙ join_lines 1 (r.lines - q.lines) (r.pages - q.pages) (cells_after (r.column - length cells) cells)
        ∙ sym
        (ap₂ (λ (m n : List ℕ). m ++ n) (move_is p q [] 1 0 0 (omega arith) (omega arith) (omega arith))
        (move_is q r cells (r.lines - q.lines) (r.pages - q.pages) (r.column - length cells) refl refl (omega arith)))
    go (inr f) =
        let x = far in
        let y = near in
        let z = half in
        move_is p r cells 1 ((q.pages - p.pages) + (r.pages - q.pages)) (r.column - length cells) (omega arith) (omega arith) (omega arith)
        ∙ join_pages 1 (q.pages - p.pages) (r.pages - q.pages) (cells_after (r.column - length cells) cells)
        ∙ sym
        (ap₂ (λ (m n : List ℕ). m ++ n) (move_is p q [] 1 (q.pages - p.pages) 0 (omega arith) refl (omega arith))
        (move_is q r cells 0 (r.pages - q.pages) (r.column - length cells) (omega arith) refl (omega arith)))

-- ---- What each sign writes, as the paper has it

-- a 64, and a 65 where the line fills the page
abbrev pub end_of_line : Sheet → Place → List ℕ
end_of_line sheet p = cond (fills_page sheet p) (line_mark ∷ page_mark ∷ []) (line_mark ∷ [])

-- 70: the end of the line if it holds a cell
abbrev pub bytes70 : Sheet → Place → List ℕ
bytes70 sheet p = cond (holds_cell p) (end_of_line sheet p) []

-- 71: as 70, then the end of an empty line unless the page has no line yet
abbrev pub bytes71 : Sheet → Place → List ℕ
bytes71 sheet p = bytes70 sheet p ++ cond (has_line (after_line_end sheet p)) (end_of_line sheet (after_line_end sheet p)) []

-- 73: as 70, then a 65 if the page has a line
abbrev pub bytes73 : Sheet → Place → List ℕ
bytes73 sheet p = bytes70 sheet p ++ cond (has_line (after_line_end sheet p)) (page_mark ∷ []) []

-- a word: after one blank if that fits, otherwise the line ends and it starts the next; on an empty line it starts
abbrev pub bytes_of_word : Sheet → Place → List ℕ → List ℕ
bytes_of_word sheet p cells =
    cond (holds_cell p)
    (cond (joins sheet p (length cells)) (cells_after gap_blanks cells)
    (end_of_line sheet p ++ cells_after (opening_blanks sheet (after_line sheet p) (length cells)) cells))
    (cells_after (opening_blanks sheet p (length cells)) cells)

module _ (sheet : Sheet) (p : Place) where
  pub writes_70 : move_bytes p (after_line_end sheet p) [] ≡ bytes70 sheet p
  unfolding after_line_end
  writes_70 = go (holds_cell p) refl
    where
      go : (b : Bool) → holds_cell p ≡ b → move_bytes p (after_line_end sheet p) [] ≡ bytes70 sheet p
      go true e = rw (e, after_line_end) (line_bytes sheet p)
      go false e = rw (e, after_line_end) (stays_bytes p)

  -- where the page has a line after the line's end, that end didn't fill it
  same_page : has_line (after_line sheet p) ≡ true → (after_line sheet p).pages ≡ p.pages
  unfolding after_line has_line
  same_page h = go (fills_page sheet p) refl h
    where
      go : (b : Bool) → fills_page sheet p ≡ b → has_line (after_line sheet p) ≡ true → (after_line sheet p).pages ≡ p.pages
      go true e h = let z : ltb 0 0 ≡ true = rw (e, after_line) at h in absurd (omega (arith, ltb-true 0 0 z))
      go false e h = rw (e, after_line)

  -- what follows 70 on the page's next line, or at its end
  after_70 : (r : Place) → (after_line_end sheet p).lines ≤ r.lines → (after_line_end sheet p).pages ≤ r.pages → has_line (after_line_end sheet p) ≡ true
      → move_bytes p r [] ≡ bytes70 sheet p ++ move_bytes (after_line_end sheet p) r []
  unfolding after_line_end
  after_70 r l g h = go (holds_cell p) refl l g h
    where
      go : (b : Bool) → holds_cell p ≡ b → (after_line_end sheet p).lines ≤ r.lines → (after_line_end sheet p).pages ≤ r.pages
          → has_line (after_line_end sheet p) ≡ true → move_bytes p r [] ≡ bytes70 sheet p ++ move_bytes (after_line_end sheet p) r []
      go true e l g h =
          rw (e, after_line_end)
          (then_bytes r [] (ends_line sheet p) (rw (e, after_line_end) at l) (rw (e, after_line_end) at g) (inl (same_page (rw (e, after_line_end) at h)))
          ∙ ap (λ (x : List ℕ). x ++ move_bytes (after_line sheet p) r []) (line_bytes sheet p))
      go false e l g h = rw (e, after_line_end)

  pub writes_71 : move_bytes p (after_empty_line sheet p) [] ≡ bytes71 sheet p
  unfolding after_empty_line
  writes_71 = go (has_line q) refl
    where
      q : Place
      q = after_line_end sheet p

      go : (b : Bool) → has_line (after_line_end sheet p) ≡ b → move_bytes p (after_empty_line sheet p) [] ≡ bytes71 sheet p
      go true e =
          let x = ends_line sheet (after_line_end sheet p) in
          rw (e, after_empty_line)
          (after_70 (after_line sheet (after_line_end sheet p)) (omega arith) (omega arith) e
          ∙ ap (λ (y : List ℕ). bytes70 sheet p ++ y) (line_bytes sheet (after_line_end sheet p)))
      go false e = rw (e, after_empty_line, append-nil) writes_70

  pub writes_72 : move_bytes p (after_paragraph sheet p) [] ≡ bytes70 sheet p
  unfolding after_paragraph move_bytes marks standing
  writes_72 = writes_70

  pub writes_73 : move_bytes p (after_page_end sheet p) [] ≡ bytes73 sheet p
  unfolding after_page_end after_page
  writes_73 = go (has_line (after_line_end sheet p)) refl
    where
      go : (b : Bool) → has_line (after_line_end sheet p) ≡ b → move_bytes p (after_page_end sheet p) [] ≡ bytes73 sheet p
      go true e =
          rw (e, after_page_end)
          (after_70 (after_page (after_line_end sheet p)) (omega arith) (omega arith) e
          ∙ ap (λ (y : List ℕ). bytes70 sheet p ++ y) (page_bytes (after_line_end sheet p)))
      go false e = rw (e, after_page_end, append-nil) writes_70

  pub writes_word : (cells : List ℕ) → move_bytes p (after_word sheet p (length cells)) cells ≡ bytes_of_word sheet p cells
  unfolding after_word after_cells
  writes_word cells = go (holds_cell p) (joins sheet p (length cells)) refl refl
    where
      go : (b c : Bool) → holds_cell p ≡ b → joins sheet p (length cells) ≡ c → move_bytes p (after_word sheet p (length cells)) cells ≡ bytes_of_word sheet p cells
      go true true e f = rw (e, f, after_word) (cells_bytes p gap_blanks cells)
      go true false e f =
          let q : Place = after_line sheet p in
          let b : ℕ = opening_blanks sheet (after_line sheet p) (length cells) in
          rw (e, f, after_word)
          (then_bytes (after_cells (after_line sheet p) b (length cells)) cells (ends_line sheet p) (omega arith) (omega arith) (inr refl)
          ∙ ap₂ (λ (x y : List ℕ). x ++ y) (line_bytes sheet p) (cells_bytes (after_line sheet p) b cells))
      go false c e f = rw (e, after_word) (cells_bytes p (opening_blanks sheet p (length cells)) cells)

-- ---- Every move goes forward, and the count of bytes is kept

-- after 70 and what goes on from it: the line is empty
record Came (p q : Place) : Type 0 where
  lines : p.lines ≤ q.lines
  pages : p.pages ≤ q.pages
  column : q.column ≡ 0
  written : q.written ≡ p.written + (q.lines - p.lines) + (q.pages - p.pages)
  empty : q.lines ≡ p.lines → p.column ≡ 0

came_goes : {p q : Place} → Came p q → Goes p q 0
came_goes {p} {q} c = go (dec_le q.lines p.lines)
  where
    go : Dec (q.lines ≤ p.lines) → Goes p q 0
    go (yes h) =
        let s = standing_same p q (omega arith) in
        let e = c.empty (omega arith) in
        record { lines = c.lines; pages = c.pages; column = omega arith; written = omega arith }
    go (no h) =
        let s = standing_ended p q (omega arith) in
        record { lines = c.lines; pages = c.pages; column = omega arith; written = omega arith }

came_line : {p q : Place} → EndsLine p q → Came p q
came_line e = record { lines = omega arith; pages = e.pages; column = e.column; written = omega arith; empty = λ f. omega arith }

came_then_line : {p q r : Place} → Came p q → EndsLine q r → Came p r
came_then_line c e = record { lines = omega arith; pages = omega arith; column = e.column; written = omega arith; empty = λ f. omega arith }

came_then_page : {p q : Place} → Came p q → Came p (after_page q)
unfolding after_page
came_then_page c = record { lines = c.lines; pages = omega arith; column = refl; written = omega arith; empty = c.empty }

pub goes_stays : (p : Place) → Goes p p 0
goes_stays p =
    let s = standing_same p p refl in
    record { lines = omega arith; pages = omega arith; column = omega arith; written = omega arith }

goes_cells : (p : Place) (blanks n : ℕ) → Goes p (after_cells p blanks n) n
unfolding after_cells
goes_cells p blanks n =
    let s = standing_same p (after_cells p blanks n) refl in
    record { lines = omega arith; pages = omega arith; column = omega arith; written = omega arith }

goes_then_cells : {p q : Place} (blanks n : ℕ) → EndsLine p q → Goes p (after_cells q blanks n) n
unfolding after_cells
goes_then_cells {p} {q} blanks n e =
    let s = standing_ended p (after_cells q blanks n) (omega arith) in
    record { lines = omega arith; pages = omega arith; column = omega arith; written = omega arith }

module _ (sheet : Sheet) (p : Place) where
  came_line_end : Came p (after_line_end sheet p)
  came_line_end = go (Moves.held_or_empty p.column)
    where
      go : (p.column ≡ 0) ⊎ (0 < p.column) → Came p (after_line_end sheet p)
      go (inl e) =
          rw (Moves.line_end_empty sheet p e)
          (record { lines = omega arith; pages = omega arith; column = e; written = omega arith; empty = λ f. e })
      go (inr l) = rw (Moves.line_end_held sheet p l) (came_line (ends_line sheet p))

  pub goes_word : (n : ℕ) → Goes p (after_word sheet p n) n
  unfolding after_word
  goes_word n = go (holds_cell p) (joins sheet p n) refl refl
    where
      go : (b c : Bool) → holds_cell p ≡ b → joins sheet p n ≡ c → Goes p (after_word sheet p n) n
      go true true e f = rw (e, f, after_word) (goes_cells p gap_blanks n)
      go true false e f = rw (e, f, after_word) (goes_then_cells (opening_blanks sheet (after_line sheet p) n) n (ends_line sheet p))
      go false c e f = rw (e, after_word) (goes_cells p (opening_blanks sheet p n) n)

  pub goes_flush : (n : ℕ) → Goes p (after_flush sheet p n) n
  unfolding after_flush
  goes_flush n = go (ltb 0 n) refl
    where
      go : (b : Bool) → ltb 0 n ≡ b → Goes p (after_flush sheet p n) n
      go true e = rw (e, after_flush) (goes_word n)
      go false e = let z : n ≡ 0 = omega (arith, ltb-false 0 n e) in rw (e, after_flush) (subst (Goes p p) (sym z) (goes_stays p))

  pub goes_item : (f : Item) → Goes p (after_item sheet p f) (length (cells_in f))
  unfolding after_item cells_in
  goes_item (word cells) = goes_word (length cells)
  goes_item line_end = came_goes came_line_end
  goes_item paragraph = unfold after_paragraph in let c = came_line_end in came_goes (record { lines = c.lines; pages = c.pages; column = c.column; written = c.written; empty = c.empty })
  goes_item empty_line = go (Moves.held_or_empty (after_line_end sheet p).line)
    where
      go : ((after_line_end sheet p).line ≡ 0) ⊎ (0 < (after_line_end sheet p).line) → Goes p (after_empty_line sheet p) 0
      go (inl e) = rw (Moves.empty_line_at_top sheet p e) (came_goes came_line_end)
      go (inr l) = rw (Moves.empty_line_below sheet p l) (came_goes (came_then_line came_line_end (ends_line sheet (after_line_end sheet p))))
  goes_item page_end = go (Moves.held_or_empty (after_line_end sheet p).line)
    where
      go : ((after_line_end sheet p).line ≡ 0) ⊎ (0 < (after_line_end sheet p).line) → Goes p (after_page_end sheet p) 0
      go (inl e) = rw (Moves.page_end_empty sheet p e) (came_goes came_line_end)
      go (inr l) = rw (Moves.page_end_lined sheet p l) (came_goes (came_then_page came_line_end))

  pub goes_format : (g : ℕ) → Goes p (after_format sheet p g) 0
  unfolding after_format
  goes_format g = go (format_of g) refl
    where
      go : (o : Option Item) → format_of g ≡ o → Goes p (after_format sheet p g) 0
      go none e = rw (e, after_format) (goes_stays p)
      go (some f) e = let c = ap length (nil_cells g f e) in rw (e, after_format) (subst (Goes p (after_item sheet p f)) c (goes_item f))

pub length_cells_after : (blanks : ℕ) (cells : List ℕ) → length (cells_after blanks cells) ≡ blanks + length cells
unfolding cells_after
length_cells_after blanks cells = simp (length-append, length-replicate)

pub length_move : (p q : Place) (cells : List ℕ)
    → length (move_bytes p q cells) ≡ (q.lines - p.lines) + (q.pages - p.pages) + (q.column - standing p q - length cells) + length cells
unfolding move_bytes marks
length_move p q cells =
    let b : ℕ = q.column - standing p q - length cells in
    let m = length-append (replicate (q.lines - p.lines) line_mark ++ replicate (q.pages - p.pages) page_mark) (cells_after b cells) in
    let a = length-append (replicate (q.lines - p.lines) line_mark) (replicate (q.pages - p.pages) page_mark) in
    let c = length_cells_after b cells in
    let l = length-replicate (q.lines - p.lines) line_mark in
    let h = length-replicate (q.pages - p.pages) page_mark in
    omega arith

pub written_move : {p q : Place} (cells : List ℕ) → Goes p q (length cells) → q.written ≡ p.written + length (move_bytes p q cells)
written_move {p} {q} cells g = let n = length_move p q cells in omega arith

-- the marks, the blanks and the cells, one after another, are the move's bytes
pub move_written : (p q : Place) (cells : List ℕ) {l m₁ m₂ m₃ m₄ : List ℕ} {lined paged blanks at : ℕ}
    → Wrote l p.written (replicate (q.lines - p.lines) line_mark) m₁ → lined ≡ p.written + (q.lines - p.lines)
    → Wrote m₁ lined (replicate (q.pages - p.pages) page_mark) m₂ → paged ≡ lined + (q.pages - p.pages)
    → blanks ≡ q.column - standing p q - length cells → Wrote m₂ paged (replicate blanks blank_cell) m₃ → at ≡ paged + blanks
    → Wrote m₃ at cells m₄ → Wrote l p.written (move_bytes p q cells) m₄
unfolding move_bytes marks cells_after
move_written p q cells {l} {m₁} {m₂} {m₃} {m₄} {lined} {paged} {blanks} {at} x e y f k z h w =
    let lines : List ℕ = replicate (q.lines - p.lines) line_mark in
    let pages : List ℕ = replicate (q.pages - p.pages) page_mark in
    let gap : List ℕ = replicate blanks blank_cell in
    let a = length-replicate (q.lines - p.lines) line_mark in
    let b = length-replicate (q.pages - p.pages) page_mark in
    let c = length-replicate blanks blank_cell in
    let n = length-append lines pages in
    let o = length-append (lines ++ pages) gap in
    let two = put_then l m₁ m₂ p.written lines pages x.leaves y.leaves (omega arith) in
    let three = put_then l m₂ m₃ p.written (lines ++ pages) gap two z.leaves (omega arith) in
    let four = put_then l m₃ m₄ p.written ((lines ++ pages) ++ gap) cells three w.leaves (omega arith) in
    record {
      leaves =
          four
          ∙ ap (λ (r : List ℕ). sets l p.written r)
          (append_assoc (lines ++ pages) gap cells ∙ ap (λ (j : ℕ). (lines ++ pages) ++ (replicate j blank_cell ++ cells)) k);
    }

pub written_step : (sheet : Sheet) → 1 ≤ sheet.width → (p : Place) (cells : List ℕ) (g : ℕ)
    → (stepped sheet p (length cells) g).place.written ≡ p.written + length (step_bytes sheet p cells g)
unfolding stepped step_bytes
written_step sheet wide p cells g = go (ends_word g) (eqb (length cells) sheet.width) refl refl
  where
    go : (b full : Bool) → ends_word g ≡ b → eqb (length cells) sheet.width ≡ full
        → (stepped sheet p (length cells) g).place.written ≡ p.written + length (step_bytes sheet p cells g)
    go true full x z =
        let q : Place = after_flush sheet p (length cells) in
        let e = written_move cells (goes_flush sheet p (length cells)) in
        let f = written_move [] (goes_format sheet q g) in
        let n = length-append (move_bytes p q cells) (move_bytes q (after_format sheet q g) []) in
        rw x (omega arith)
    go false true x z =
        let w = eqb-true (length cells) sheet.width z in
        let part : List ℕ = part_of sheet.width cells in
        let l : length part ≡ sheet.width = part_length sheet.width cells wide (omega arith) in
        let e = written_move part (goes_word sheet p (length part)) in
        rw (x, z) (ap (λ (k : ℕ). (after_word sheet p k).written) (sym l) ∙ e)
    go false false x z = rw (x, z) (omega arith)
