-- Which pages a move ends: at most one, and the next page has no line yet. So the lines of the page that ended are those that it had and those that ended
-- with it, and the sizes that our layout says are those of the pages that its bytes have.
use Prim.Native.Nat.{ℕ, zero, suc, ◌+◌, ◌-◌, ◌≤◌, ◌<◌}
use mathlib.Core.List.{List, [], ◌∷◌, ◌++◌, append_assoc, append-nil, map, map-append}
use mathlib.Core.Logic.{◌⊎◌, inl, inr}
use mathlib.Core.Path.{◌≡◌, refl, sym, ◌∙◌, ap}
use native.Mathlib.Decide.{dec_le, dec_lt}
use native.Mathlib.Omega.{arith}
use lib.ListN.{length, replicate, length-append}
use Rattle.table.specs.Numbers.{blank_cell}
use Rattle.table.specs.Lists.{All, empty, ◌and◌}
use Rattle.table.proofs.Lists.{all_append, all_replicate, all_weaker}
use Rattle.pages.specs.Numbers.{gap_blanks, line_mark, page_mark}
use Rattle.pages.specs.Words.{Item, word, line_end, empty_line, paragraph, page_end}
use Rattle.pages.specs.Place.{start, after_line, after_line_end, after_empty_line, after_paragraph, after_page, after_page_end, after_cells, after_word, after_item, marks, standing, cells_after, move_bytes, cells_in, item_bytes, after_items, items_bytes, ended, volume_end, volume}
use Rattle.pages.specs.Pages.{pages_of}
use Rattle.pages.specs.Spots.{ended_pages, sizes_from}
use Rattle.pages.specs.Fitting.{ItemFits, Fitting}
use Rattle.pages.specs.Right.{IsCell}
use Rattle.pages.specs.declared.Place.{Place}
use Rattle.pages.specs.declared.Sheet.{Sheet}
use Rattle.pages.proofs.Moves as Moves
use Rattle.pages.proofs.Volume.{Stack, unmarked, fed, read, reads, reads_append, reads_cells, pages_read}

-- ---- The pages that end on the way from `p` to `q`

pub none_ended : (p q : Place) → q.pages ≡ p.pages → ended_pages p q ≡ []
unfolding ended_pages
none_ended p q e = let z : q.pages - p.pages ≡ 0 = omega arith in rw z

pub one_ended : (p q : Place) (n : ℕ) → q.pages ≡ p.pages + 1 → p.line + (q.lines - p.lines) ≡ n → ended_pages p q ≡ n ∷ []
unfolding ended_pages
one_ended p q n e f = let o : q.pages - p.pages ≡ 1 = omega arith in rw (o, f)

-- no page ended on the way
pub record SamePage (p q : Place) : Type 0 where
  pub pages : q.pages ≡ p.pages
  pub lines : p.lines ≤ q.lines
  pub line : q.line ≡ p.line + (q.lines - p.lines)

pub stays_on_page : (p : Place) → SamePage p p
stays_on_page p = record { pages = refl; lines = omega arith; line = omega arith }

-- from there on the same pages end
pub then_ended : {p q : Place} (r : Place) → SamePage p q → q.lines ≤ r.lines → ended_pages p r ≡ ended_pages q r
unfolding ended_pages
then_ended {p} {q} r s l =
    let a : r.pages - p.pages ≡ r.pages - q.pages = omega arith in
    let b : p.line + (r.lines - p.lines) ≡ q.line + (r.lines - q.lines) = omega arith in
    rw (a, b)

-- ---- A move ends at most one page

pub data Turns (p q : Place) : Type 0 where
  same_page : SamePage p q → Turns p q
  next_page : p.lines ≤ q.lines → q.pages ≡ p.pages + 1 → q.line ≡ 0 → Turns p q

-- where the page has a line, no page has ended
pub lined_same_page : {p q : Place} → Turns p q → 0 < q.line → SamePage p q
lined_same_page (same_page s) h = s
lined_same_page (next_page l e z) h = absurd (omega arith)

pub turns_forward : {p q : Place} → Turns p q → p.lines ≤ q.lines
turns_forward (same_page s) = s.lines
turns_forward (next_page l e z) = l

turns_then : {p q r : Place} → SamePage p q → Turns q r → Turns p r
turns_then s (same_page t) = same_page (record { pages = omega arith; lines = omega arith; line = omega arith })
turns_then s (next_page l e z) = next_page (omega arith) (omega arith) z

-- a move that keeps the counts of another
turns_as : {p q : Place} (r : Place) → r.pages ≡ q.pages → r.lines ≡ q.lines → r.line ≡ q.line → Turns p q → Turns p r
turns_as r e f g (same_page s) = same_page (record { pages = omega arith; lines = omega arith; line = omega arith })
turns_as r e f g (next_page l i z) = next_page (omega arith) (omega arith) (omega arith)

module _ (sheet : Sheet) (p : Place) (room : p.line < sheet.length) where
  pub turns_line : Turns p (after_line sheet p)
  turns_line = go (dec_lt (p.line + 1) sheet.length)
    where
      go : Dec (p.line + 1 < sheet.length) → Turns p (after_line sheet p)
      go (yes l) = rw (Moves.line_goes_on sheet p l) (same_page (record { pages = refl; lines = omega arith; line = omega arith }))
      go (no d) = rw (Moves.line_fills sheet p (omega arith)) (next_page (omega arith) refl refl)

  pub turns_line_end : Turns p (after_line_end sheet p)
  turns_line_end = go (Moves.held_or_empty p.column)
    where
      go : (p.column ≡ 0) ⊎ (0 < p.column) → Turns p (after_line_end sheet p)
      go (inl e) = rw (Moves.line_end_empty sheet p e) (same_page (stays_on_page p))
      go (inr l) = rw (Moves.line_end_held sheet p l) turns_line

  turns_word : (n : ℕ) → Turns p (after_word sheet p n)
  unfolding after_cells
  turns_word n = go (Moves.held_or_empty p.column) (dec_le (p.column + gap_blanks + n) sheet.width)
    where
      go : (p.column ≡ 0) ⊎ (0 < p.column) → Dec (p.column + gap_blanks + n ≤ sheet.width) → Turns p (after_word sheet p n)
      go (inl e) d = rw (Moves.word_starts sheet p n e) (turns_as _ refl refl refl (same_page (stays_on_page p)))
      go (inr l) (yes f) = rw (Moves.word_joins sheet p n l f) (turns_as _ refl refl refl (same_page (stays_on_page p)))
      go (inr l) (no d) = rw (Moves.word_overflows sheet p n l (omega arith)) (turns_as _ refl refl refl turns_line)

module _ (sheet : Sheet) (p : Place) (room : p.line < sheet.length) where
  turns_empty_line : Turns p (after_empty_line sheet p)
  turns_empty_line = go (Moves.held_or_empty (after_line_end sheet p).line)
    where
      go : ((after_line_end sheet p).line ≡ 0) ⊎ (0 < (after_line_end sheet p).line) → Turns p (after_empty_line sheet p)
      go (inl e) = rw (Moves.empty_line_at_top sheet p e) (turns_line_end sheet p room)
      go (inr l) =
          rw (Moves.empty_line_below sheet p l)
          (turns_then (lined_same_page (turns_line_end sheet p room) l)
          (turns_line sheet (after_line_end sheet p) (Moves.line_end_is_fresh sheet p room).room))

  turns_page_end : Turns p (after_page_end sheet p)
  unfolding after_page
  turns_page_end = go (Moves.held_or_empty (after_line_end sheet p).line)
    where
      go : ((after_line_end sheet p).line ≡ 0) ⊎ (0 < (after_line_end sheet p).line) → Turns p (after_page_end sheet p)
      go (inl e) = rw (Moves.page_end_empty sheet p e) (turns_line_end sheet p room)
      go (inr l) =
          rw (Moves.page_end_lined sheet p l)
          (turns_then (lined_same_page (turns_line_end sheet p room) l) (next_page (omega arith) refl refl))

  turns_item : (item : Item) → Turns p (after_item sheet p item)
  unfolding after_item after_paragraph
  turns_item (word cells) = turns_word sheet p room (length cells)
  turns_item line_end = turns_line_end sheet p room
  turns_item empty_line = turns_empty_line
  turns_item paragraph = turns_as _ refl refl refl (turns_line_end sheet p room)
  turns_item page_end = turns_page_end

  -- and the page has room for a line
  item_has_room : (item : Item) → (after_item sheet p item).line < sheet.length
  unfolding after_item after_paragraph
  item_has_room (word cells) = Moves.word_has_room sheet p (length cells) room
  item_has_room line_end = (Moves.line_end_is_fresh sheet p room).room
  item_has_room empty_line = (Moves.empty_line_is_fresh sheet p room).room
  item_has_room paragraph = (Moves.line_end_is_fresh sheet p room).room
  item_has_room page_end = (Moves.page_end_is_fresh sheet p room).room

-- ---- So many sizes as pages

length_ended : {p q : Place} → Turns p q → q.pages ≡ p.pages + length (ended_pages p q)
length_ended {p} {q} (same_page s) = rw (none_ended p q s.pages) (omega arith)
length_ended {p} {q} (next_page l e z) = rw (one_ended p q _ e refl) e

sizes_counted : (sheet : Sheet) (items : List Item) (p : Place) → p.line < sheet.length
    → (after_items sheet p items).pages ≡ p.pages + length (sizes_from sheet p items)
unfolding after_items sizes_from
sizes_counted sheet [] p h = omega arith
sizes_counted sheet (item ∷ items) p h =
    let q = after_item sheet p item in
    let e = length_ended (turns_item sheet p h item) in
    let f = sizes_counted sheet items q (item_has_room sheet p h item) in
    let n = length-append (ended_pages p q) (sizes_from sheet q items) in
    omega arith

pub volume_sizes_counted : (sheet : Sheet) (items : List Item) → 0 < sheet.length
    → length (sizes_from sheet start (ended items)) ≡ (volume_end sheet items).pages
unfolding volume_end
volume_sizes_counted sheet items h = let e = sizes_counted sheet (ended items) start h in omega arith

-- ---- The bytes have these pages

-- how many lines each page of a stack has
abbrev sizes : Stack → List ℕ
sizes s = map length s.pages

-- reading bytes from the stack `s` on brings these pages, and so many lines are then on the page
record Reads (s : Stack) (bytes : List ℕ) (pages : List ℕ) (lines : ℕ) : Type 0 where
  brings : sizes (reads s bytes) ≡ sizes s ++ pages
  leaves : length (reads s bytes).lines ≡ lines

reads_lines : (s : Stack) (k : ℕ) → Reads s (replicate k line_mark) [] (length s.lines + k)
unfolding reads read
reads_lines s zero = record { brings = sym (append-nil (sizes s)); leaves = omega arith }
reads_lines s (suc k) =
    let r = reads_lines (fed s) k in
    let n = length-append s.lines (s.line ∷ []) in
    record { brings = r.brings; leaves = omega (arith, r.leaves) }

reads_then : {s : Stack} {xs ys : List ℕ} {pages more : List ℕ} {lines rest : ℕ} → Reads s xs pages lines → Reads (reads s xs) ys more rest
    → Reads s (xs ++ ys) (pages ++ more) rest
reads_then {s} {xs} {ys} {pages} {more} a b =
    record {
      brings = rw (reads_append s xs ys, ← (append_assoc (sizes s) pages more), ← a.brings) b.brings;
      leaves = rw (reads_append s xs ys) b.leaves;
    }

reads_page : (s : Stack) → Reads s (page_mark ∷ []) (length s.lines ∷ []) 0
unfolding reads read
reads_page s = record { brings = map-append length s.pages (s.lines ∷ []); leaves = refl }

reads_inked : (s : Stack) {cells : List ℕ} → All IsCell cells → Reads s cells [] (length s.lines)
reads_inked s h = record { brings = rw (reads_cells s h, append-nil); leaves = rw (reads_cells s h) }

reads_marks : {p q : Place} (s : Stack) → length s.lines ≡ p.line → Turns p q → Reads s (marks p q) (ended_pages p q) q.line
unfolding marks
reads_marks {p} {q} s h (same_page t) =
    let z : q.pages - p.pages ≡ 0 = omega arith in
    let r = reads_lines s (q.lines - p.lines) in
    let e : length s.lines + (q.lines - p.lines) ≡ q.line = omega arith in
    rw (z, append-nil, none_ended p q t.pages, ← e) r
reads_marks {p} {q} s h (next_page l e z) =
    let o : q.pages - p.pages ≡ 1 = omega arith in
    let r = reads_lines s (q.lines - p.lines) in
    let t = reads s (replicate (q.lines - p.lines) line_mark) in
    let n : length t.lines ≡ p.line + (q.lines - p.lines) = omega (arith, r.leaves) in
    rw (o, one_ended p q _ e (sym n), z) (reads_then r (reads_page t))

cells_of_item : (W : ℕ) (item : Item) → ItemFits W item → All IsCell (cells_in item)
unfolding cells_in
cells_of_item W (word cells) h = all_weaker (λ c d. d.most) h.dotted
cells_of_item W line_end h = empty
cells_of_item W empty_line h = empty
cells_of_item W paragraph h = empty
cells_of_item W page_end h = empty

reads_item : (sheet : Sheet) (p : Place) → p.line < sheet.length → (item : Item) → ItemFits sheet.width item → (s : Stack)
    → length s.lines ≡ p.line → let q = after_item sheet p item in Reads s (item_bytes sheet p item) (ended_pages p q) q.line
unfolding move_bytes cells_after
reads_item sheet p room item fits s h =
    let q = after_item sheet p item in
    let m = reads_marks s h (turns_item sheet p room item) in
    let t = reads s (marks p q) in
    let blanks = q.column - standing p q - length (cells_in item) in
    let cells : All IsCell (cells_after blanks (cells_in item)) = all_append (all_replicate blanks blank_cell (omega arith)) (cells_of_item sheet.width item fits) in
    rw (append-nil, m.leaves) at (reads_then m (reads_inked t cells))

reads_items : (sheet : Sheet) (items : List Item) → Fitting sheet.width items → (p : Place) → p.line < sheet.length → (s : Stack)
    → length s.lines ≡ p.line → sizes (reads s (items_bytes sheet p items)) ≡ sizes s ++ sizes_from sheet p items
unfolding items_bytes sizes_from reads
reads_items sheet [] fits p room s h = sym (append-nil (sizes s))
reads_items sheet (item ∷ items) (fits and rest) p room s h =
    let q = after_item sheet p item in
    let r = reads_item sheet p room item fits s h in
    let later = reads_items sheet items rest q (item_has_room sheet p room item) (reads s (item_bytes sheet p item)) r.leaves in
    rw (reads_append s (item_bytes sheet p item) (items_bytes sheet q items), ← (append_assoc (sizes s) (ended_pages p q) (sizes_from sheet q items)), ← r.brings) later

-- the pages of the bytes have the lines that our layout says
pub pages_are_the_bytes : (sheet : Sheet) (items : List Item) → Fitting sheet.width items → 0 < sheet.length
    → map length (pages_of (volume sheet items)) ≡ sizes_from sheet start (ended items)
unfolding volume ended pages_of
pages_are_the_bytes sheet items fits room =
    ap (map length) (sym (pages_read unmarked (items_bytes sheet start (items ++ page_end ∷ []))))
    ∙ reads_items sheet (items ++ page_end ∷ []) (all_append fits (tt and empty)) start room unmarked refl
