-- The pages of the bytes. Bytes are read one by one onto a stack: the pages that have ended, the
-- lines of the page that have, and the line that is being filled. The invariant, kept by the moves:
-- the stack has the bytes, its lines and pages are right, and its sizes are those of the place.
use Prim.Native.Nat.{ℕ, ◌+◌, ◌-◌, ◌≤◌, ◌<◌}
use mathlib.Core.Bool.{Bool, true, false}
use mathlib.Core.List.{List, [], ◌∷◌, ◌++◌, append_assoc, append-nil, flatten}
use mathlib.Core.Path.{◌≡◌, refl, sym, ap, ◌∙◌}
use native.Mathlib.Omega.{arith}
use lib.Dec.{eqb}
use lib.ListN.{length, get_or, replicate, length-append}
use lib.Seq.{get_or-append_seam, get_or-append-add}
use borrow.Author.Tests.{ne_eqb}
use Rattle.table.specs.Numbers.{blank_cell}
use Rattle.table.specs.Lists.{All, empty, ◌and◌}
use Rattle.table.proofs.Lists.{all_append, all_at}
use Rattle.pages.specs.Numbers.{line_mark, page_mark}
use Rattle.pages.specs.Words.{Item}
use Rattle.pages.specs.Place.{start, after_page, after_cells, cells_after, volume_end, volume}
use Rattle.pages.specs.Pages.{Line, Page, bytes_of_lines, bytes_of_pages, pages_from, pages_of}
use Rattle.table.specs.Search.{count}
use Rattle.pages.specs.Fitting.{WordFits, Fitting}
use Rattle.pages.specs.Right.{IsCell, LineRight, PageRight}
use Rattle.pages.specs.declared.Place.{Place}
use Rattle.pages.proofs.Lists.{flatten_append}
use Rattle.pages.proofs.Kept.{Kept, lined, opened, AtEnd, volume_ends, volume_keeps}
use Rattle.pages.proofs.Bytes.{length_cells_after}
use Rattle.pages.proofs.Counts.{cells_after_lem, lines_are_64s, pages_are_65s}
use Rattle.pages.specs.declared.Sheet.{Sheet}

-- ---- The stack of pages so far, and what a byte does to it: 65 ends the page, 64 the line, and any other goes on the line

pub record Stack : Type 0 where
  pub pages : List Page
  pub lines : List Line
  pub line : Line

abbrev pub unmarked : Stack
unmarked = record { pages = []; lines = []; line = [] }

abbrev pub turned : Stack → Stack
turned s = record { pages = s.pages ++ s.lines ∷ []; lines = []; line = [] }

abbrev pub fed : Stack → Stack
fed s = record { pages = s.pages; lines = s.lines ++ s.line ∷ []; line = [] }

abbrev pub inked : Stack → List ℕ → Stack
inked s cells = record { pages = s.pages; lines = s.lines; line = s.line ++ cells }

unfoldable pub read : Stack → ℕ → Stack
read s b = elim (eqb b page_mark) [ true ↦ turned s | false ↦ elim (eqb b line_mark) [ true ↦ fed s | false ↦ inked s (b ∷ []) ] ]

unfoldable pub reads : Stack → List ℕ → Stack
reads s [] = s
reads s (b ∷ bytes) = reads (read s b) bytes

-- ---- Laws of reading

pub reads_append : (s : Stack) (xs ys : List ℕ) → reads s (xs ++ ys) ≡ reads (reads s xs) ys
unfolding reads
reads_append s [] ys = refl
reads_append s (x ∷ xs) ys = reads_append (read s x) xs ys

read_cell : (s : Stack) (c : ℕ) → IsCell c → read s c ≡ inked s (c ∷ [])
unfolding read
read_cell s c h = rw (ne_eqb c page_mark (λ e. omega arith), ne_eqb c line_mark (λ e. omega arith), read)

pub reads_cells : (s : Stack) {cells : List ℕ} → All IsCell cells → reads s cells ≡ inked s cells
unfolding reads
reads_cells s empty = rw append-nil
reads_cells s (◌and◌ {x = c} {xs = cells} h hs) = rw (read_cell s c h, reads_cells (inked s (c ∷ [])) hs, append_assoc)

-- the pages that are read are `pages_of`'s
pub pages_read : (s : Stack) (bytes : List ℕ) → (reads s bytes).pages ≡ s.pages ++ pages_from s.lines s.line bytes
unfolding reads read pages_from
pages_read s [] = sym (append-nil s.pages)
pages_read s (b ∷ bytes) = go (eqb b page_mark) (eqb b line_mark) refl refl (λ t. pages_read t bytes)
  where
    go : (m n : Bool) → eqb b page_mark ≡ m → eqb b line_mark ≡ n
        → ((t : Stack) → (reads t bytes).pages ≡ t.pages ++ pages_from t.lines t.line bytes)
        → (reads (read s b) bytes).pages ≡ s.pages ++ pages_from s.lines s.line (b ∷ bytes)
    go true n e f later = rw (e, read, pages_from) (rw append_assoc at (later (turned s)))
    go false true e f later = rw (e, f, read, pages_from) (later (fed s))
    go false false e f later = rw (e, f, read, pages_from) (later (inked s (b ∷ [])))

-- ---- Bytes and lines of lists joined

pub bytes_of_lines_lem : (xs ys : List Line) → bytes_of_lines (xs ++ ys) ≡ bytes_of_lines xs ++ bytes_of_lines ys
unfolding bytes_of_lines
bytes_of_lines_lem [] ys = refl
bytes_of_lines_lem (x ∷ xs) ys = rw (append_assoc, bytes_of_lines_lem xs ys)

bytes_of_pages_lem : (xs ys : List Page) → bytes_of_pages (xs ++ ys) ≡ bytes_of_pages xs ++ bytes_of_pages ys
unfolding bytes_of_pages
bytes_of_pages_lem [] ys = refl
bytes_of_pages_lem (x ∷ xs) ys = rw (append_assoc, bytes_of_pages_lem xs ys)

-- ---- The invariant

pub record Standing (sheet : Sheet) (bytes : List ℕ) (s : Stack) (p : Place) : Type 0 where
  pub has : bytes_of_pages s.pages ++ bytes_of_lines s.lines ++ s.line ≡ bytes
  pub pages : All (PageRight sheet) s.pages
  pub lines : All (LineRight sheet.width) s.lines
  pub line : LineRight sheet.width s.line
  pub page_count : p.pages ≡ length s.pages
  pub line_count : p.lines ≡ length (flatten s.pages) + length s.lines
  pub on_page : p.line ≡ length s.lines
  pub on_line : p.column ≡ length s.line

empty_right : {W : ℕ} → LineRight W []
empty_right =
    record {
      width = omega arith;
      cells = empty;
      no_trailing_blank = λ front e. let l = ap length e in omega (arith, simp length-append at l);
    }

pub nil_of_length : {A : Type 0} (xs : List A) → length xs ≡ 0 → xs ≡ []
nil_of_length [] e = refl
nil_of_length (x ∷ xs) e = absurd (omega arith)

-- a line that ends in a word doesn't end in a blank
ends_in_word : {W : ℕ} {w : List ℕ} → WordFits W w → (xs front : List ℕ) → xs ++ w ≡ front ++ blank_cell ∷ [] → ⊥
ends_in_word {w} fits xs front e =
    let k = length w - 1 in
    let l : length xs + length w ≡ length front + 1 = simp length-append at (ap length e) in
    let n : length xs + k ≡ length front = omega arith in
    let d = all_at fits.dotted k 1 (omega arith) in
    let z : get_or w k 1 ≡ 0 = sym (get_or-append-add xs w k 1) ∙ rw (n, e) (get_or-append_seam front blank_cell [] 1) in
    omega arith

module _ (sheet : Sheet) (bytes : List ℕ) (s : Stack) (p : Place) (st : Standing sheet bytes s p) where
  inked_standing : (blanks : ℕ) (w : List ℕ) → WordFits sheet.width w → p.column + blanks + length w ≤ sheet.width
      → Standing sheet (bytes ++ cells_after blanks w) (inked s (cells_after blanks w)) (after_cells p blanks (length w))
  unfolding cells_after after_cells
  inked_standing blanks w fits h =
      record {
        has = rw (← st.has) (simp append_assoc);
        pages = st.pages;
        lines = st.lines;
        line =
            record {
              width = rw (length-append, length_cells_after blanks w) (omega arith);
              cells = all_append st.line.cells (cells_after_lem blanks fits);
              no_trailing_blank = λ front e. ends_in_word fits (s.line ++ replicate blanks blank_cell) front (rw append_assoc e);
            };
        page_count = st.page_count;
        line_count = st.line_count;
        on_page = st.on_page;
        on_line = rw (length-append, length_cells_after blanks w) (omega arith);
      }

  fed_standing : Standing sheet (bytes ++ line_mark ∷ []) (fed s) (lined p)
  unfolding bytes_of_lines
  fed_standing =
      record {
        has = rw (← st.has) (simp (append-nil, bytes_of_lines_lem, append_assoc));
        pages = st.pages;
        lines = all_append st.lines (st.line and empty);
        line = empty_right;
        page_count = st.page_count;
        line_count = rw length-append (omega arith);
        on_page = rw length-append (omega arith);
        on_line = refl;
      }

  turned_standing : p.column ≡ 0 → 0 < p.line → p.line ≤ sheet.length → Standing sheet (bytes ++ page_mark ∷ []) (turned s) (after_page p)
  unfolding bytes_of_lines bytes_of_pages flatten after_page
  turned_standing c l m =
      let nothing : s.line ≡ [] = nil_of_length s.line (omega arith) in
      record {
        has = rw (← st.has, nothing) (simp (append-nil, bytes_of_pages_lem, append_assoc));
        pages = all_append st.pages (record { least = omega arith; most = omega arith; lines = st.lines } and empty);
        lines = empty;
        line = empty_right;
        page_count = rw length-append (omega arith);
        line_count = rw (flatten_append s.pages (s.lines ∷ []), length-append, append-nil) (omega arith);
        on_page = refl;
        on_line = refl;
      }

  opened_standing : Standing sheet bytes s (opened p)
  opened_standing =
      record {
        has = st.has;
        pages = st.pages;
        lines = st.lines;
        line = st.line;
        page_count = st.page_count;
        line_count = st.line_count;
        on_page = st.on_page;
        on_line = st.on_line;
      }

-- ---- The whole volume

pub standing_kept : (sheet : Sheet) → Kept sheet (λ bytes words spots p. Standing sheet bytes (reads unmarked bytes) p)
unfolding reads read
standing_kept sheet =
    record {
      cells = λ bytes words spots p blanks w fits h apart r.
          let inks = reads_cells (reads unmarked bytes) (cells_after_lem blanks fits) in
          rw (reads_append unmarked bytes, inks) (inked_standing sheet bytes _ p r blanks w fits h);
      line = λ bytes words spots p h r. rw (reads_append unmarked bytes) (fed_standing sheet bytes _ p r);
      page = λ bytes words spots p c l m r. rw (reads_append unmarked bytes) (turned_standing sheet bytes _ p r c l m);
      opens = λ bytes words spots p r. opened_standing sheet bytes _ p r;
    }

pub unmarked_standing : (sheet : Sheet) → Standing sheet [] unmarked start
unfolding bytes_of_pages bytes_of_lines flatten
unmarked_standing sheet =
    record {
      has = refl;
      pages = empty;
      lines = empty;
      line = empty_right;
      page_count = refl;
      line_count = refl;
      on_page = refl;
      on_line = refl;
    }

module _ (sheet : Sheet) (items : List Item) (fits : Fitting sheet.width items) (room : 0 < sheet.length) where
  abbrev bytes : List ℕ
  bytes = volume sheet items

  read_standing : Standing sheet bytes (reads unmarked bytes) (volume_end sheet items)
  unfolding reads
  read_standing = volume_keeps sheet _ (standing_kept sheet) items fits room (unmarked_standing sheet)

  ends : AtEnd (volume_end sheet items)
  unfolding reads
  ends = volume_ends sheet _ (standing_kept sheet) items fits room (unmarked_standing sheet)

  -- the stack of the volume: its pages, and nothing besides
  pub volume_stack : reads unmarked (volume sheet items) ≡ record { pages = pages_of (volume sheet items); lines = []; line = [] }
  unfolding pages_of
  volume_stack =
      let st = read_standing in
      let end = ends in
      λ i.
      record {
        pages = pages_read unmarked bytes i;
        lines = nil_of_length (reads unmarked bytes).lines (omega arith) i;
        line = nil_of_length (reads unmarked bytes).line (omega arith) i;
      }

  standing : Standing sheet bytes (record { pages = pages_of bytes; lines = []; line = [] }) (volume_end sheet items)
  standing = rw volume_stack at read_standing

  -- the pages have the bytes
  pub pages_have_the_bytes : bytes_of_pages (pages_of (volume sheet items)) ≡ volume sheet items
  unfolding bytes_of_lines
  pages_have_the_bytes = simp append-nil at standing.has

  -- each page has a line and at most P; each line at most W cells, each at most 63, and no blank at its end
  pub pages_right : All (PageRight sheet) (pages_of (volume sheet items))
  pages_right = standing.pages

  pub pages_counted : length (pages_of (volume sheet items)) ≡ count page_mark (volume sheet items)
  pages_counted = let c = pages_are_65s sheet items fits room in let s = standing in omega arith

  pub lines_counted : length (flatten (pages_of (volume sheet items))) ≡ count line_mark (volume sheet items)
  lines_counted = let c = lines_are_64s sheet items fits room in let s = standing in omega arith
