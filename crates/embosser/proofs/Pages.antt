-- Good files and good layouts are the same pages: bytes of either kind show one list of pages, and the bytes of the other kind are those of the same pages.
use Prim.Native.Nat.{ℕ}
use mathlib.Core.List.{List, [], ◌∷◌, ◌++◌, map-map, append_assoc, append-nil}
use mathlib.Core.Path.{◌≡◌, refl, sym, ◌∙◌, ap}
use native.Mathlib.Omega.{arith}
use borrow.Author.Tests.{ne_eqb}
use Rattle.table.specs.Lists.{All, empty, ◌and◌}
use Rattle.pages.specs.Numbers.{line_mark, page_mark}
use Rattle.pages.specs.Pages.{Line, Page, bytes_of_lines, bytes_of_pages, pages_from, pages_of}
use Rattle.pages.specs.Right.{IsCell, LineRight, PageRight}
use Rattle.pages.specs.declared.Sheet.{Sheet}
use Rattle.embosser.specs.Chart.{written_as, stands_for, other}
use Rattle.embosser.specs.Good.{bytes_as, Good}
use Rattle.embosser.specs.Filing.{turned_bytes}
use Rattle.embosser.specs.declared.Kind.{Kind}
use Rattle.embosser.specs.declared.Kind.TheVariants.{Layout, File}
use Rattle.embosser.proofs.Runs.{pages_run, run_marks}
use Rattle.embosser.proofs.Judged.{standing, writing, standing_writing}

-- ---- Right pages are read back out of their output bytes

cell_read : (lines : List Line) (line : Line) (c : ℕ) (bytes : List ℕ) → IsCell c → pages_from lines line (c ∷ bytes) ≡ pages_from lines (line ++ c ∷ []) bytes
unfolding pages_from
cell_read lines line c bytes h = rw (ne_eqb c page_mark (λ e. omega arith), ne_eqb c line_mark (λ e. omega arith), pages_from)

cells_read : (lines : List Line) (line : Line) {cells : Line} (bytes : List ℕ) → All IsCell cells
    → pages_from lines line (cells ++ bytes) ≡ pages_from lines (line ++ cells) bytes
cells_read lines line bytes empty = rw (append-nil line)
cells_read lines line bytes (◌and◌ {x = c} {xs = cells} h hs) =
    cell_read lines line c (cells ++ bytes) h
    ∙ cells_read lines (line ++ c ∷ []) bytes hs
    ∙ ap (λ (l : Line). pages_from lines l bytes) (append_assoc line (c ∷ []) cells)

lines_read : {W : ℕ} (before : List Line) {lines : List Line} (bytes : List ℕ) → All (LineRight W) lines
    → pages_from before [] (bytes_of_lines lines ++ bytes) ≡ pages_from (before ++ lines) [] bytes
unfolding bytes_of_lines pages_from
lines_read before bytes empty = rw (append-nil before)
lines_read before bytes (◌and◌ {x = line} {xs = lines} right rights) =
    ap (pages_from before []) (append_assoc line (line_mark ∷ bytes_of_lines lines) bytes)
    ∙ cells_read before [] (line_mark ∷ (bytes_of_lines lines ++ bytes)) right.cells
    ∙ lines_read (before ++ line ∷ []) bytes rights
    ∙ ap (λ (l : List Line). pages_from l [] bytes) (append_assoc before (line ∷ []) lines)

pub pages_read_back : {sheet : Sheet} {pages : List Page} → All (PageRight sheet) pages → pages_of (bytes_of_pages pages) ≡ pages
unfolding pages_of bytes_of_pages pages_from
pages_read_back empty = refl
pages_read_back (◌and◌ {x = page} {xs = pages} right rights) =
    lines_read [] (page_mark ∷ bytes_of_pages pages) right.lines ∙ ap (λ (p : List Page). page ∷ p) (pages_read_back rights)

-- ---- The two kinds

other_other : (kind : Kind) → other (other kind) ≡ kind
other_other Layout = refl
other_other File = refl

turned_bytes_lem : (kind : Kind) (bytes : List ℕ) → turned_bytes kind bytes ≡ writing (other kind) (standing kind bytes)
unfolding turned_bytes
turned_bytes_lem kind bytes = sym (map-map (written_as (other kind)) (stands_for kind) bytes)

module _ (kind : Kind) (sheet : Sheet) where
  -- right pages stand for their output bytes, in either kind
  pub standing_pages : {pages : List Page} → All (PageRight sheet) pages → standing kind (bytes_as kind pages) ≡ bytes_of_pages pages
  unfolding bytes_as
  standing_pages rights = standing_writing kind (run_marks sheet (pages_run sheet rights))

  turned_pages : {pages : List Page} → All (PageRight sheet) pages → turned_bytes kind (bytes_as kind pages) ≡ bytes_as (other kind) pages
  unfolding bytes_as
  turned_pages {pages} rights = turned_bytes_lem kind (bytes_as kind pages) ∙ ap (writing (other kind)) (standing_pages rights)

  -- good bytes are those of one list of pages
  pub one_list_of_pages : {bytes : List ℕ} (a b : Good kind sheet bytes) → a.pages ≡ b.pages
  one_list_of_pages a b =
      sym (pages_read_back a.right)
      ∙ ap pages_of (sym (standing_pages a.right) ∙ ap (standing kind) (sym a.written ∙ b.written) ∙ standing_pages b.right)
      ∙ pages_read_back b.right

  -- the bytes of the other kind are good, and are those of the same pages
  pub same_pages : {bytes : List ℕ} (good : Good kind sheet bytes) → (there : Good (other kind) sheet (turned_bytes kind bytes)) × (there.pages ≡ good.pages)
  same_pages good =
      (record { pages = good.pages; right = good.right; written = ap (turned_bytes kind) good.written ∙ turned_pages good.right }, refl)

-- what is turned, and turned back, is the same bytes
pub turned_and_back : (kind : Kind) (sheet : Sheet) {bytes : List ℕ} → Good kind sheet bytes → turned_bytes (other kind) (turned_bytes kind bytes) ≡ bytes
unfolding same_pages
turned_and_back kind sheet {bytes} good =
    ap (turned_bytes (other kind)) (same_pages kind sheet good).0.written
    ∙ turned_pages (other kind) sheet good.right
    ∙ ap (λ (k : Kind). bytes_as k good.pages) (other_other kind)
    ∙ sym good.written
