-- The counts that a place carries are those of the bytes: bytes written, lines (64s) and pages (65s). From any place on, each grows by what the bytes
-- have; a cell is at most 63, so that it is no mark.
use Prim.Native.Nat.{ℕ, ◌+◌, ◌<◌}
use mathlib.Core.Bool.{Bool, true, false}
use mathlib.Core.List.{List, [], ◌∷◌, ◌++◌}
use mathlib.Core.Path.{◌≡◌, refl}
use native.Mathlib.Omega.{arith}
use lib.Dec.{eqb}
use lib.ListN.{length, length-append}
use borrow.Author.Tests.{ne_eqb}
use Rattle.table.specs.Numbers.{blank_cell}
use Rattle.table.specs.Cells.{most_cell}
use Rattle.table.specs.Lists.{All, empty, ◌and◌}
use Rattle.table.proofs.Lists.{all_append, all_replicate, all_weaker}
use Rattle.pages.specs.Numbers.{line_mark, page_mark}
use Rattle.pages.specs.Words.{Item}
use Rattle.pages.specs.Place.{start, after_page, after_cells, cells_after, volume_end, volume}
use Rattle.table.specs.Search.{count}
use Rattle.pages.specs.Fitting.{WordFits, Fitting}
use Rattle.pages.specs.Right.{IsCell}
use Rattle.pages.specs.declared.Place.{Place}
use Rattle.pages.proofs.Bytes.{length_cells_after}
use Rattle.pages.proofs.Kept.{Kept, volume_keeps}
use Rattle.pages.specs.declared.Sheet.{Sheet}

-- ---- Cells: the blanks and the word that a move writes

pub cells_after_lem : {W : ℕ} (blanks : ℕ) {w : List ℕ} → WordFits W w → All IsCell (cells_after blanks w)
unfolding cells_after
cells_after_lem blanks fits = all_append (all_replicate blanks blank_cell (omega arith)) (all_weaker (λ c h. h.most) fits.dotted)

-- ---- Counting

count_append : (b : ℕ) (xs ys : List ℕ) → count b (xs ++ ys) ≡ count b xs + count b ys
unfolding count
count_append b [] ys = omega arith
count_append b (x ∷ xs) ys = go (eqb x b) refl (count_append b xs ys)
  where
    go : (t : Bool) → eqb x b ≡ t → count b (xs ++ ys) ≡ count b xs + count b ys → count b (x ∷ xs ++ ys) ≡ count b (x ∷ xs) + count b ys
    go true e h = rw (e, count) (omega arith)
    go false e h = rw (e, count) h

no_mark_in_cells : (b : ℕ) {xs : List ℕ} → most_cell < b → All IsCell xs → count b xs ≡ 0
unfolding count
no_mark_in_cells b l empty = refl
no_mark_in_cells b l (◌and◌ {x} h hs) = rw (ne_eqb x b (λ e. omega arith), count) (no_mark_in_cells b l hs)

-- ---- From a place on: on the way from `p` to `q` these bytes are written

pub record Counted (p : Place) (bytes : List ℕ) (q : Place) : Type 0 where
  pub written : q.written ≡ p.written + length bytes
  pub lines : q.lines ≡ p.lines + count line_mark bytes
  pub pages : q.pages ≡ p.pages + count page_mark bytes

module _ (sheet : Sheet) (p : Place) where
  counted : Kept sheet (λ bytes words spots q. Counted p bytes q)
  unfolding count after_cells after_page
  counted =
      record {
        cells = λ bytes words spots q blanks w fits h apart r.
            let cells = cells_after_lem blanks fits in
            record {
              written = rw (length-append, length_cells_after blanks w) (omega arith);
              lines = rw (count_append line_mark bytes (cells_after blanks w), no_mark_in_cells line_mark (omega arith) cells) (omega arith);
              pages = rw (count_append page_mark bytes (cells_after blanks w), no_mark_in_cells page_mark (omega arith) cells) (omega arith);
            };
        line = λ bytes words spots q h r.
            record {
              written = rw length-append (omega arith);
              lines = rw count_append (omega arith);
              pages = rw count_append (omega arith);
            };
        page = λ bytes words spots q c l m r.
            record {
              written = rw length-append (omega arith);
              lines = rw count_append (omega arith);
              pages = rw count_append (omega arith);
            };
        opens = λ bytes words spots q r. record { written = r.written; lines = r.lines; pages = r.pages };
      }

-- ---- The whole volume

module _ (sheet : Sheet) (items : List Item) (fits : Fitting sheet.width items) (room : 0 < sheet.length) where
  counted_volume : Counted start (volume sheet items) (volume_end sheet items)
  unfolding count
  counted_volume = volume_keeps sheet _ (counted sheet start) items fits room (record { written = refl; lines = refl; pages = refl })

  pub written_is_length : (volume_end sheet items).written ≡ length (volume sheet items)
  written_is_length = let c = counted_volume in omega arith

  pub lines_are_64s : (volume_end sheet items).lines ≡ count line_mark (volume sheet items)
  lines_are_64s = let c = counted_volume in omega arith

  pub pages_are_65s : (volume_end sheet items).pages ≡ count page_mark (volume sheet items)
  pages_are_65s = let c = counted_volume in omega arith
