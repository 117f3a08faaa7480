-- What a sign does, by case: one that ends a word, the cell that tells that the word is cut, a cell that waits. The place with the cells that wait then, the bytes, and
-- those cells.
use Prim.Native.Nat.{ℕ, ◌+◌, ◌-◌, ◌^◌, ◌≤◌}
use mathlib.Core.Bool.{true, false}
use mathlib.Core.List.{List, [], ◌∷◌, ◌++◌}
use mathlib.Core.Path.{◌≡◌, ◌∙◌, ap}
use native.Mathlib.Omega.{arith}
use lib.ListN.{length, drop, length-append}
use lib.Seq.{sets, length-sets}
use borrow.Author.Tests.{eq-eqb, ne_eqb}
use Rattle.table.specs.inside.Wrote.{Wrote}
use Rattle.table.proofs.Wrote.{put_then}
use Rattle.pages.specs.Words.{part_of}
use Rattle.pages.specs.Place.{after_word}
use Rattle.pages.specs.inside.Gather.{Modest, after_flush, flush_bytes, after_format, format_bytes, word_bytes, stepped, waiting, step_bytes}
use Rattle.pages.specs.Signs.{ends_word}
use Rattle.pages.specs.inside.Writing.{Room, Moved}
use Rattle.pages.specs.declared.Place.{Place}
use Rattle.pages.specs.declared.Sheet.{Sheet}
use Rattle.pages.proofs.Moves as Moves
use Rattle.pages.proofs.Bytes as Bytes
use Rattle.pages.proofs.Gather as Gather

pub record StepIs (sheet : Sheet) (p : Place) (cells : List ℕ) (g : ℕ) (q : Place) (bytes cells' : List ℕ) : Type 0 where
  pub moved : (stepped sheet p (length cells) g).place ≡ q
  pub bytes_are : step_bytes sheet p cells g ≡ bytes
  pub waits : waiting sheet cells g ≡ cells'

module _ (sheet : Sheet) (p : Place) (cells : List ℕ) (g : ℕ) where
  pub step_ends : ends_word g ≡ true
      → StepIs sheet p cells g (after_format sheet (after_flush sheet p (length cells)) g)
      (flush_bytes sheet p cells ++ format_bytes sheet (after_flush sheet p (length cells)) g)
      []
  unfolding stepped step_bytes waiting
  step_ends x = record { moved = rw x; bytes_are = rw x; waits = rw x }

  pub step_cuts : ends_word g ≡ false → length cells ≡ sheet.width
      → StepIs sheet p cells g (after_word sheet p sheet.width) (word_bytes sheet p (part_of sheet.width cells)) (drop (sheet.width - 1) cells ++ g ∷ [])
  unfolding stepped step_bytes waiting
  step_cuts x h = let w = eq-eqb (length cells) sheet.width h in record { moved = rw (x, w); bytes_are = rw (x, w); waits = rw (x, w) }

  pub step_waits : ends_word g ≡ false → (length cells ≡ sheet.width → ⊥) → StepIs sheet p cells g p [] (cells ++ g ∷ [])
  unfolding stepped step_bytes waiting
  step_waits x h = let w = ne_eqb (length cells) sheet.width h in record { moved = rw (x, w); bytes_are = rw (x, w); waits = rw (x, w) }

-- the cells that wait are placed: what the code hands back for them
pub flush_moved : (sheet : Sheet) (p : Place) {cells lent out out' : List ℕ} {n : ℕ} {q r : Place} → q ≡ after_flush sheet p n → n ≡ length cells
    → lent ≡ cells → Moved out p lent out' q r → Moved out p cells out' (after_flush sheet p (length cells)) r
flush_moved sheet p moved count same m = rw (moved ∙ ap (after_flush sheet p) count, same) at m

-- ---- A sign that ends a word, and the end of the text: the cells that wait are placed, and then the sign moves the place

module _ (sheet : Sheet) (p : Place) (cells : List ℕ) (g : ℕ) {out out' : List ℕ} {q : Place}
    (first : Moved out p cells out' (after_flush sheet p (length cells)) q) where
  abbrev flushed : Place
  flushed = after_flush sheet p (length cells)

  flushed_written : flushed.written ≡ p.written + length (flush_bytes sheet p cells)
  flushed_written = Bytes.written_move cells (Bytes.goes_flush sheet p (length cells))

  pub format_room : {m : ℕ} → Modest m p → m + 4 + length cells ≤ 2 ^ 32
      → p.written + length (flush_bytes sheet p cells ++ format_bytes sheet flushed g) ≤ length out → Room (2 ^ 32) out' q (format_bytes sheet q g)
  format_room {m} d h room =
      let w = flushed_written in
      let n = length-append (flush_bytes sheet p cells) (format_bytes sheet flushed g) in
      let l = ap length first.wrote.leaves ∙ length-sets out p.written (flush_bytes sheet p cells) in
      rw first.place (record { modest = Moves.modest_more h (Gather.modest_flush sheet m (length cells) p d); room = omega arith })

  pub both_moved : {out'' : List ℕ} {r : Place} → Moved out' q [] out'' (after_format sheet q g) r → r ≡ after_format sheet flushed g
  both_moved second = second.place ∙ ap (λ (x : Place). after_format sheet x g) first.place

  pub both_wrote : {out'' : List ℕ} {r : Place} → Moved out' q [] out'' (after_format sheet q g) r
      → Wrote out p.written (flush_bytes sheet p cells ++ format_bytes sheet flushed g) out''
  both_wrote {out''} second =
      record {
        leaves =
            put_then out out' out'' p.written (flush_bytes sheet p cells) (format_bytes sheet flushed g) first.wrote.leaves
            (second.wrote.leaves ∙ ap (λ (x : Place). sets out' x.written (format_bytes sheet x g)) first.place)
            flushed_written;
      }
