-- Laws of bytes that are written to a buffer: one run after another is one run, and one byte more is a run that is one longer.
use Prim.Native.Nat.{ℕ, suc, ◌+◌, ◌-◌, ◌≤◌, ◌<◌}
use mathlib.Core.List.{List, [], ◌∷◌, ◌++◌, append_assoc}
use mathlib.Core.Path.{◌≡◌, sym, ◌∙◌, ap}
use native.Mathlib.Nat.{add-zero}
use native.Mathlib.Numerals.{add-one}
use native.Mathlib.Omega.{arith}
use lib.ListN.{length, get_or, set, take, replicate, length-replicate, replicate-append-replicate}
use borrow.Rule.Slice.PartMut.{put_mid}
use lib.Seq.{sets, length-sets, sets-eq, take-suc, length-take-le}
use Rattle.std.proofs.lemmas.List.Edits.{paste_all}
use Rattle.std.proofs.lemmas.Slice.{put_mid-paste}
use Rattle.table.specs.inside.Wrote.{Wrote}

pub sets_append : (l : List ℕ) (i : ℕ) (xs ys : List ℕ) → sets (sets l i xs) (i + length xs) ys ≡ sets l i (xs ++ ys)
sets_append l i [] ys = ap (λ (k : ℕ). sets l k ys) (add-zero i)
sets_append l i (x ∷ xs) ys =
    let e : i + suc (length xs) ≡ suc i + length xs = omega arith in
    ap (λ (k : ℕ). sets (sets (set l i x) (suc i) xs) k ys) e ∙ sets_append (set l i x) (suc i) xs ys

-- two runs, the second where the first ends
pub put_then : (l m o : List ℕ) (at : ℕ) (xs ys : List ℕ) {k : ℕ} → m ≡ sets l at xs → o ≡ sets m k ys → k ≡ at + length xs → o ≡ sets l at (xs ++ ys)
put_then l m o at xs ys {k} first then e =
    then ∙ ap (λ (j : ℕ). sets m j ys) e ∙ ap (λ (r : List ℕ). sets r (at + length xs) ys) first ∙ sets_append l at xs ys

-- one byte more of a run of cells
pub run_more : (l : List ℕ) (at : ℕ) (cells : List ℕ) (j : ℕ) → j < length cells
    → set (sets l at (take j cells)) (at + j) (get_or cells j 0) ≡ sets l at (take (j + 1) cells)
run_more l at cells j h =
    let n : length (take j cells) ≡ j = length-take-le j cells (omega arith) in
    let m : take (j + 1) cells ≡ take j cells ++ get_or cells j 0 ∷ [] = rw (add-one j) (take-suc cells j 0 h) in
    ap (λ (k : ℕ). set (sets l at (take j cells)) (at + k) (get_or cells j 0)) (sym n)
    ∙ sets_append l at (take j cells) (get_or cells j 0 ∷ [])
    ∙ ap (λ (r : List ℕ). sets l at r) (sym m)

-- the same byte once more
pub same_more : (l : List ℕ) (at j byte : ℕ) → set (sets l at (replicate j byte)) (at + j) byte ≡ sets l at (replicate (j + 1) byte)
same_more l at j byte =
    ap (λ (k : ℕ). set (sets l at (replicate j byte)) (at + k) byte) (sym (length-replicate j byte))
    ∙ sets_append l at (replicate j byte) (byte ∷ [])
    ∙ ap (λ (r : List ℕ). sets l at r) (replicate-append-replicate j 1 byte)

-- a run that is written into the part from `at` up to `end`, as `fill` and `copy_from_slice` leave it
pub run_written : (before part : List ℕ) (at end : ℕ) (bytes : List ℕ) → part ≡ bytes → at + length bytes ≡ end → end ≤ length before
    → Wrote before at bytes (put_mid at (end - at) before part)
run_written before part at end bytes e f h =
    record {
      leaves =
          put_mid-paste at (end - at) before part bytes (length bytes) e (omega arith) (omega arith)
          ∙ paste_all before at bytes (length bytes) (omega arith)
          ∙ sym (rw append_assoc at (sets-eq bytes before at (omega arith)));
    }

-- what is written changes no length
pub wrote_length : {before bytes after : List ℕ} {at : ℕ} → Wrote before at bytes after → length after ≡ length before
wrote_length {before} {bytes} {after} {at} w = ap length w.leaves ∙ length-sets before at bytes
