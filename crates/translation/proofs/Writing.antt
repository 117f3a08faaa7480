-- Laws of a buffer that is written from a place on: nothing written, one byte, and one call after another, which write what they write joined, also
-- where the second is lent only what lies behind. The buffer keeps its length.
use Prim.Native.Nat.{ℕ, ◌+◌, ◌-◌, ◌≤◌, ◌<◌}
use mathlib.Core.List.{List, [], ◌∷◌, ◌++◌, append_assoc, append-nil}
use mathlib.Core.Path.{◌≡◌, refl, sym, ◌∙◌, ap}
use native.Mathlib.Nat.{zero-add}
use native.Mathlib.Omega.{arith}
use lib.ListN.{length, take, drop, set, length-append, length-drop, drop_of_length-le}
use lib.Seq.{sets, length-sets, sets-eq, take_at, take_all, drop-drop}
use borrow.Rule.Slice.PartMut.{put_mid, Post-is}
use Rattle.table.proofs.Wrote.{put_then}
use Rattle.translation.specs.inside.Making.{WroteUntil}

pub wrote_nothing : (before : List ℕ) (n : ℕ) → n ≤ length before → WroteUntil before n [] before n
wrote_nothing before n l = record { bytes = record { leaves = refl }; place = omega arith; room = l }

pub wrote_one : (before : List ℕ) (n x : ℕ) → n < length before → WroteUntil before n (x ∷ []) (set before n x) (n + 1)
wrote_one before n x l = record { bytes = record { leaves = refl }; place = refl; room = omega arith }

module _ {before : List ℕ} {n : ℕ} {xs middle : List ℕ} {k : ℕ} (first : WroteUntil before n xs middle k) where
  pub wrote_long : length middle ≡ length before
  wrote_long = ap length first.bytes.leaves ∙ length-sets before n xs

  pub wrote_then : {ys after : List ℕ} {m : ℕ} → WroteUntil middle k ys after m → WroteUntil before n (xs ++ ys) after m
  wrote_then {ys} {after} second =
      record {
        bytes = record { leaves = put_then before middle after n xs ys first.bytes.leaves second.bytes.leaves first.place };
        place = rw length-append (omega arith);
        room = let l = wrote_long in omega arith;
      }

-- what is left of a list from a place on, as it is lent
pub rest_lent : (rest : List ℕ) (at : ℕ) → take (length rest - at) (drop at rest) ≡ drop at rest
rest_lent rest at = take_all (length rest - at) (drop at rest) (rw length-drop (omega arith))

-- ---- Behind what is written: a call is lent the rest of the buffer

module _ {before xs middle : List ℕ} {k : ℕ} (first : WroteUntil before 0 xs middle k) where
  pub wrote_behind : {ys part : List ℕ} {m : ℕ} → WroteUntil (take (length middle - k) (drop k middle)) 0 ys part m
      → WroteUntil before 0 (xs ++ ys) (put_mid k (length middle - k) middle part) (k + m)
  wrote_behind {ys} {part} {m} second =
      let place = lent.place in
      let room = lent.room in
      wrote_then first (record { bytes = record { leaves = leaves }; place = omega arith; room = omega (arith, long, fits) })
    where
      rest : List ℕ
      rest = drop k middle

      long : length rest ≡ length middle - k
      long = length-drop k middle

      fits : k ≤ length middle
      fits = let l = wrote_long first in let r = first.room in omega arith

      lent : WroteUntil rest 0 ys part m
      lent = rw (rest_lent middle k) at second

      leaves : put_mid k (length middle - k) middle part ≡ sets middle k ys
      leaves =
          let place = lent.place in
          let room = lent.room in
          ap (λ (l : List ℕ). take k middle ++ (part ++ l)) (Post-is k (length middle) middle fits ∙ drop_of_length-le middle (omega arith))
          ∙ ap (λ (l : List ℕ). take k middle ++ l)
          (append-nil part ∙ lent.bytes.leaves ∙ sets-eq ys rest 0 (omega arith) ∙ ap (λ (i : ℕ). ys ++ drop i rest) (zero-add (length ys))
          ∙ ap (λ (l : List ℕ). ys ++ l) (drop-drop (length ys) k middle))
          ∙ sym (append_assoc (take k middle) ys (drop (k + length ys) middle))
          ∙ sym (sets-eq ys middle k (omega (arith, long, fits)))

-- ---- From the front

module _ {before xs after : List ℕ} {n : ℕ} (wrote : WroteUntil before 0 xs after n) where
  pub front_long : n ≡ length xs
  front_long = omega arith

  pub front_and_beyond : after ≡ xs ++ drop (length xs) before
  front_and_beyond =
      wrote.bytes.leaves ∙ sets-eq xs before 0 (omega arith) ∙ ap (λ (i : ℕ). xs ++ drop i before) (zero-add (length xs))

  pub front_is : take n after ≡ xs
  front_is = rw front_and_beyond (take_at xs (drop (length xs) before) n (omega arith))
