-- What the library's searches and tests of lists find is what the definitions find: the first place that passes, a member, and a test of two lists side by
-- side.
use Prim.Native.Nat.{ℕ, zero, suc, ◌≤◌, ◌<◌}
use mathlib.Core.Bool.{Bool, true, false, ◌||◌}
use mathlib.Core.List.{List, [], ◌∷◌}
use mathlib.Core.Logic.Iff
use mathlib.Core.Logic.{◌↔◌}
use mathlib.Core.Path.{◌≡◌, refl, sym, ap}
use native.Mathlib.Omega.{arith}
use lib.Dec.{eqb, ltb}
use lib.ListN.{length, get_or, take}
use lib.Seq.{get_or-take}
use borrow.Author.Tests.{ltb-true, ltb-false}
use Rattle.std.specs.List.{position, position_or_len, list_any, list_all, zip}
use Rattle.std.proofs.lemmas.List.Sums.{fails_before_first, passes_at_first}
use Rattle.table.specs.Search.{first, every, member}
use Rattle.table.proofs.Search.{found_first, found_none}
use Rattle.table.proofs.Tests.{tells_and, same_tests, every_law}
use Rattle.table.specs.inside.Found.{found}

pub position_first : (test : ℕ → Bool) (xs : List ℕ) → position test xs ≡ found (first (λ i. test (get_or xs i 0)) (length xs))
position_first test xs = go (ltb k (length xs)) refl
  where
    k : ℕ
    k = position_or_len test xs

    go : (b : Bool) → ltb k (length xs) ≡ b → position test xs ≡ found (first (λ i. test (get_or xs i 0)) (length xs))
    go true e =
        let l = ltb-true k (length xs) e in
        rw e
        (ap found (sym (found_first _ (length xs) k (λ j u. fails_before_first test xs j 0 u) l (passes_at_first test xs 0 l))))
    go false e =
        let l = ltb-false k (length xs) e in
        rw e (ap found (sym (found_none _ (length xs) k (λ j u. fails_before_first test xs j 0 u) l)))

pub any_member : (c : ℕ) (xs : List ℕ) → list_any (λ x. eqb x c) xs ≡ member c xs
unfolding member
any_member c [] = refl
any_member c (x ∷ xs) = ap (λ (b : Bool). eqb x c || b) (any_member c xs)

module _ (test : ℕ → Bool → Bool) where
  zip_law : (xs : List ℕ) (ys : List Bool) (d : ℕ) (e : Bool) → length xs ≤ length ys
      → (list_all (λ (p : ℕ × Bool). test p.0 p.1) (zip xs ys) ≡ true) ↔ ((v : ℕ) → v < length xs → test (get_or xs v d) (get_or ys v e) ≡ true)
  zip_law [] ys d e l = (λ _ v u. absurd (omega arith), λ _. refl)
  zip_law (x ∷ xs) [] d e l = absurd (omega arith)
  zip_law (x ∷ xs) (y ∷ ys) d e l =
      Iff.trans (tells_and (λ h. h, λ h. h) (zip_law xs ys d e (omega arith)))
      (λ h. at h.0 h.1, λ h. (h 0 (omega arith), λ v u. h (suc v) (omega arith)))
    where
      at : test x y ≡ true → ((v : ℕ) → v < length xs → test (get_or xs v d) (get_or ys v e) ≡ true) → (v : ℕ) → v < length (x ∷ xs)
          → test (get_or (x ∷ xs) v d) (get_or (y ∷ ys) v e) ≡ true
      at here later zero u = here
      at here later (suc v) u = later v (omega arith)

  -- side by side, as far as the first list reaches, and `n` of the second
  pub all_every : (xs : List ℕ) (ys : List Bool) (d : ℕ) (e : Bool) (n : ℕ) → length xs ≤ n → length xs ≤ length ys
      → list_all (λ (p : ℕ × Bool). test p.0 p.1) (zip xs ys) ≡ every (λ v. test (get_or xs v d) (get_or (take n ys) v e)) (length xs)
  all_every xs ys d e n l m =
      same_tests (zip_law xs ys d e m)
      (Iff.trans (every_law (λ v. test (get_or xs v d) (get_or (take n ys) v e)) (length xs))
      (λ h v u. rw (get_or-take n ys v e (omega arith)) at (h v u), λ h v u. rw (get_or-take n ys v e (omega arith)) (h v u)))
