-- Laws of lists: of `flatten` and of `only`, for lists joined and member by member.
use Prim.Native.Nat.{ℕ}
use mathlib.Core.Bool.{Bool, true, false}
use mathlib.Core.List.{List, [], ◌∷◌, ◌++◌, append_assoc, flatten}
use mathlib.Core.Path.{◌≡◌, refl, sym}
use Rattle.table.specs.Lists.{All, empty, ◌and◌}
use Rattle.pages.specs.Lists.{only}

-- ---- Lists of lists

pub flatten_append : {A : Type 0} (xs ys : List (List A)) → flatten (xs ++ ys) ≡ flatten xs ++ flatten ys
unfolding flatten
flatten_append [] ys = refl
flatten_append (x ∷ xs) ys = rw (append_assoc, flatten_append xs ys)

-- ---- The members that pass a test

module _ (test : ℕ → Bool) where
  pub only_append : (xs ys : List ℕ) → only test (xs ++ ys) ≡ only test xs ++ only test ys
  unfolding only
  only_append [] ys = refl
  only_append (x ∷ xs) ys = go (test x) refl (only_append xs ys)
    where
      go : (b : Bool) → test x ≡ b → only test (xs ++ ys) ≡ only test xs ++ only test ys
          → only test (x ∷ xs ++ ys) ≡ only test (x ∷ xs) ++ only test ys
      go true e h = rw (e, only, h)
      go false e h = rw (e, only) h

  pub only_all : {xs : List ℕ} → All (λ x. test x ≡ true) xs → only test xs ≡ xs
  unfolding only
  only_all empty = refl
  only_all (h and hs) = rw (h, only, only_all hs)

  pub only_none : {xs : List ℕ} → All (λ x. test x ≡ false) xs → only test xs ≡ []
  unfolding only
  only_none empty = refl
  only_none (h and hs) = rw (h, only) (only_none hs)

  pub only_same : {other : ℕ → Bool} {xs : List ℕ} → All (λ x. test x ≡ other x) xs → only test xs ≡ only other xs
  unfolding only
  only_same empty = refl
  only_same {other} (◌and◌ {x} {xs} h hs) = go (test x) refl (sym h) (only_same hs)
    where
      go : (b : Bool) → test x ≡ b → other x ≡ test x → only test xs ≡ only other xs → only test (x ∷ xs) ≡ only other (x ∷ xs)
      go true e f k = rw (f, e, only, k)
      go false e f k = rw (f, e, only) k
