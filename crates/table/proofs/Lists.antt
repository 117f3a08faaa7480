-- Laws of lists that are given by their places, of a member, and of `All`: how long such a list is and what stands at each place; a number is a member of
-- a list just where it stands at some place of it; a property of all members is one of every place. Each by induction on the list.
use Prim.Native.Nat.{ℕ, zero, suc, ◌+◌, ◌<◌}
use mathlib.Core.Bool.{Bool, true, false, false≢true, ◌||◌}
use mathlib.Core.List.{List, [], ◌∷◌, ◌++◌}
use mathlib.Core.Logic.{◌↔◌}
use mathlib.Core.Path.{◌≡◌, refl, ◌∙◌, ap}
use native.Mathlib.Omega.{arith}
use lib.Dec.{eqb}
use lib.ListN.{length, get_or, take, drop, replicate}
use borrow.Author.Tests.{eqb-true, eq-eqb}
use Rattle.table.specs.Search.{list_from, list_of, member}
use Rattle.table.specs.Lists.{All, empty, ◌and◌}

-- ---- A list by its places

module _ {A : Type 0} (f : ℕ → A) where
  pub length_list_from : (i n : ℕ) → length (list_from f i n) ≡ n
  unfolding list_from
  length_list_from i zero = refl
  length_list_from i (suc n) = ap suc (length_list_from (suc i) n)

  pub get_or_list_from : (i n k : ℕ) (d : A) → k < n → get_or (list_from f i n) k d ≡ f (i + k)
  unfolding list_from
  get_or_list_from i zero k d h = absurd (omega arith)
  get_or_list_from i (suc n) zero d h = ap f (omega arith)
  get_or_list_from i (suc n) (suc k) d h = get_or_list_from (suc i) n k d (omega arith) ∙ ap f (omega arith)

  pub length_list_of : (n : ℕ) → length (list_of f n) ≡ n
  length_list_of n = length_list_from 0 n

  pub get_or_list_of : (n k : ℕ) (d : A) → k < n → get_or (list_of f n) k d ≡ f k
  get_or_list_of n k d h = get_or_list_from 0 n k d h ∙ ap f (omega arith)

-- past no end, what stands for a missing element doesn't matter
pub get_or_there : {A : Type 0} (xs : List A) (i : ℕ) (d e : A) → i < length xs → get_or xs i d ≡ get_or xs i e
get_or_there [] i d e l = absurd (omega arith)
get_or_there (x ∷ xs) zero d e l = refl
get_or_there (x ∷ xs) (suc i) d e l = get_or_there xs i d e (omega arith)

-- ---- A member

-- `c` stands at a place of the list
pub record StandsIn (c : ℕ) (xs : List ℕ) : Type 0 where
  pub at : ℕ
  pub there : at < length xs
  pub same : get_or xs at 0 ≡ c

pub member_stands : (c : ℕ) (xs : List ℕ) → member c xs ≡ true → StandsIn c xs
unfolding member
member_stands c [] e = absurd (false≢true e)
member_stands c (x ∷ xs) e = go (eqb x c) refl e (member_stands c xs)
  where
    go : (t : Bool) → eqb x c ≡ t → t || member c xs ≡ true → (member c xs ≡ true → StandsIn c xs) → StandsIn c (x ∷ xs)
    go true h e later = record { at = 0; there = omega arith; same = eqb-true x c h }
    go false h e later = let s = later e in record { at = suc s.at; there = omega arith; same = s.same }

or_right : (t : Bool) → t || true ≡ true
or_right true = refl
or_right false = refl

pub member_at : (c : ℕ) (xs : List ℕ) (k : ℕ) → k < length xs → get_or xs k 0 ≡ c → member c xs ≡ true
unfolding member
member_at c [] k l e = absurd (omega arith)
member_at c (x ∷ xs) zero l e = rw (eq-eqb x c e)
member_at c (x ∷ xs) (suc k) l e = rw (member_at c xs k (omega arith) e) (or_right (eqb x c))

pub member_law : (c : ℕ) (xs : List ℕ) → (member c xs ≡ true) ↔ StandsIn c xs
member_law c xs = (member_stands c xs, λ s. member_at c xs s.at s.there s.same)

-- ---- Each member of a list has a property

pub all_append : {A : Type 0} {holds : A → Type 0} {xs ys : List A} → All holds xs → All holds ys → All holds (xs ++ ys)
all_append empty k = k
all_append (h and hs) k = h and all_append hs k

pub all_replicate : {A : Type 0} {holds : A → Type 0} (n : ℕ) (x : A) → holds x → All holds (replicate n x)
all_replicate zero x h = empty
all_replicate (suc n) x h = h and all_replicate n x h

pub all_weaker : {A : Type 0} {holds also : A → Type 0} {xs : List A} → ((x : A) → holds x → also x) → All holds xs → All also xs
all_weaker f empty = empty
all_weaker f (◌and◌ {x} h hs) = f x h and all_weaker f hs

pub all_take : {A : Type 0} {holds : A → Type 0} {xs : List A} (n : ℕ) → All holds xs → All holds (take n xs)
all_take zero empty = empty
all_take zero (h and hs) = empty
all_take (suc n) empty = empty
all_take (suc n) (h and hs) = h and all_take n hs

pub all_drop : {A : Type 0} {holds : A → Type 0} {xs : List A} (n : ℕ) → All holds xs → All holds (drop n xs)
all_drop zero empty = empty
all_drop zero (h and hs) = h and hs
all_drop (suc n) empty = empty
all_drop (suc n) (h and hs) = all_drop n hs

pub all_at : {A : Type 0} {holds : A → Type 0} {xs : List A} → All holds xs → (i : ℕ) (d : A) → i < length xs → holds (get_or xs i d)
all_at empty i d l = absurd (omega arith)
all_at (h and hs) zero d l = h
all_at (h and hs) (suc i) d l = all_at hs i d (omega arith)

pub all_of_places : {A : Type 0} {holds : A → Type 0} (xs : List A) (d : A) → ((i : ℕ) → i < length xs → holds (get_or xs i d)) → All holds xs
all_of_places [] d h = empty
all_of_places (x ∷ xs) d h = h 0 (omega arith) and all_of_places xs d (λ i l. h (suc i) (omega arith))
