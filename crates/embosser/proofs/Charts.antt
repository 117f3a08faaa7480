-- The chart: no two of the 66 output bytes have one character, so a character's place is the byte that it stands for. Shown by one test, computed at each of
-- the bytes; the rest are laws of a number's place in any list.
use Prim.Native.Nat.{ℕ, suc, ◌≤◌, ◌<◌}
use mathlib.Core.Bool.{Bool, true, false, cond}
use mathlib.Core.List.{List, [], ◌∷◌}
use mathlib.Core.Path.{◌≡◌, refl, sym, ◌∙◌, ap}
use native.Mathlib.Omega.{arith}
use lib.Dec.{eqb}
use lib.ListN.{length, get_or, get_or-eq_default}
use borrow.Author.Tests.{eqb-true}
use Rattle.table.specs.Search.{first_from}
use Rattle.table.proofs.Tests.{every_law}
use Rattle.embosser.specs.Chart.{characters, character_of, place_in}

-- ---- The place of a number in a list

pub place_within : (xs : List ℕ) (c : ℕ) → place_in xs c ≤ length xs
unfolding place_in
place_within [] c = omega arith
place_within (x ∷ xs) c = go (eqb x c) (place_within xs c)
  where
    go : (b : Bool) → place_in xs c ≤ length xs → cond b 0 (suc (place_in xs c)) ≤ length (x ∷ xs)
    go true l = omega arith
    go false l = omega arith

-- the number stands there
pub at_place : (xs : List ℕ) (c : ℕ) → place_in xs c < length xs → get_or xs (place_in xs c) 0 ≡ c
unfolding place_in
at_place [] c l = absurd (omega arith)
at_place (x ∷ xs) c l = go (eqb x c) refl (λ m. at_place xs c m) l
  where
    go : (b : Bool) → eqb x c ≡ b → (place_in xs c < length xs → get_or xs (place_in xs c) 0 ≡ c)
        → cond b 0 (suc (place_in xs c)) < length (x ∷ xs) → get_or (x ∷ xs) (cond b 0 (suc (place_in xs c))) 0 ≡ c
    go true e later l = eqb-true x c e
    go false e later l = later (omega arith)

-- ---- The 66 characters

pub place_of_character : (b : ℕ) → b < 66 → place_in characters (character_of b) ≡ b
unfolding characters character_of place_in first_from
place_of_character b l = eqb-true _ _ ((every_law (λ k. eqb (place_in characters (character_of k)) k) 66).0 refl b l)

-- no other number has one
pub character_beyond : (b : ℕ) → 66 ≤ b → character_of b ≡ 0
unfolding characters character_of
character_beyond b l = get_or-eq_default characters 0 l

pub character_of_place : (c : ℕ) → place_in characters c < 66 → character_of (place_in characters c) ≡ c
unfolding characters character_of
character_of_place c l = at_place characters c l

pub distinct : (a b : ℕ) → a < 66 → b < 66 → character_of a ≡ character_of b → a ≡ b
distinct a b l m same = sym (place_of_character a l) ∙ ap (place_in characters) same ∙ place_of_character b m

pub place_at_most : (c : ℕ) → place_in characters c ≤ 66
unfolding characters
place_at_most c = place_within characters c
