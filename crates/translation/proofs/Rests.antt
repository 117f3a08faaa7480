-- What begins a rest, one place after another, and by its first character.
use Prim.Native.Nat.{ℕ, ◌+◌, ◌≤◌, ◌<◌}
use mathlib.Core.Bool.{Bool, true, false, ◌&&◌}
use mathlib.Core.List.{List, [], ◌∷◌}
use mathlib.Core.Logic.{◌≢◌}
use mathlib.Core.Path.{◌≡◌, refl, ◌∙◌, ap}
use native.Mathlib.Numerals.{add-one}
use native.Mathlib.Omega.{arith}
use lib.Dec.{eqb}
use lib.ListN.{length, get_or, drop, drop_of_length-le}
use lib.Seq.{drop-cons}
use borrow.Author.Tests.{eq-eqb, ne_eqb}
use Rattle.translation.specs.Choose.{begins}

and_false : (b : Bool) → b && false ≡ false
and_false true = refl
and_false false = refl

pub begins_shorter : (string rest : List ℕ) → length rest < length string → begins string rest ≡ false
unfolding begins
begins_shorter [] rest l = absurd (omega arith)
begins_shorter (c ∷ string) [] l = refl
begins_shorter (c ∷ string) (x ∷ rest) l =
    ap (λ (b : Bool). eqb c x && b) (begins_shorter string rest (omega arith)) ∙ and_false (eqb c x)

module _ (string rest : List ℕ) (i : ℕ) (here : i < length string) (there : i < length rest) where
  begins_from : begins (drop i string) (drop i rest) ≡ (eqb (get_or string i 0) (get_or rest i 0) && begins (drop (i + 1) string) (drop (i + 1) rest))
  unfolding begins
  begins_from = rw (drop-cons string i 0 here, drop-cons rest i 0 there, add-one)

  pub begins_agrees : get_or string i 0 ≡ get_or rest i 0 → begins (drop i string) (drop i rest) ≡ begins (drop (i + 1) string) (drop (i + 1) rest)
  begins_agrees e = begins_from ∙ rw (eq-eqb (get_or string i 0) (get_or rest i 0) e)

  pub begins_differs_at : get_or string i 0 ≢ get_or rest i 0 → begins (drop i string) (drop i rest) ≡ false
  begins_differs_at n = begins_from ∙ rw (ne_eqb (get_or string i 0) (get_or rest i 0) n)

pub begins_end : (string rest : List ℕ) (i : ℕ) → length string ≤ i → begins (drop i string) rest ≡ true
unfolding begins
begins_end string rest i l = rw (drop_of_length-le string l)

pub begins_differs : (string rest : List ℕ) → 0 < length string → 0 < length rest → get_or string 0 0 ≢ get_or rest 0 0 → begins string rest ≡ false
unfolding begins
begins_differs [] rest l u n = absurd (omega arith)
begins_differs (c ∷ string) [] l u n = absurd (omega arith)
begins_differs (c ∷ string) (x ∷ rest) l u n = rw (ne_eqb c x n)
