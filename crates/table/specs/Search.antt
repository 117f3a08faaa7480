-- What the definitions of all crates share: a range, a first place that passes a test, a list by its places, a member and how often it stands there. No heading of document 01.
use Rattle.std.specs.Prelude.{ℕ, zero, suc, Bool, true, false, not, ◌&&◌, ◌||◌, List, [], ◌∷◌, leb, eqb}
use Rattle.std.proofs.Math.Option.{Option, none, some}

-- `n` is one of `least` to `most`
abbrev pub within : ℕ → ℕ → ℕ → Bool
within least most n = leb least n && leb n most

-- the first of the `n` numbers from `i` on that passes the test
unfoldable pub first_from : (ℕ → Bool) → ℕ → ℕ → Option ℕ
first_from test i zero = none
first_from test i (suc n) = elim (test i) [ true ↦ some i | false ↦ first_from test (suc i) n ]

-- the first number below `n` that passes the test
abbrev pub first : (ℕ → Bool) → ℕ → Option ℕ
first test n = first_from test 0 n

-- there is one
abbrev pub is_there : {A : Type 0} → Option A → Bool
is_there none = false
is_there (some a) = true

-- f i, f (i + 1), .., `n` of them
unfoldable pub list_from {ℓ} : {A : Type ℓ} → (ℕ → A) → ℕ → ℕ → List A
list_from f i zero = []
list_from f i (suc n) = f i ∷ list_from f (suc i) n

-- f 0, f 1, .., `n` of them
abbrev pub list_of {ℓ} : {A : Type ℓ} → (ℕ → A) → ℕ → List A
list_of f n = list_from f 0 n

-- `c` stands in the list
unfoldable pub member : ℕ → List ℕ → Bool
member c [] = false
member c (x ∷ xs) = eqb x c || member c xs

-- every number below `n` passes the test
abbrev pub every : (ℕ → Bool) → ℕ → Bool
every test n = not (is_there (first (λ k. not (test k)) n))

-- how often `c` stands in the list
unfoldable pub count : ℕ → List ℕ → ℕ
count c [] = 0
count c (x ∷ xs) = elim (eqb x c) [ true ↦ suc (count c xs) | false ↦ count c xs ]
