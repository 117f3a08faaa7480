-- 'Contraction records are grouped': the test, over a list of strings, and the first record that breaks the grouping. Grouped.antt has the paper's words.
use Rattle.std.specs.Prelude.{ℕ, suc, pred, Bool, true, false, List, [], ◌∷◌, length, get_or, ltb, eqb}
use Rattle.std.proofs.Math.Option.{Option}
use Rattle.table.specs.Search.{first, is_there}

abbrev pub string_of : List (List ℕ) → ℕ → List ℕ
string_of strings k = get_or strings k []

-- in how many of their first characters two strings agree
unfoldable pub agreement : List ℕ → List ℕ → ℕ
agreement [] b = 0
agreement (x ∷ a) [] = 0
agreement (x ∷ a) (y ∷ b) = elim (eqb x y) [ true ↦ suc (agreement a b) | false ↦ 0 ]

-- an earlier record agrees with record `r` in more characters than the record just before `r` does
unfoldable pub breaks_at : List (List ℕ) → ℕ → Bool
breaks_at strings r =
    is_there (first (λ q. ltb (agreement (string_of strings (pred r)) (string_of strings r)) (agreement (string_of strings q) (string_of strings r))) r)

unfoldable pub first_break : List (List ℕ) → Option ℕ
first_break strings = first (breaks_at strings) (length strings)
