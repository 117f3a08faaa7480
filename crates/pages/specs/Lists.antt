-- What the statements about pages share: the members of a list that pass a test. No heading of document 01.
use Rattle.std.specs.Prelude.{ℕ, Bool, true, false, List, [], ◌∷◌}

-- the members that pass, in order
unfoldable pub only : (ℕ → Bool) → List ℕ → List ℕ
only test [] = []
only test (x ∷ xs) = elim (test x) [ true ↦ x ∷ only test xs | false ↦ only test xs ]
