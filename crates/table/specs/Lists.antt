-- What the statements of all layers share: each member of a list has a property. No heading of document 01.
use Rattle.std.specs.Prelude.{List, [], ◌∷◌}

infixr 67 ◌and◌
pub data All {A : Type 0} (holds : A → Type 0) : List A → Type 0 where
  empty : All holds []
  ◌and◌ : {x : A} {xs : List A} → holds x → All holds xs → All holds (x ∷ xs)
