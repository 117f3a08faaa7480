-- What each public function of this crate promises, as a relation between what it is given and what it answers. proofs/Promises.antt shows that any two
-- results that a promise allows are equal.
use Rattle.std.specs.Prelude.{◌≡◌, ℕ, List}
use Rattle.table.specs.Promises as table
use Rattle.stamp.specs.Stamping.{Answer, stamping}

-- `stamp`: the answer of the definitions
pub record Stamps (image : List ℕ) (answer : Answer) : Type 0 where
  pub is : answer ≡ stamping image

-- `number_of` and `place_of` of an answer, and its two numbers by `numbers_of`: each tells its value
abbrev pub Tells : (Answer → ℕ) → Answer → ℕ → Type 0
Tells value a answer = table.Tells value a answer
