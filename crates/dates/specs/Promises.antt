-- What each public function of movers promises, as a relation between what it is given and what it answers. proofs/Promises.antt shows that any two
-- results that a promise allows are equal.
use Rattle.std.specs.Prelude.{ℕ, List, ◌≡◌}
use Rattle.table.specs.Promises as table
use Rattle.dates.specs.Moving.{Moved, Outcome}

-- `date` and `undate`: the answer of the definitions' outcome, and its output in the bytes that were lent
pub record Ends (outcome : Outcome) (answer : Moved) (after : List ℕ) : Type 0 where
  pub answers : answer ≡ outcome.answer
  pub leaves : after ≡ outcome.output

-- `number_of` and `place_of` of an answer, and the bytes written: each tells its value
abbrev pub Tells : (Moved → ℕ) → Moved → ℕ → Type 0
Tells value a answer = table.Tells value a answer
