-- What `show` and `make` promise, as a relation between what each is given and what it answers. The other functions of this crate answer what the definitions
-- say, in an equation. proofs/Promises.antt shows that any two results that a promise allows are equal.
use Rattle.std.specs.Prelude.{ℕ, List, ◌≡◌}
use Rattle.form.specs.Calls.{Drawn, Outcome}

-- `show` and `make`: the answer of the definitions' outcome, and its output in the bytes that were lent
pub record Ends (outcome : Outcome) (answer : Drawn) (after : List ℕ) : Type 0 where
  pub answers : answer ≡ outcome.answer
  pub leaves : after ≡ outcome.output
