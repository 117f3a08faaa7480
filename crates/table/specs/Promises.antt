-- What each public function of this crate promises, as a relation between what it is given and what it answers. proofs/Promises.antt shows that any two answers that a promise allows are equal.
use Rattle.std.specs.Prelude.{ℕ, ◌≡◌}
use Rattle.table.specs.Answers.{refusal_number, refusal_place}
use Rattle.table.specs.declared.Refusal.{Refusal}

-- `Numbered::number` and `place` of a refusal, `number_of` and `place_of` of an answer: each tells its value
pub record Tells {A : Type 0} (value : A → ℕ) (of : A) (answer : ℕ) : Type 0 where
  pub is : answer ≡ value of

-- `Refusal::number` and `Refusal::place`: the paper's
abbrev pub RefusalNumber : Refusal → ℕ → Type 0
RefusalNumber refusal answer = Tells refusal_number refusal answer

abbrev pub RefusalPlace : Refusal → ℕ → Type 0
RefusalPlace refusal answer = Tells refusal_place refusal answer
