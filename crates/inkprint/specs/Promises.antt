-- What each public function of this crate and of marks promises, as a relation between what it is given and what it answers. proofs/Promises.antt shows that any two
-- results that a promise allows are equal.
use Rattle.std.specs.Prelude.{ℕ, List, ◌≡◌}
use Rattle.inkprint.specs.Marks.{source_of}
use Rattle.inkprint.specs.Calls.{Inked, inking}

-- `mark`: the answer of the definitions, and their output in the bytes that were lent
pub record Inks (text before : List ℕ) (answer : Inked) (after : List ℕ) : Type 0 where
  pub answers : answer ≡ (inking text before).answer
  pub leaves : after ≡ (inking text before).output

-- `source`: the place in the ink text of the character that byte `n` of the marked text comes from
pub record Sources (text : List ℕ) (n answer : ℕ) : Type 0 where
  pub is : answer ≡ source_of text n
