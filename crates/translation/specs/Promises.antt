-- What the public function of this crate promises, as a relation between what it is given and what it answers. proofs/Promises.antt shows that any two
-- results that the promise allows are equal.
use Rattle.std.specs.Prelude.{ℕ, List, ◌≡◌}
use Rattle.translation.specs.Handed.{Translation, translation}
use Rattle.translation.specs.declared.Terms.{Terms}

-- `translate`: the answer of the definitions, and their signs in the buffer that was lent. The terms say what follows the text, the year, and what the
-- caller's own checks say
pub record Translated (terms : Terms) (image text before : List ℕ) (answer : Translation) (after : List ℕ) : Type 0 where
  pub answers : answer ≡ (translation terms image text before).answer
  pub leaves : after ≡ (translation terms image text before).signs
