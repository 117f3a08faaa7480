-- What each public function of this crate promises, as a relation between what it is given and what it answers. proofs/Promises.antt shows that any two
-- results that a promise allows are equal.
use Rattle.std.specs.Prelude.{ℕ, List, ◌≡◌}
use Rattle.table.specs.Promises as table
use Rattle.translation.specs.declared.Setting.{Setting}
use Rattle.layout.specs.Emboss.{Answer, embossing}
use Rattle.pages.specs.declared.Sheet.{Sheet}

-- `emboss`: the answer of the definitions, and their output in the bytes that were lent
pub record Embossed (setting : Setting) (image text : List ℕ) (sheet : Sheet) (before : List ℕ) (answer : Answer) (after : List ℕ) : Type 0 where
  pub answers : answer ≡ (embossing setting image text sheet before).answer
  pub leaves : after ≡ (embossing setting image text sheet before).output

-- `number_of` and `place_of` of an answer, and its counts: each tells its value
abbrev pub Tells : (Answer → ℕ) → Answer → ℕ → Type 0
Tells value a answer = table.Tells value a answer
