-- What each public function of files promises, as a relation between what it is given and what it answers. proofs/Promises.antt shows that any two
-- results that a promise allows are equal.
use Rattle.std.specs.Prelude.{ℕ, List, ◌≡◌}
use Rattle.table.specs.Promises as table
use Rattle.pages.specs.declared.Sheet.{Sheet}
use Rattle.embosser.specs.Filing.{Filed, filing}
use Rattle.embosser.specs.declared.Kind.{Kind}

-- `write_file` of a layout and `read_file` of a file: the answer of the definitions, and their output in the bytes that were lent
pub record Files (kind : Kind) (sheet : Sheet) (bytes before : List ℕ) (answer : Filed) (after : List ℕ) : Type 0 where
  pub answers : answer ≡ (filing kind sheet bytes before).answer
  pub leaves : after ≡ (filing kind sheet bytes before).output

-- `number_of` and `place_of` of an answer, and the bytes written: each tells its value
abbrev pub Tells : (Filed → ℕ) → Filed → ℕ → Type 0
Tells value a answer = table.Tells value a answer
