-- What each public function of this crate promises, as a relation between what it is given and what it answers. proofs/Promises.antt shows that any two
-- results that a promise allows are equal.
use Rattle.std.specs.Prelude.{ℕ, List, ◌≡◌, take, Result}
use Rattle.table.specs.Answers.{Verdict}
use Rattle.table.specs.declared.Refusal.{Refusal}
use Rattle.pages.specs.Volume.{sheet_verdict}
use Rattle.pages.specs.Fill.{filling}
use Rattle.pages.specs.declared.Filled.{Filled}
use Rattle.pages.specs.declared.Sheet.{Sheet}

-- `Sheet::verdict`
pub record SheetVerdict (sheet : Sheet) (answer : Verdict) : Type 0 where
  pub is : answer ≡ sheet_verdict sheet

-- `fill`: the answer of the definitions for the first `n` signs, and their output in the bytes that were lent
pub record Fills (signs : List ℕ) (n : ℕ) (sheet : Sheet) (before : List ℕ) (answer : Result Filled Refusal) (after : List ℕ) : Type 0 where
  pub answers : answer ≡ (filling sheet (take n signs) before).answer
  pub leaves : after ≡ (filling sheet (take n signs) before).output
