-- What each public function of this crate promises, as a relation between what it is given and what it answers. proofs/Promises.antt shows that any two answers that a promise allows are equal.
use Rattle.std.specs.Prelude.{ℕ, List, ◌≡◌}
use Rattle.std.specs.Borrow.{Bor}
use Rattle.table.specs.Verdict.{verdict_of}
use Rattle.table.specs.Answers.{Verdict}
use Rattle.framing.specs.Promises.{Located}
use Rattle.judge.specs.declared.Reader.{Reader}

-- `check`: the verdict of the definitions
pub record Checked (image : List ℕ) (answer : Verdict) : Type 0 where
  pub is : answer ≡ verdict_of image

-- `open`: the image itself, as it was lent, its sections and the verdict on it, for every image
pub record Reads (image : Bor (List ℕ)) (answer : Reader) : Type 0 where
  pub lent : answer.image ≡ image
  pub located : Located image.now answer.sections
  pub checked : Checked image.now answer.verdict

-- `Reader::verdict`: the one that the reader holds
pub record ReaderVerdict (reader : Reader) (answer : Verdict) : Type 0 where
  pub is : answer ≡ reader.verdict
