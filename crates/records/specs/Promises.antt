-- What the public function of this crate promises, as a relation between what it is given and what it answers. proofs/Promises.antt shows that any two answers that the promise allows are equal.
use Rattle.std.specs.Prelude.{ℕ, List, ◌≡◌}
use Rattle.table.specs.Sections.{sections_of}
use Rattle.records.specs.Judged.{Judged, records_judged}

-- `judge_records`: what is wrong with the records, by the sections of the image
pub record RecordsJudged (image : List ℕ) (answer : Judged) : Type 0 where
  pub is : answer ≡ records_judged image (sections_of image)
