-- What the functions inside this crate take for granted of a translator's image and its sections: all records lie within the image, and they are right. An
-- accepted image gives it (proofs/Accepted.antt), so no public promise asks for it.
use Rattle.std.specs.Prelude.{ℕ, List}
use Rattle.table.specs.Laid.{SectionsLaid}
use Rattle.table.specs.Refusals.{RecordsRight}
use Rattle.table.specs.declared.Sections.{Sections}

pub record Opened (image : List ℕ) (s : Sections) : Type 0 where
  pub laid : SectionsLaid image s
  pub right : RecordsRight image s
