-- What each public function of this crate promises, as a relation between what it is given and what it answers. proofs/Promises.antt shows that any two answers that a promise allows are equal.
use Rattle.std.specs.Prelude.{ℕ, ◌^◌, ◌<◌, true, false, List, ◌≡◌, Option, Some, None}
use Rattle.table.specs.Sections.{frame_right, sections_in, sections_of, offset, record_byte, part_within, first_year, last_year}
use Rattle.table.specs.Records.{section_named, name_at}
use Rattle.table.specs.declared.SectionName.{SectionName}
use Rattle.table.specs.declared.Section.{Section}
use Rattle.table.specs.declared.Sections.{Sections}
use Rattle.table.specs.declared.Years.{Years}

-- the sections where the frame is right, and otherwise nothing
abbrev pub sections_if_framed : List ℕ → Option Sections
sections_if_framed image = elim (frame_right image) [ true ↦ Some (sections_in image) | false ↦ None ]

-- `framed`: those
pub record Framed (image : List ℕ) (answer : Option Sections) : Type 0 where
  pub is : answer ≡ sections_if_framed image

-- what is found first of an image, by `locate`: the sections, or none where the frame is wrong
pub record Located (image : List ℕ) (answer : Sections) : Type 0 where
  pub is : answer ≡ sections_of image

-- `section_named`: the section of this name
pub record SectionNamed (s : Sections) (name : SectionName) (answer : Section) : Type 0 where
  pub is : answer ≡ section_named s name

-- `section_at`: the section with this number in image order, counted from 0
pub record SectionAt (s : Sections) (i : ℕ) (answer : Section) : Type 0 where
  pub is : answer ≡ section_named s (name_at i)

-- `offset_of`: of a record, which is within 33 bits whatever the section
pub record OffsetOf (s : Section) (k answer : ℕ) : Type 0 where
  pub is : answer ≡ offset s k
  pub below : answer < 2 ^ 33

-- `record_byte`: the byte, or 0 outside the image
pub record RecordByte (image : List ℕ) (s : Section) (k j answer : ℕ) : Type 0 where
  pub is : answer ≡ record_byte image s k j

-- `record_part`: the part where all of it lies within the image, and nothing where it doesn't
pub record RecordPart (image : List ℕ) (s : Section) (k j n : ℕ) (answer : List ℕ) : Type 0 where
  pub is : answer ≡ part_within image s k j n

-- `years_of`: the years of the contraction record, always where the section's records have none; a byte outside the image counts as 0
pub record YearsOf (image : List ℕ) (entries : Section) (k : ℕ) (answer : Years) : Type 0 where
  pub first_is : answer.first ≡ first_year image entries k
  pub last_is : answer.last ≡ last_year image entries k
