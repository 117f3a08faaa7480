-- 'The table image', for the layers above: where the frame is right each section has records of its size, in the allowed number, and all of them lie within
-- the image. proofs/Laid.antt shows it of the sections of any image whose frame is right.
use Rattle.std.specs.Prelude.{ℕ, ◌+◌, ◌≤◌, ◌<◌, List, ◌≡◌, length}
use Rattle.table.specs.Numbers.{least_classes, most_classes, most_variables, letter_size, least_letters, most_letters, least_entries, most_entries, context_size, least_contexts, most_contexts, least_columns, most_columns}
use Rattle.table.specs.Sections.{entry_size_in, offset}
use Rattle.table.specs.Refusals.{Between}
use Rattle.table.specs.declared.Section.{Section}
use Rattle.table.specs.declared.Sections.{Sections}

-- one section: its records have this size, and each lies within the image
pub record Laid (image : List ℕ) (section : Section) (size least most : ℕ) : Type 0 where
  pub size_is : section.size ≡ size
  pub number_right : Between least most section.records
  pub lies : (k : ℕ) → k < section.records → offset section k + size ≤ length image

pub record SectionsLaid (image : List ℕ) (s : Sections) : Type 0 where
  pub classes_right : Between least_classes most_classes s.classes
  pub variables_right : s.variables ≤ most_variables
  pub alphabet_laid : Laid image s.alphabet letter_size least_letters most_letters
  pub contractions_laid : Laid image s.contractions (entry_size_in image) least_entries most_entries
  pub contexts_laid : Laid image s.contexts context_size least_contexts most_contexts
  pub transitions_laid : Laid image s.transitions s.classes s.variables s.variables
  pub decisions_laid : Laid image s.decisions (s.classes + s.variables) least_columns most_columns
