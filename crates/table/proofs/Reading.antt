-- What the readers answer is what the table's lists hold, for the layers above: an accepted image's records lie within it, so each element of a list is its
-- record as it is read.
use Prim.Native.Nat.{ℕ, ◌+◌, ◌≤◌, ◌<◌}
use mathlib.Core.Bool.{true}
use mathlib.Core.List.{List}
use mathlib.Core.Path.{◌≡◌, sym, ◌∙◌, ap}
use native.Mathlib.Omega.{arith}
use lib.ListN.{length, get_or, drop, length-drop}
use lib.Seq.{length-take-le, get_or-take, get_or-drop}
use borrow.Author.Tests.{le-leb}
use Rattle.table.specs.Sections.{byte_at, bytes_from, sections_in, frame_right, sections_of, offset, record_byte, record_part, part_within, first_year, last_year}
use Rattle.table.specs.Numbers.{
  symbol_byte,
  letter_class_byte,
  letter_sign_byte,
  length_byte,
  string_byte,
  context_byte,
  entry_size,
  entry_class_byte,
  shift_byte,
  signs_byte,
  entry_signs,
  context_size,
}
use Rattle.table.specs.Records.{contractions, section_named}
use Rattle.table.specs.Refusals.{RecordsRight}
use Rattle.table.specs.Table.{Letter, Entry, Column, letter_at, entry_at, context_at, transition_at, column_at, table_in, table_of}
use Rattle.table.specs.Verdict.{verdict_of}
use Rattle.table.specs.Laid.{SectionsLaid}
use Rattle.table.specs.declared.Section.{Section}
use Rattle.table.specs.declared.Sections.{Sections}
use Rattle.std.specs.Prelude.{Ok}
use Rattle.table.proofs.Lists.{length_list_of, get_or_list_of, get_or_there}
use Rattle.table.proofs.Forms.{entry_long}
use Rattle.table.proofs.Frame.{frame_right_lem, sections_framed}
use Rattle.table.proofs.Laid.{sections_laid}
use Rattle.table.proofs.Refusals.{accepted}

-- ---- The lists of a table hold the records of its image: so many, and each at its place

module _ (image : List ℕ) (s : Sections) where
  pub letters_long : length (table_in image s).letters ≡ s.alphabet.records
  unfolding table_in
  letters_long = length_list_of (letter_at image s) s.alphabet.records

  pub entries_long : length (table_in image s).entries ≡ s.contractions.records
  unfolding table_in
  entries_long = length_list_of (entry_at image s) s.contractions.records

  pub contexts_long : length (table_in image s).contexts ≡ s.contexts.records
  unfolding table_in
  contexts_long = length_list_of (context_at image s) s.contexts.records

  pub transitions_long : length (table_in image s).transitions ≡ s.transitions.records
  unfolding table_in
  transitions_long = length_list_of (transition_at image s) s.transitions.records

  pub columns_long : length (table_in image s).decisions ≡ s.decisions.records
  unfolding table_in
  columns_long = length_list_of (column_at image s) s.decisions.records

  pub letter_at_lem : (k : ℕ) (d : Letter) → k < s.alphabet.records → get_or (table_in image s).letters k d ≡ letter_at image s k
  unfolding table_in
  letter_at_lem k d l = get_or_list_of (letter_at image s) s.alphabet.records k d l

  pub entry_at_lem : (k : ℕ) (d : Entry) → k < s.contractions.records → get_or (table_in image s).entries k d ≡ entry_at image s k
  unfolding table_in
  entry_at_lem k d l = get_or_list_of (entry_at image s) s.contractions.records k d l

  pub context_at_lem : (k : ℕ) (d : List ℕ) → k < s.contexts.records → get_or (table_in image s).contexts k d ≡ context_at image s k
  unfolding table_in
  context_at_lem k d l = get_or_list_of (context_at image s) s.contexts.records k d l

  pub transition_at_lem : (k : ℕ) (d : List ℕ) → k < s.transitions.records → get_or (table_in image s).transitions k d ≡ transition_at image s k
  unfolding table_in
  transition_at_lem k d l = get_or_list_of (transition_at image s) s.transitions.records k d l

  pub column_at_lem : (k : ℕ) (d : Column) → k < s.decisions.records → get_or (table_in image s).decisions k d ≡ column_at image s k
  unfolding table_in
  column_at_lem k d l = get_or_list_of (column_at image s) s.decisions.records k d l

-- ---- A part of a record that lies within the image

module _ (image : List ℕ) (section : Section) (k j n : ℕ) (inside : offset section k + j + n ≤ length image) where
  pub part_long : length (record_part image section k j n) ≡ n
  unfolding record_part bytes_from
  part_long = length-take-le n (drop (offset section k + j) image) (rw length-drop (omega arith))

  pub part_within_lem : part_within image section k j n ≡ record_part image section k j n
  unfolding part_within
  part_within_lem = rw (le-leb (offset section k + j + n) (length image) inside)

  pub part_at : (i d : ℕ) → i < n → get_or (record_part image section k j n) i d ≡ record_byte image section k (j + i)
  unfolding record_part bytes_from record_byte byte_at
  part_at i d l =
      get_or-take n (drop (offset section k + j) image) i d l
      ∙ get_or-drop (offset section k + j) image i d
      ∙ get_or_there image (offset section k + j + i) d 0 (omega arith)
      ∙ ap (λ (x : ℕ). get_or image x 0) (omega arith)

-- how many characters a contraction record says that its string has
abbrev pub string_length : List ℕ → Sections → ℕ → ℕ
string_length image s k = record_byte image s.contractions k length_byte

-- ---- What the readers answer of a record

abbrev pub letter_read : List ℕ → Sections → ℕ → Letter
letter_read image s k =
    let byte : ℕ → ℕ = record_byte image s.alphabet k in
    record { symbol = byte symbol_byte; class = byte letter_class_byte; sign = byte letter_sign_byte }

abbrev pub entry_read : List ℕ → Sections → ℕ → Entry
entry_read image s k =
    let byte : ℕ → ℕ = record_byte image s.contractions k in
    record {
      string = part_within image s.contractions k string_byte (byte length_byte);
      context = byte context_byte;
      class = byte entry_class_byte;
      shift = byte shift_byte;
      signs = part_within image s.contractions k signs_byte entry_signs;
      first = first_year image s.contractions k;
      last = last_year image s.contractions k;
    }

abbrev pub context_read : List ℕ → Sections → ℕ → List ℕ
context_read image s k = part_within image s.contexts k 0 context_size

abbrev pub transition_read : List ℕ → Sections → ℕ → List ℕ
transition_read image s k = part_within image s.transitions k 0 s.classes

abbrev pub column_read : List ℕ → Sections → ℕ → Column
column_read image s k =
    record {
      by_class = part_within image s.decisions k 0 s.classes;
      conditions = part_within image s.decisions k s.classes s.variables;
    }

-- ---- The parts of records that are read lie within the image, where its sections are laid and its records right

module _ (image : List ℕ) (s : Sections) (laid : SectionsLaid image s) (right : RecordsRight image s) where
  -- with years or without, all that stands before them
  pub entry_inside : (k : ℕ) → k < s.contractions.records → offset s.contractions k + entry_size ≤ length image
  entry_inside k l = let lies = laid.contractions_laid.lies k l in let long = entry_long image in omega arith

  pub string_inside : (k : ℕ) → k < s.contractions.records → offset s.contractions k + string_byte + string_length image s k ≤ length image
  unfolding section_named
  string_inside k l = let lies = entry_inside k l in let short = (right contractions k l).length_right in omega arith

  pub signs_inside : (k : ℕ) → k < s.contractions.records → offset s.contractions k + signs_byte + entry_signs ≤ length image
  signs_inside k l = let lies = entry_inside k l in omega arith

  pub context_inside : (k : ℕ) → k < s.contexts.records → offset s.contexts k + 0 + context_size ≤ length image
  context_inside k l = let lies = laid.contexts_laid.lies k l in omega arith

  pub context_within : (k : ℕ) (d : List ℕ) → k < s.contexts.records → get_or (table_in image s).contexts k d ≡ context_read image s k
  unfolding context_at
  context_within k d l = context_at_lem image s k d l ∙ sym (part_within_lem image s.contexts k 0 context_size (context_inside k l))

  pub transition_inside : (k : ℕ) → k < s.transitions.records → offset s.transitions k + 0 + s.classes ≤ length image
  transition_inside k l = let lies = laid.transitions_laid.lies k l in omega arith

  pub classes_inside : (k : ℕ) → k < s.decisions.records → offset s.decisions k + 0 + s.classes ≤ length image
  classes_inside k l = let lies = laid.decisions_laid.lies k l in omega arith

  pub variables_inside : (k : ℕ) → k < s.decisions.records → offset s.decisions k + s.classes + s.variables ≤ length image
  variables_inside k l = let lies = laid.decisions_laid.lies k l in omega arith

-- ---- An accepted image

module _ (image : List ℕ) (accepts : verdict_of image ≡ (Ok tt)) where
  abbrev s : Sections
  s = sections_of image

  framed : frame_right image ≡ true
  framed = (frame_right_lem image).1 ((accepted image).0 accepts).0

  pub accepted_located : sections_of image ≡ sections_in image
  accepted_located = sections_framed image framed

  pub accepted_laid : SectionsLaid image (sections_of image)
  accepted_laid = sections_laid image framed

  pub accepted_right : RecordsRight image (sections_of image)
  accepted_right = rw accepted_located ((accepted image).0 accepts).1

  -- each element of the lists is what the readers answer at its place
  pub letter_read_lem : (k : ℕ) (d : Letter) → k < s.alphabet.records → get_or (table_of image).letters k d ≡ letter_read image s k
  unfolding table_of letter_at
  letter_read_lem k d l = letter_at_lem image s k d l

  pub entry_read_lem : (k : ℕ) (d : Entry) → k < s.contractions.records → get_or (table_of image).entries k d ≡ entry_read image s k
  unfolding table_of entry_at
  entry_read_lem k d l =
      entry_at_lem image s k d l
      ∙ rw (
        part_within_lem image s.contractions k string_byte _ (string_inside image s accepted_laid accepted_right k l),
        part_within_lem image s.contractions k signs_byte entry_signs (signs_inside image s accepted_laid accepted_right k l),
      )

  pub context_read_lem : (k : ℕ) (d : List ℕ) → k < s.contexts.records → get_or (table_of image).contexts k d ≡ context_read image s k
  unfolding table_of
  context_read_lem k d l = context_within image s accepted_laid accepted_right k d l

  pub transition_read_lem : (k : ℕ) (d : List ℕ) → k < s.transitions.records → get_or (table_of image).transitions k d ≡ transition_read image s k
  unfolding table_of transition_at
  transition_read_lem k d l =
      transition_at_lem image s k d l
      ∙ sym (part_within_lem image s.transitions k 0 s.classes (transition_inside image s accepted_laid accepted_right k l))

  pub column_read_lem : (k : ℕ) (d : Column) → k < s.decisions.records → get_or (table_of image).decisions k d ≡ column_read image s k
  unfolding table_of column_at
  column_read_lem k d l =
      column_at_lem image s k d l
      ∙ rw (
        part_within_lem image s.decisions k 0 s.classes (classes_inside image s accepted_laid accepted_right k l),
        part_within_lem image s.decisions k s.classes s.variables (variables_inside image s accepted_laid accepted_right k l),
      )
