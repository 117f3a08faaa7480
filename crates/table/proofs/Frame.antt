-- The test of the frame passes just where the frame is right in the paper's words. The idea: a record has at least one byte, so where a section holds
-- whole records their number is the section's length divided by the size of one, which is what the test takes for it.
use Prim.Native.Nat.{ℕ, zero, suc, ◌+◌, ◌-◌, ◌*◌, ◌/◌, ◌≤◌, ◌<◌}
use mathlib.Core.Bool.{Bool, true, false, ◌&&◌}
use mathlib.Core.List.{List}
use mathlib.Core.Logic.Iff
use mathlib.Core.Logic.{◌↔◌, ◌⊎◌}
use mathlib.Core.Path.{◌≡◌, refl, sym, ◌∙◌, ap}
use native.Mathlib.Nat.{div-eq_of_eq-mul_right}
use native.Mathlib.Omega.{arith}
use lib.Dec.{leb}
use lib.ListN.{length}
use borrow.Author.Tests.{le-leb, lt-leb}
use Rattle.table.specs.Numbers.{
  trailer_size,
  first_mark_byte,
  second_mark_byte,
  first_mark,
  second_mark,
  dated_mark,
  least_classes,
  most_classes,
  most_variables,
  least_letters,
  most_letters,
  letter_size,
  dated_entry_size,
  least_entries,
  most_entries,
  context_size,
  least_contexts,
  most_contexts,
  least_columns,
  most_columns,
}
use Rattle.table.specs.Sections.{
  byte_at,
  trailer_at,
  distance,
  classes_in,
  variables_in,
  is_dated,
  entry_size_in,
  section_at,
  last_section,
  sections_in,
  trailer_right,
  distances_right,
  whole_records,
  lengths_right,
  frame_right,
  no_sections,
  sections_of,
}
use Rattle.table.specs.Refusals.{Between, WholeRecords, FrameRight}
use Rattle.table.specs.declared.Section.{Section}
use Rattle.table.specs.declared.Sections.{Sections}
use Rattle.table.proofs.Tests.{Tells, tells_and, tells_and_then, tells_or, tells_le, tells_eq, tells_within}
use Rattle.table.proofs.Forms.{tells_dated, undated_size, form_told, form_marked, form_size, entry_long}

tells_whole : (s : Section) (bytes least most : ℕ) → 0 < s.size → s.records ≡ bytes / s.size
    → Tells (whole_records s bytes least most) (WholeRecords s.size bytes least most)
unfolding whole_records
tells_whole s bytes least most filled counted =
    Iff.trans (tells_and (tells_eq (s.size * s.records) bytes) (tells_within least most s.records)) (
      λ h. record { number = s.records; whole = h.0; allowed = h.1 },
      λ w.
          let e : s.records ≡ w.number = counted ∙ div-eq_of_eq-mul_right filled (sym w.whole) in
          (rw e w.whole, rw e w.allowed),
    )

module _ (image : List ℕ) where
  pub tells_trailer :
      Tells (trailer_right image)
      ((((byte_at image (trailer_at image + first_mark_byte) ≡ first_mark)
      × ((byte_at image (trailer_at image + second_mark_byte) ≡ second_mark) ⊎ (byte_at image (trailer_at image + second_mark_byte) ≡ dated_mark)))
      × Between least_classes most_classes (classes_in image))
      × (variables_in image ≤ most_variables))
  unfolding trailer_right
  tells_trailer =
      tells_and (tells_and (tells_and (tells_eq _ _) (tells_or (tells_eq _ _) (tells_dated image))) (tells_within _ _ (classes_in image)))
      (tells_le (variables_in image) _)

  abbrev pub NeverRise : Type 0
  NeverRise = (k : ℕ) → k < 4 → distance image (k + 1) ≤ distance image k

  pub tells_distances : Tells (distances_right image) ((distance image 0 ≡ trailer_at image) × NeverRise)
  unfolding distances_right
  tells_distances =
      Iff.trans
      (tells_and (tells_and (tells_and (tells_and (tells_eq _ _) (falls 0)) (falls 1)) (falls 2)) (falls 3)) (
        λ h. (h.0.0.0.0, each h.0.0.0.1 h.0.0.1 h.0.1 h.1),
        λ h. ((((h.0, h.1 0 (omega arith)), h.1 1 (omega arith)), h.1 2 (omega arith)), h.1 3 (omega arith)),
      )
    where
      falls : (k : ℕ) → Tells (leb (distance image (k + 1)) (distance image k)) (distance image (k + 1) ≤ distance image k)
      falls k = tells_le (distance image (k + 1)) (distance image k)

      each : distance image 1 ≤ distance image 0
          → distance image 2 ≤ distance image 1 → distance image 3 ≤ distance image 2 → distance image 4 ≤ distance image 3 → NeverRise
      each a b c d zero l = a
      each a b c d (suc zero) l = b
      each a b c d (suc (suc zero)) l = c
      each a b c d (suc (suc (suc zero))) l = d
      each a b c d (suc (suc (suc (suc k)))) l = absurd (omega arith)

  tells_lengths : 0 < classes_in image
      → Tells (lengths_right image (sections_in image))
      ((((WholeRecords letter_size (distance image 0 - distance image 1) least_letters most_letters
      × WholeRecords (entry_size_in image) (distance image 1 - distance image 2) least_entries most_entries)
      × WholeRecords context_size (distance image 2 - distance image 3) least_contexts most_contexts)
      × WholeRecords (classes_in image) (distance image 3 - distance image 4) (variables_in image) (variables_in image))
      × WholeRecords (classes_in image + variables_in image) (distance image 4) least_columns most_columns)
  unfolding lengths_right sections_in section_at last_section
  tells_lengths filled =
      let long = entry_long image in
      tells_and
      (tells_and
      (tells_and
      (tells_and (tells_whole (sections_in image).alphabet _ _ _ (omega arith) refl)
      (tells_whole (sections_in image).contractions _ _ _ (omega arith) refl))
      (tells_whole (sections_in image).contexts _ _ _ (omega arith) refl))
      (tells_whole (sections_in image).transitions _ _ _ (omega arith) refl))
      (tells_whole (sections_in image).decisions _ _ _ (omega arith) refl)

  pub frame_right_lem : (frame_right image ≡ true) ↔ FrameRight image
  unfolding frame_right trailer_at
  frame_right_lem =
      Iff.trans
      (tells_and_then (tells_and (tells_and (tells_le _ (length image)) tells_trailer) tells_distances)
      (λ h. tells_lengths (omega arith))) (
        λ h.
            record {
              trailer_there = h.0.0.0;
              first_mark_lem = h.0.0.1.0.0.0;
              entry_size_lem = entry_size_in image;
              form = form_told image h.0.0.1.0.0.1;
              classes_right = h.0.0.1.0.1;
              variables_right = h.0.0.1.1;
              first_distance = h.0.1.0;
              never_rise = h.0.1.1;
              alphabet_whole = h.1.0.0.0.0;
              contractions_whole = h.1.0.0.0.1;
              contexts_whole = h.1.0.0.1;
              transitions_whole = h.1.0.1;
              decisions_whole = h.1.1;
            },
        λ f. (
          ((f.trailer_there, (((f.first_mark_lem, form_marked image f.form), f.classes_right), f.variables_right)), (f.first_distance, f.never_rise)),
          ((((f.alphabet_whole, rw (form_size image f.form) at f.contractions_whole), f.contexts_whole), f.transitions_whole), f.decisions_whole),
        ),
      )

  -- ---- The sections of any image go by the frame's tests

  pub sections_framed : frame_right image ≡ true → sections_of image ≡ sections_in image
  unfolding sections_of
  sections_framed e = ap (λ (b : Bool). elim b [ true ↦ sections_in image | false ↦ no_sections ]) e

  pub sections_unframed : frame_right image ≡ false → sections_of image ≡ no_sections
  unfolding sections_of
  sections_unframed e = ap (λ (b : Bool). elim b [ true ↦ sections_in image | false ↦ no_sections ]) e

  pub frame_short : length image < trailer_size → frame_right image ≡ false
  unfolding frame_right
  frame_short l = ap (λ (b : Bool). b && trailer_right image && distances_right image && lengths_right image (sections_in image)) (lt-leb _ _ l)

  pub frame_long : trailer_size ≤ length image → frame_right image ≡ (trailer_right image && distances_right image && lengths_right image (sections_in image))
  unfolding frame_right
  frame_long l = ap (λ (b : Bool). b && trailer_right image && distances_right image && lengths_right image (sections_in image)) (le-leb _ _ l)

  -- a caller sees by the number of classes whether the frame is right
  pub no_class_unframed : (sections_of image).classes ≡ 0 → frame_right image ≡ false
  unfolding sections_in
  no_class_unframed none = go (frame_right image) refl
    where
      go : (b : Bool) → frame_right image ≡ b → frame_right image ≡ false
      go true e =
          let c = (frame_right_lem.0 e).classes_right in
          let z = ap (λ (s : Sections). s.classes) (sections_framed e) in
          absurd (omega arith)
      go false e = e

  pub class_framed : ((sections_of image).classes ≡ 0 → ⊥) → frame_right image ≡ true
  class_framed some_class = go (frame_right image) refl
    where
      go : (b : Bool) → frame_right image ≡ b → frame_right image ≡ true
      go true e = e
      go false e = absurd (some_class (ap (λ (s : Sections). s.classes) (sections_unframed e)))

  -- the contraction records of an image in the old form have no years, and there are none where the frame is wrong
  pub undated_section : is_dated image ≡ false → (sections_of image).contractions.size ≡ dated_entry_size → ⊥
  unfolding sections_in section_at
  undated_section old dated = go (frame_right image) refl
    where
      size_of_lem : {a b : Sections} → a ≡ b → a.contractions.size ≡ b.contractions.size
      size_of_lem e = ap (λ (s : Sections). s.contractions.size) e

      go : (b : Bool) → frame_right image ≡ b → ⊥
      go true e = let size = size_of_lem (sections_framed e) in let short = undated_size image old in omega arith
      go false e = let size = size_of_lem (sections_unframed e) in omega arith

  -- the trailer's two numbers, where the frame is right
  pub framed_classes : frame_right image ≡ true → Between least_classes most_classes (sections_of image).classes
  unfolding sections_in
  framed_classes e = rw (sections_framed e) (frame_right_lem.0 e).classes_right

  pub framed_variables : frame_right image ≡ true → (sections_of image).variables ≤ most_variables
  unfolding sections_in
  framed_variables e = rw (sections_framed e) (frame_right_lem.0 e).variables_right
