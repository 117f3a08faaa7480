-- Where the parts of an accepted image lie, by its distances: the contraction records fill what lies between the second distance and the third.
use Prim.Native.Nat.{ℕ, ◌+◌, ◌-◌, ◌*◌, ◌/◌, ◌≤◌, ◌<◌}
use mathlib.Core.List.{List}
use mathlib.Core.Path.{◌≡◌, refl, sym, ◌∙◌, ap, subst}
use native.Mathlib.Nat.{div-eq_of_eq-mul_right}
use native.Mathlib.Omega.{arith}
use lib.ListN.{length}
use Rattle.std.specs.Prelude.{Ok}
use Rattle.table.specs.Numbers.{trailer_size, letter_size, least_letters, most_letters, least_entries, most_entries, context_size, least_contexts, most_contexts, least_columns, most_columns}
use Rattle.table.specs.Sections.{trailer_at, distance, classes_in, variables_in, entry_size_in, section_at, sections_in, sections_of}
use Rattle.table.specs.Refusals.{Between, WholeRecords, FrameRight}
use Rattle.table.specs.Verdict.{verdict_of}
use Rattle.table.specs.declared.Sections.{Sections}
use Rattle.table.proofs.Forms.{form_size, entry_long}
use Rattle.table.proofs.Frame.{frame_right_lem, sections_framed}
use Rattle.table.proofs.Refusals.{accepted}

-- so many bytes are whole records of this size, in the allowed number
pub record Counted (size bytes least most : ℕ) : Type 0 where
  pub whole : size * (bytes / size) ≡ bytes
  pub allowed : Between least most (bytes / size)

counted : {size bytes least most : ℕ} → 0 < size → WholeRecords size bytes least most → Counted size bytes least most
counted {size} {bytes} filled w =
    let e : bytes / size ≡ w.number = div-eq_of_eq-mul_right filled (sym w.whole) in
    record { whole = rw e w.whole; allowed = rw e w.allowed }

pub record Placed (image : List ℕ) : Type 0 where
  pub trailer_there : trailer_size ≤ length image
  pub first : distance image 0 ≡ trailer_at image
  pub second : distance image 1 ≤ distance image 0
  pub third : distance image 2 ≤ distance image 1
  pub fourth : distance image 3 ≤ distance image 2
  pub fifth : distance image 4 ≤ distance image 3
  pub start : (sections_of image).contractions.start ≡ trailer_at image - distance image 1
  pub size : (sections_of image).contractions.size ≡ entry_size_in image
  pub filled : (sections_of image).contractions.size * (sections_of image).contractions.records ≡ distance image 1 - distance image 2
  pub few : (sections_of image).contractions.records ≤ most_entries
  pub next : (sections_of image).contexts.start ≡ trailer_at image - distance image 2
  pub alphabet : Counted letter_size (distance image 0 - distance image 1) least_letters most_letters
  pub contexts : Counted context_size (distance image 2 - distance image 3) least_contexts most_contexts
  pub transitions : Counted (classes_in image) (distance image 3 - distance image 4) (variables_in image) (variables_in image)
  pub decisions : Counted (classes_in image + variables_in image) (distance image 4) least_columns most_columns

pub placed_framed : (image : List ℕ) → FrameRight image → Placed image
unfolding sections_in section_at trailer_at
placed_framed image f =
    let size : f.entry_size_lem ≡ entry_size_in image = form_size image f.form in
    let long = entry_long image in
    let entries : Counted (entry_size_in image) (distance image 1 - distance image 2) least_entries most_entries =
    counted (omega arith) (subst (λ (n : ℕ). WholeRecords n (distance image 1 - distance image 2) least_entries most_entries) size f.contractions_whole) in
    let some_class = f.classes_right.low in
    let at = sections_framed image ((frame_right_lem image).1 f) in
    record {
      trailer_there = f.trailer_there;
      first = f.first_distance;
      second = f.never_rise 0 (omega arith);
      third = f.never_rise 1 (omega arith);
      fourth = f.never_rise 2 (omega arith);
      fifth = f.never_rise 3 (omega arith);
      start = ap (λ (s : Sections). s.contractions.start) at;
      size = ap (λ (s : Sections). s.contractions.size) at;
      filled = ap (λ (s : Sections). s.contractions.size * s.contractions.records) at ∙ entries.whole;
      few = rw at entries.allowed.high;
      next = ap (λ (s : Sections). s.contexts.start) at;
      alphabet = counted (omega arith) f.alphabet_whole;
      contexts = counted (omega arith) f.contexts_whole;
      transitions = counted (omega arith) f.transitions_whole;
      decisions = counted (omega arith) f.decisions_whole;
    }

pub placed : (image : List ℕ) → verdict_of image ≡ Ok tt → Placed image
placed image accepts = placed_framed image ((accepted image).0 accepts).0

-- the parts one after the other, as sums
pub record Laid (image : List ℕ) : Type 0 where
  pub whole :
      (sections_of image).contractions.start
      + (sections_of image).contractions.size * (sections_of image).contractions.records
      + distance image 2
      + trailer_size
      ≡ length image
  pub after_entries :
      (sections_of image).contexts.start
      ≡ (sections_of image).contractions.start + (sections_of image).contractions.size * (sections_of image).contractions.records

-- the same of numbers alone
as_sums : (bytes trailer first second third start entries next : ℕ) → trailer_size ≤ bytes → trailer ≡ bytes - trailer_size → first ≡ trailer → second ≤ first
    → third ≤ second → start ≡ trailer - second → entries ≡ second - third → next ≡ trailer - third
    → (start + entries + third + trailer_size ≡ bytes) × (next ≡ start + entries)
as_sums bytes trailer first second third start entries next a b c d e f g h = (omega arith, omega arith)

pub laid_out : (image : List ℕ) → verdict_of image ≡ Ok tt → Laid image
unfolding trailer_at
laid_out image accepts =
    let p = placed image accepts in
    let sums = as_sums _ _ _ _ _ _ _ _ p.trailer_there refl p.first p.second p.third p.start p.filled p.next in
    record { whole = sums.0; after_entries = sums.1 }
