-- An accepted image is its five sections back to back and the trailer that its numbers give. The idea: the records of a section, joined, are the bytes from its
-- start on, each section starts where the one before it ends, and a number has one pair of bytes.
use Prim.Native.Nat.{ℕ, zero, suc, ◌+◌, ◌-◌, ◌*◌, ◌/◌, ◌%◌, ◌≤◌, ◌<◌}
use mathlib.Core.Bool.{Bool, true, false, cond, ◌&&◌}
use mathlib.Core.List.{List, [], ◌∷◌, ◌++◌, flatten, append_assoc}
use mathlib.Core.Logic.{◌⊎◌, inl, inr}
use mathlib.Core.Path.{◌≡◌, refl, sym, ◌∙◌, ap}
use native.Mathlib.Nat.{mul-zero, mul-suc}
use native.Mathlib.Decide.{dec_lt}
use native.Mathlib.Omega.{arith}
use lib.Dec.{eqb, leb}
use lib.ListN.{length, get_or, take, drop, take-append-drop, drop_of_length-le, get_or-eq_default}
use lib.Seq.{drop-cons, drop-drop, take-add}
use Rattle.table.specs.Lists.{All}
use Rattle.table.specs.Numbers.{trailer_size, letter_size, entry_size, dated_entry_size, context_size, second_mark_byte, second_mark, dated_mark}
use Rattle.table.specs.Search.{list_from, list_of}
use Rattle.table.specs.Sections.{byte_at, number_at, bytes_from, trailer_at, distance, classes_in, variables_in, is_dated, entry_size_in, section_at, last_section, sections_in, trailer_right, distances_right, whole_records, lengths_right, frame_right, sections_of, offset, record_part}
use Rattle.table.specs.Refusals.{FrameRight}
use Rattle.table.specs.Verdict.{verdict_of}
use Rattle.table.specs.declared.Section.{Section}
use Rattle.table.specs.declared.Sections.{Sections}
use Rattle.std.specs.Prelude.{Ok}
use Rattle.table.proofs.Lists.{all_at}
use Rattle.table.proofs.Tests.{both, tells_eq, fails_law, clash}
use Rattle.table.proofs.Forms.{tells_dated, dated_size, undated_size, form_marked}
use Rattle.table.proofs.Frame.{frame_right_lem}
use Rattle.table.proofs.Refusals.{accepted}
use Rattle.table.proofs.Reading.{accepted_located, accepted_laid}
use Rattle.form.specs.Fields.{number_bytes}
use Rattle.form.specs.Reading.{entry_size_for, decisions_for, transitions_for, contexts_for, entries_for, letters_for, trailer_for}
use Rattle.form.specs.declared.Draft.{Draft}

-- ---- The numbers of a slice of bytes

abbrev pub Bytes : List ℕ → Type 0
Bytes image = All (λ (b : ℕ). b < 256) image

pub byte_below : (image : List ℕ) → Bytes image → (i : ℕ) → byte_at image i < 256
unfolding byte_at
byte_below image bytes i = go (dec_lt i (length image))
  where
    go : Dec (i < length image) → get_or image i 0 < 256
    go (yes l) = all_at bytes i 0 l
    go (no d) = rw (get_or-eq_default image 0 {n = i} (omega arith)) (omega arith)

-- ---- What the lines of an image's sections come to, at a stage

abbrev pub draft_for : Sections → ℕ → Draft
draft_for s stage =
    record {
      stage = stage;
      dated = eqb s.contractions.size dated_entry_size;
      classes = s.classes;
      variables = s.variables;
      letters = s.alphabet.records;
      entries = s.contractions.records;
      contexts = s.contexts.records;
      transitions = s.transitions.records;
      decisions = s.decisions.records;
    }

-- ---- A section's records, joined

abbrev pub record_at : List ℕ → Section → ℕ → List ℕ
record_at image section i = record_part image section i 0 section.size

abbrev pub joined : List ℕ → Section → List ℕ
joined image section = flatten (list_of (record_at image section) section.records)

-- all five
abbrev pub section_bytes : List ℕ → Sections → List ℕ
section_bytes image s =
    joined image s.alphabet ++ joined image s.contractions ++ joined image s.contexts ++ joined image s.transitions ++ joined image s.decisions

module _ (image : List ℕ) (section : Section) where
  abbrev size : ℕ
  size = section.size

  joined_from : (i n : ℕ) → flatten (list_from (record_at image section) i n) ≡ bytes_from image (offset section i) (section.size * n)
  unfolding flatten list_from record_part bytes_from offset
  joined_from i zero = ap (λ (k : ℕ). take k (drop (section.start + size * i) image)) (sym (mul-zero size))
  joined_from i (suc n) =
      let here : section.start + size * i + 0 ≡ section.start + size * i = omega arith in
      let one : size * suc n ≡ size + size * n = let h = mul-suc size n in omega arith in
      let next : section.start + size * suc i ≡ section.start + size * i + size = let h = mul-suc size i in omega arith in
      let parts = take-add size (size * n) (drop (section.start + size * i) image) in
      let rest = drop-drop size (section.start + size * i) image in
      let later = joined_from (suc i) n in
      cc

  joined_bytes : joined image section ≡ take (section.size * section.records) (drop section.start image)
  unfolding bytes_from offset
  joined_bytes =
      let at : section.start + size * 0 ≡ section.start = let h = mul-zero size in omega arith in
      joined_from 0 section.records ∙ ap (λ (k : ℕ). take (size * section.records) (drop k image)) at

  -- it goes to where the next one starts
  pub joined_piece : (next : ℕ) → section.start + section.size * section.records ≡ next
      → drop section.start image ≡ joined image section ++ drop next image
  joined_piece next e =
      let parts = take-append-drop (size * section.records) (drop section.start image) in
      let rest = drop-drop (size * section.records) section.start image in
      let all = joined_bytes in
      cc

-- ---- Where the sections of an accepted image lie

abbrev pub span : Section → ℕ
span section = section.size * section.records

pub record Spans (image : List ℕ) (s : Sections) : Type 0 where
  pub whole : trailer_at image + trailer_size ≡ length image
  pub first : distance image 0 ≡ span s.alphabet + distance image 1
  pub second : distance image 1 ≡ span s.contractions + distance image 2
  pub third : distance image 2 ≡ span s.contexts + distance image 3
  pub fourth : distance image 3 ≡ span s.transitions + distance image 4
  pub fifth : distance image 4 ≡ span s.decisions
  pub letters_at : s.alphabet.start ≡ 0
  pub entries_at : s.alphabet.start + span s.alphabet ≡ s.contractions.start
  pub contexts_at : s.contractions.start + span s.contractions ≡ s.contexts.start
  pub transitions_at : s.contexts.start + span s.contexts ≡ s.transitions.start
  pub decisions_at : s.transitions.start + span s.transitions ≡ s.decisions.start
  pub trailer_at_lem : s.decisions.start + span s.decisions ≡ trailer_at image

filled : (section : Section) (bytes least most : ℕ) → whole_records section bytes least most ≡ true → span section ≡ bytes
unfolding whole_records
filled section bytes least most e = (tells_eq _ _).0 (both _ _ e).0

-- the same of numbers alone
next_start : (trailer d e spanned : ℕ) → d ≤ trailer → e ≤ d → spanned ≡ d - e → (d ≡ spanned + e) × (trailer - d + spanned ≡ trailer - e)
next_start trailer d e spanned a b c = (omega arith, omega arith)

all_five : (a b c d e : Bool) → (a && b && c && d && e) ≡ true → (a ≡ true) × (b ≡ true) × (c ≡ true) × (d ≡ true) × (e ≡ true)
all_five a b c d e h =
    let four = both (a && b && c && d) e h in
    let three = both (a && b && c) d four.0 in
    let two = both (a && b) c three.0 in
    let one = both a b two.0 in
    (one.0, one.1, two.1, three.1, four.1)

lengths_right_lem : (image : List ℕ) → frame_right image ≡ true → lengths_right image (sections_in image) ≡ true
unfolding frame_right
lengths_right_lem image framed =
    (both (leb trailer_size (length image) && trailer_right image && distances_right image) (lengths_right image (sections_in image)) framed).1

spans_in : (image : List ℕ) → frame_right image ≡ true → Spans image (sections_in image)
unfolding lengths_right sections_in section_at last_section trailer_at
spans_in image framed =
    let s = sections_in image in
    let f = (frame_right_lem image).0 framed in
    let d0 = f.first_distance in
    let d1 = f.never_rise 0 (omega arith) in
    let d2 = f.never_rise 1 (omega arith) in
    let d3 = f.never_rise 2 (omega arith) in
    let d4 = f.never_rise 3 (omega arith) in
    let each = all_five _ _ _ _ _ (lengths_right_lem image framed) in
    let there = f.trailer_there in
    let a = next_start (trailer_at image) (distance image 0) (distance image 1) (span s.alphabet) (omega arith) d1 (filled s.alphabet _ _ _ each.0) in
    let b = next_start (trailer_at image) (distance image 1) (distance image 2) (span s.contractions) (omega arith) d2 (filled s.contractions _ _ _ each.1) in
    let c = next_start (trailer_at image) (distance image 2) (distance image 3) (span s.contexts) (omega arith) d3 (filled s.contexts _ _ _ each.2) in
    let d = next_start (trailer_at image) (distance image 3) (distance image 4) (span s.transitions) (omega arith) d4 (filled s.transitions _ _ _ each.3) in
    let e : span s.decisions ≡ distance image 4 = filled s.decisions _ _ _ each.4 in
    record {
      whole = omega arith;
      first = a.0;
      second = b.0;
      third = c.0;
      fourth = d.0;
      fifth = sym e;
      letters_at = omega arith;
      entries_at = a.1;
      contexts_at = b.1;
      transitions_at = c.1;
      decisions_at = d.1;
      trailer_at_lem = omega arith;
    }

regroup : (a b c d e f : List ℕ) → a ++ (b ++ (c ++ (d ++ (e ++ f)))) ≡ a ++ b ++ c ++ d ++ e ++ f
regroup a b c d e f = simp append_assoc

-- ---- The trailer's bytes

module _ (image : List ℕ) (bytes : Bytes image) where
  pair : (i : ℕ) → i + 2 ≤ length image → drop i image ≡ number_bytes (number_at image i) ++ drop (i + 2) image
  unfolding number_bytes number_at byte_at
  pair i l =
      let low = byte_below image bytes i in
      let a = drop-cons image i 0 (omega arith) in
      let b = drop-cons image (suc i) 0 (omega arith) in
      let one : i + 1 ≡ suc i = omega arith in
      let two : i + 2 ≡ suc (suc i) = omega arith in
      let first : (get_or image i 0 + 256 * get_or image (i + 1) 0) % 256 ≡ get_or image i 0 = omega arith in
      let second : (get_or image i 0 + 256 * get_or image (i + 1) 0) / 256 ≡ get_or image (i + 1) 0 = omega arith in
      cc

  distance_pair : (k : ℕ) → trailer_at image + 2 * k + 2 ≤ length image
      → drop (trailer_at image + 2 * k) image ≡ number_bytes (distance image k) ++ drop (trailer_at image + 2 * suc k) image
  unfolding distance
  distance_pair k l =
      let next : trailer_at image + 2 * k + 2 ≡ trailer_at image + 2 * suc k = omega arith in
      pair (trailer_at image + 2 * k) l ∙ ap (λ (i : ℕ). number_bytes (number_at image (trailer_at image + 2 * k)) ++ drop i image) next

zero_at : (t : ℕ) → t ≡ t + 2 * 0
zero_at t = omega arith

last_four : (image : List ℕ) (i : ℕ) → i + 4 ≡ length image
    → drop i image ≡ byte_at image i ∷ byte_at image (i + 1) ∷ byte_at image (i + 2) ∷ byte_at image (i + 3) ∷ []
unfolding byte_at
last_four image i l =
    let a = drop-cons image i 0 (omega arith) in
    let b = drop-cons image (i + 1) 0 (omega arith) in
    let c = drop-cons image (i + 2) 0 (omega arith) in
    let d = drop-cons image (i + 3) 0 (omega arith) in
    let one : suc i ≡ i + 1 = omega arith in
    let two : suc (i + 1) ≡ i + 2 = omega arith in
    let three : suc (i + 2) ≡ i + 3 = omega arith in
    let none : drop (suc (i + 3)) image ≡ [] = drop_of_length-le image {i = suc (i + 3)} (omega arith) in
    cc

-- ---- An accepted image

module _ (image : List ℕ) (accepts : verdict_of image ≡ Ok tt) where
  abbrev s : Sections
  s = sections_of image

  framed : FrameRight image
  framed = ((accepted image).0 accepts).0

  pub spans : Spans image (sections_of image)
  spans = rw (accepted_located image accepts) (spans_in image ((frame_right_lem image).1 framed))

  -- a record's size tells whether there are years, as the last byte does
  pub record Marked : Type 0 where
    pub entry_size_lem : s.contractions.size ≡ cond (eqb s.contractions.size dated_entry_size) dated_entry_size entry_size
    pub last_byte : byte_at image (trailer_at image + second_mark_byte) ≡ cond (eqb (sections_of image).contractions.size dated_entry_size) dated_mark second_mark

  pub marked : Marked
  marked = go (is_dated image) refl (form_marked image framed.form)
    where
      size_is : s.contractions.size ≡ entry_size_in image
      size_is = (accepted_laid image accepts).contractions_laid.size_is

      go : (dated : Bool) → is_dated image ≡ dated
          → (byte_at image (trailer_at image + second_mark_byte) ≡ second_mark) ⊎ (byte_at image (trailer_at image + second_mark_byte) ≡ dated_mark) → Marked
      go true e m =
          let long : s.contractions.size ≡ dated_entry_size = size_is ∙ dated_size image e in
          let test = (tells_eq s.contractions.size dated_entry_size).1 long in
          record { entry_size_lem = rw test long; last_byte = rw test ((tells_dated image).0 e) }
      go false e (inl old) =
          let short : s.contractions.size ≡ entry_size = size_is ∙ undated_size image e in
          let test = (fails_law (tells_eq s.contractions.size dated_entry_size)).1 (λ (long : s.contractions.size ≡ dated_entry_size). omega arith) in
          record { entry_size_lem = rw test short; last_byte = rw test old }
      go false e (inr new) = absurd (clash ((tells_dated image).1 new) e)

  -- the five distances are those of the draft
  record Distances (stage : ℕ) : Type 0 where
    first : distance image 0 ≡ letters_for (draft_for s stage)
    second : distance image 1 ≡ entries_for (draft_for s stage)
    third : distance image 2 ≡ contexts_for (draft_for s stage)
    fourth : distance image 3 ≡ transitions_for (draft_for s stage)
    fifth : distance image 4 ≡ decisions_for (draft_for s stage)

  distances : (stage : ℕ) → Distances stage
  unfolding letters_for entries_for contexts_for transitions_for decisions_for entry_size_for
  distances stage =
      let laid = accepted_laid image accepts in
      let p = spans in
      let fifth : distance image 4 ≡ (s.classes + s.variables) * s.decisions.records =
      p.fifth ∙ ap (λ (n : ℕ). n * s.decisions.records) laid.decisions_laid.size_is in
      let fourth : distance image 3 ≡ s.classes * s.transitions.records + decisions_for (draft_for s stage) =
      p.fourth ∙ rw (laid.transitions_laid.size_is, fifth) in
      let third : distance image 2 ≡ context_size * s.contexts.records + transitions_for (draft_for s stage) =
      p.third ∙ rw (laid.contexts_laid.size_is, fourth) in
      let second : distance image 1 ≡ cond (eqb s.contractions.size dated_entry_size) dated_entry_size entry_size
      * s.contractions.records + contexts_for (draft_for s stage) =
      p.second ∙ (let size = marked.entry_size_lem in cc) in
      let first : distance image 0 ≡ letter_size * s.alphabet.records + entries_for (draft_for s stage) =
      p.first ∙ rw (laid.alphabet_laid.size_is, second) in
      record { first = first; second = second; third = third; fourth = fourth; fifth = fifth }

  numbers : (byte_at image (trailer_at image + 10) ≡ s.classes) × (byte_at image (trailer_at image + 11) ≡ s.variables)
  unfolding sections_in classes_in variables_in
  numbers = rw (accepted_located image accepts) (refl, refl)

  pub trailer_back : Bytes image → (stage : ℕ) → drop (trailer_at image) image ≡ trailer_for (draft_for (sections_of image) stage)
  unfolding trailer_for
  trailer_back bytes stage =
      let whole = spans.whole in
      let d = distances stage in
      let p0 = distance_pair image bytes 0 (omega arith) in
      let p1 = distance_pair image bytes 1 (omega arith) in
      let p2 = distance_pair image bytes 2 (omega arith) in
      let p3 = distance_pair image bytes 3 (omega arith) in
      let p4 = distance_pair image bytes 4 (omega arith) in
      let f = last_four image (trailer_at image + 10) (omega arith) in
      let back =
      ap (λ (i : ℕ). drop i image) (zero_at (trailer_at image)) ∙ p0
      ∙ ap (λ (r : List ℕ). number_bytes (distance image 0) ++ r) (p1
      ∙ ap (λ (r : List ℕ). number_bytes (distance image 1) ++ r) (p2
      ∙ ap (λ (r : List ℕ). number_bytes (distance image 2) ++ r) (p3
      ∙ ap (λ (r : List ℕ). number_bytes (distance image 3) ++ r) (p4
      ∙ ap (λ (r : List ℕ). number_bytes (distance image 4) ++ r) f)))) in
      let classes = numbers.0 in
      let variables = numbers.1 in
      let first_mark_lem = framed.first_mark_lem in
      let last_mark = marked.last_byte in
      let eleven : byte_at image (trailer_at image + 10 + 1) ≡ byte_at image (trailer_at image + 11) = ap (byte_at image) (omega arith) in
      let twelve : byte_at image (trailer_at image + 10 + 2) ≡ byte_at image (trailer_at image + 12) = ap (byte_at image) (omega arith) in
      let thirteen : byte_at image (trailer_at image + 10 + 3) ≡ byte_at image (trailer_at image + 13) = ap (byte_at image) (omega arith) in
      back
      ∙ regroup (number_bytes (distance image 0)) (number_bytes (distance image 1)) (number_bytes (distance image 2)) (number_bytes (distance image 3))
      (number_bytes (distance image 4)) _
      ∙ rw (d.first, d.second, d.third, d.fourth, d.fifth, classes, eleven, variables, twelve, first_mark_lem, thirteen, last_mark)

  pub image_back : Bytes image → (stage : ℕ) → image ≡ section_bytes image (sections_of image) ++ trailer_for (draft_for (sections_of image) stage)
  image_back bytes stage =
      let p = spans in
      let none : drop s.alphabet.start image ≡ image = ap (λ (i : ℕ). drop i image) p.letters_at in
      let a = joined_piece image s.alphabet s.contractions.start p.entries_at in
      let b = joined_piece image s.contractions s.contexts.start p.contexts_at in
      let c = joined_piece image s.contexts s.transitions.start p.transitions_at in
      let d = joined_piece image s.transitions s.decisions.start p.decisions_at in
      let e = joined_piece image s.decisions (trailer_at image) p.trailer_at_lem in
      let t = trailer_back bytes stage in
      sym none ∙ a ∙ rw (b, c, d, e, t) (regroup (joined image s.alphabet) (joined image s.contractions) (joined image s.contexts)
      (joined image s.transitions) (joined image s.decisions) (trailer_for (draft_for s stage)))
