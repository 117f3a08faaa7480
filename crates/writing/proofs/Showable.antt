-- An accepted image can be shown: the records of each section have the bytes of their fields, lie within the image, and are few.
use Prim.Native.Nat.{ℕ, ◌+◌, ◌≤◌, ◌<◌}
use mathlib.Core.Bool.{Bool, true, false}
use mathlib.Core.List.{List}
use mathlib.Core.Path.{◌≡◌, refl, ◌∙◌}
use native.Mathlib.Omega.{arith}
use borrow.Author.Tests.{eq-eqb, ne_eqb, eqb-true}
use lib.Dec.{eqb}
use lib.ListN.{length, get_or}
use Rattle.table.specs.Numbers.{most_length, dated_entry_size, entry_size}
use Rattle.table.specs.Sections.{is_dated, sections_of, offset, record_part}
use Rattle.table.specs.Records.{section_named}
use Rattle.table.specs.declared.SectionName.TheVariants.{Contractions as contractions}
use Rattle.table.specs.Laid.{SectionsLaid}
use Rattle.table.specs.Refusals.{RecordsRight}
use Rattle.table.specs.Verdict.{verdict_of}
use Rattle.table.specs.declared.Section.{Section}
use Rattle.table.specs.declared.Sections.{Sections}
use Rattle.std.specs.Prelude.{Ok}
use Rattle.table.proofs.Forms.{dated_size, undated_size, entry_long}
use Rattle.table.proofs.Reading.{part_long, part_at, accepted_laid, accepted_right}
use Rattle.form.specs.Fields.{fields_of, sizes_of}
use Rattle.form.specs.Showing.{head_of}
use Rattle.writing.specs.inside.Puts.{Sectioned, Showable}
use Rattle.form.specs.declared.Draft.{Draft}
use Rattle.form.specs.declared.Keyword.{Keyword}
use Rattle.form.specs.declared.Keyword.TheVariants.{Letter, Entry, Context, Transition, Decision}

-- a section whose records have the bytes of their fields
sectioned : (d : Draft) (k : Keyword) (image : List ℕ) (s : Section) → s.size ≡ sizes_of (fields_of d k)
    → ((i : ℕ) → i < s.records → offset s i + s.size ≤ length image)
    → ((i : ℕ) → i < s.records → k ≡ Entry → get_or (record_part image s i 0 s.size) 0 0 ≤ most_length) → s.records ≤ 1199 → Sectioned d k image s
sectioned d k image s size lies string few =
    record {
      fits = λ i l. let inside = lies i l in record { size = part_long image s i 0 s.size (omega arith) ∙ size; string = string i l };
      lies = lies;
      few = few;
    }

-- these are no entries
letter_not : Letter ≡ Entry → ⊥
letter_not e = let no : ◌≡◌ {A = ℕ} 0 1 = cc in omega arith

context_not : Context ≡ Entry → ⊥
context_not e = let no : ◌≡◌ {A = ℕ} 0 1 = cc in omega arith

transition_not : Transition ≡ Entry → ⊥
transition_not e = let no : ◌≡◌ {A = ℕ} 0 1 = cc in omega arith

decision_not : Decision ≡ Entry → ⊥
decision_not e = let no : ◌≡◌ {A = ℕ} 0 1 = cc in omega arith

module _ (image : List ℕ) (accepts : verdict_of image ≡ Ok tt) where
  abbrev s : Sections
  s = sections_of image

  abbrev head : Draft
  head = head_of s

  laid : SectionsLaid image (sections_of image)
  laid = accepted_laid image accepts

  right : RecordsRight image (sections_of image)
  right = accepted_right image accepts

  entry_size_lem : (dated : Bool) → is_dated image ≡ dated → s.contractions.size ≡ sizes_of (fields_of head Entry)
  unfolding fields_of sizes_of head_of
  entry_size_lem true e =
      let is : s.contractions.size ≡ dated_entry_size = laid.contractions_laid.size_is ∙ dated_size image e in
      is ∙ rw (eq-eqb s.contractions.size dated_entry_size is)
  entry_size_lem false e =
      let is : s.contractions.size ≡ entry_size = laid.contractions_laid.size_is ∙ undated_size image e in
      is ∙ rw (ne_eqb s.contractions.size dated_entry_size (λ h. omega arith))

  decision_size : (none : Bool) → eqb s.variables 0 ≡ none → s.decisions.size ≡ sizes_of (fields_of head Decision)
  unfolding fields_of sizes_of head_of
  decision_size true e = let is = laid.decisions_laid.size_is in let no = eqb-true s.variables 0 e in rw e (omega arith)
  decision_size false e = let is = laid.decisions_laid.size_is in rw e (omega arith)

  string_length : (i : ℕ) → i < s.contractions.records → get_or (record_part image s.contractions i 0 s.contractions.size) 0 0 ≤ most_length
  unfolding section_named
  string_length i l =
      let inside = laid.contractions_laid.lies i l in
      let size = laid.contractions_laid.size_is in
      let some = entry_long image in
      let short = (right contractions i l).length_right.high in
      rw (part_at image s.contractions i 0 s.contractions.size (omega arith) 0 0 (omega arith)) short

  pub accepted_showable : Showable (head_of (sections_of image)) image (sections_of image)
  unfolding head_of fields_of sizes_of
  accepted_showable =
      let classes = laid.classes_right in
      let variables = laid.variables_right in
      record {
        modest =
            record {
              stage = omega arith;
              classes = classes.high;
              variables = variables;
              letters = omega arith;
              entries = omega arith;
              contexts = omega arith;
              transitions = omega arith;
              decisions = omega arith;
            };
        letters =
            let here = laid.alphabet_laid in
            let n = here.number_right.high in
            let size = here.size_is in
            sectioned head Letter image s.alphabet size (λ i l. let lies = here.lies i l in omega arith) (λ i l e. absurd (letter_not e)) (omega arith);
        entries =
            let here = laid.contractions_laid in
            let n = here.number_right.high in
            let size = here.size_is in
            sectioned head Entry image s.contractions (entry_size_lem (is_dated image) refl) (λ i l. let lies = here.lies i l in omega arith) (λ i l e. string_length i l) (omega arith);
        contexts =
            let here = laid.contexts_laid in
            let n = here.number_right.high in
            let size = here.size_is in
            sectioned head Context image s.contexts size (λ i l. let lies = here.lies i l in omega arith) (λ i l e. absurd (context_not e)) (omega arith);
        transitions =
            let here = laid.transitions_laid in
            let n = here.number_right.high in
            let size = here.size_is in
            sectioned head Transition image s.transitions (omega arith) (λ i l. let lies = here.lies i l in omega arith) (λ i l e. absurd (transition_not e)) (omega arith);
        decisions =
            let here = laid.decisions_laid in
            let n = here.number_right.high in
            let size = here.size_is in
            sectioned head Decision image s.decisions (decision_size (eqb s.variables 0) refl) (λ i l. let lies = here.lies i l in omega arith) (λ i l e. absurd (decision_not e)) (omega arith);
      }

-- by the sections as they were found
pub showable_by : (image : List ℕ) (s : Sections) (d : Draft) → s ≡ sections_of image → d ≡ head_of s → verdict_of image ≡ Ok tt → Showable d image s
showable_by image s d located head accepts = rw (head, located) (accepted_showable image accepts)
