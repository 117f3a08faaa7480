-- The moved image of an accepted one, none of whose records is dated: it is accepted too, in the form that it was moved to, and has the same table. The idea: the
-- sections that its distances give hold the same records, and the years that a record gets or loses are always.
use Prim.Native.Nat.{ℕ, zero, suc, ◌+◌, ◌-◌, ◌*◌, ◌/◌, ◌≤◌, ◌<◌}
use mathlib.Core.Bool.{not}
use mathlib.Core.List.{List, []}
use mathlib.Core.Option.{none}
use mathlib.Core.Path.{◌≡◌, refl, sym, ◌∙◌, ap, subst}
use native.Mathlib.Nat.{div-eq_of_eq-mul_right}
use native.Mathlib.Omega.{arith}
use lib.ListN.{length, get_or}
use borrow.Author.Tests.{eqb-true, not-false}
use Rattle.std.specs.Prelude.{Ok}
use Rattle.table.specs.Numbers.{classes_byte, variables_byte, first_mark_byte, second_mark_byte, second_mark, dated_mark, entry_size, letter_size, context_size, first_year_byte, last_year_byte, earliest_year, latest_year}
use Rattle.table.specs.Sections.{byte_at, number_at, trailer_at, distance, classes_in, variables_in, entry_size_in, section_at, last_section, sections_in, sections_of, offset, record_byte, first_year, last_year}
use Rattle.table.specs.Refusals.{EntryForm, old_form, new_form, FrameRight}
use Rattle.table.specs.Table.{Table, table_in, table_of}
use Rattle.table.specs.Grouped.{Grouped}
use Rattle.table.specs.Verdict.{strings, verdict_of}
use Rattle.table.specs.Laid.{SectionsLaid}
use Rattle.table.specs.declared.Section.{Section}
use Rattle.table.specs.declared.Sections.{Sections}
use Rattle.table.proofs.Tests.{both, tells_eq}
use Rattle.table.proofs.Search.{first_missing, first_is_not}
use Rattle.table.proofs.Forms.{form_size, dated_years, undated_years}
use Rattle.table.proofs.Frame.{frame_right_lem, sections_framed}
use Rattle.table.proofs.Laid.{sections_laid}
use Rattle.table.proofs.Refusals.{accepted}
use Rattle.table.proofs.Reading.{accepted_located}
use Rattle.dates.specs.Forms.{entries_of, number_bytes, always, moved_image, is_always, first_dated_of, first_dated}
use Rattle.dates.proofs.Blocks.{in_block}
use Rattle.dates.proofs.Placed.{Placed, placed}
use Rattle.dates.proofs.Parts.{grown, moved_length, moved_trailer_lem, first_moved, second_moved, alphabet_byte, entry_byte, year_byte, later_byte, trailer_kept, mark_moved, first_distance, second_distance, later_distance}
use Rattle.dates.proofs.Same.{SameRecords, in_alphabet, right_records, same_table}

-- ---- The two forms

-- the years and the last byte of a form
pub data Form : List ℕ → ℕ → Type 0 where
  undated : Form [] second_mark
  dated : Form always dated_mark

-- ---- Where no record is dated

module _ (image : List ℕ) (none_dated : first_dated image ≡ none) where
  pub years_always : (k : ℕ) → k < (entries_of image).records
      → (first_year image (entries_of image) k ≡ earliest_year) × (last_year image (entries_of image) k ≡ latest_year)
  unfolding first_dated_of is_always
  years_always k l =
      let passes = not-false _ (first_missing (λ j. not (is_always image (entries_of image) j)) 0 (entries_of image).records none_dated k (omega arith) (omega arith)) in
      let each = both _ _ passes in
      (eqb-true _ _ each.0, eqb-true _ _ each.1)

-- ---- The frame

module _ (image : List ℕ) (accepts : verdict_of image ≡ Ok tt) (years : List ℕ) (mark : ℕ) (form : Form years mark) where
  abbrev p : Placed image
  p = placed image accepts

  abbrev f : FrameRight image
  f = ((accepted image).0 accepts).0

  abbrev other : List ℕ
  other = moved_image years mark image

  abbrev size : ℕ
  size = entry_size + length years

  classes_kept : classes_in other ≡ classes_in image
  unfolding classes_in
  classes_kept = trailer_kept image accepts years mark classes_byte (omega arith) (omega arith)

  variables_kept : variables_in other ≡ variables_in image
  unfolding variables_in
  variables_kept = trailer_kept image accepts years mark variables_byte (omega arith) (omega arith)

  pub moved_form : EntryForm (moved_image years mark image) (entry_size + length years)
  unfolding number_bytes
  moved_form = go form (mark_moved image accepts years mark)
    where
      go : {ys : List ℕ} {m : ℕ} → Form ys m → byte_at other (trailer_at other + second_mark_byte) ≡ m → EntryForm other (entry_size + length ys)
      go undated e = old_form e
      go dated e = new_form e

  d₀ : distance other 0 ≡ (entries_of image).start + grown image accepts years mark + distance image 2
  d₀ = first_distance image accepts years mark ∙ first_moved image accepts years mark

  d₁ : distance other 1 ≡ grown image accepts years mark + distance image 2
  d₁ = second_distance image accepts years mark ∙ second_moved image accepts years mark

  d₂ : distance other 2 ≡ distance image 2
  d₂ = later_distance image accepts years mark 2 (omega arith) (omega arith)

  d₃ : distance other 3 ≡ distance image 3
  d₃ = later_distance image accepts years mark 3 (omega arith) (omega arith)

  d₄ : distance other 4 ≡ distance image 4
  d₄ = later_distance image accepts years mark 4 (omega arith) (omega arith)

  -- the alphabet is as long as it was
  alphabet_long : distance other 0 - distance other 1 ≡ distance image 0 - distance image 1
  unfolding trailer_at
  alphabet_long = let a = d₀ in let b = d₁ in let c = p.start in let d = p.first in omega arith

  never_rise : (k : ℕ) → k < 4 → distance other (k + 1) ≤ distance other k
  never_rise zero l = let a = d₀ in let b = d₁ in omega arith
  never_rise (suc zero) l = let a = d₁ in let b = d₂ in omega arith
  never_rise (suc (suc zero)) l = let a = d₂ in let b = d₃ in let c = p.fourth in omega arith
  never_rise (suc (suc (suc zero))) l = let a = d₃ in let b = d₄ in let c = p.fifth in omega arith
  never_rise (suc (suc (suc (suc k)))) l = absurd (omega arith)

  pub frame_moved : FrameRight (moved_image years mark image)
  frame_moved =
      record {
        trailer_there = let h = moved_length image accepts years mark in omega arith;
        first_mark_lem = trailer_kept image accepts years mark first_mark_byte (omega arith) (omega arith) ∙ f.first_mark_lem;
        entry_size_lem = size;
        form = moved_form;
        classes_right = rw classes_kept f.classes_right;
        variables_right = rw variables_kept f.variables_right;
        first_distance = let h = moved_length image accepts years mark in let a = d₀ in omega arith;
        never_rise = never_rise;
        alphabet_whole = rw alphabet_long f.alphabet_whole;
        contractions_whole =
            record {
              number = (entries_of image).records;
              whole = let a = d₁ in let b = d₂ in omega arith;
              allowed = record { low = omega arith; high = p.few };
            };
        contexts_whole = rw (d₂, d₃) f.contexts_whole;
        transitions_whole = rw (d₃, d₄, classes_kept, variables_kept) f.transitions_whole;
        decisions_whole = rw (d₄, classes_kept, variables_kept) f.decisions_whole;
      }

  -- ---- The records

  abbrev s : Sections
  s = sections_in image

  abbrev t : Sections
  t = sections_in other

  size_moved : entry_size_in other ≡ size
  size_moved = sym (form_size other moved_form)

  entries_kept : t.contractions.records ≡ (entries_of image).records
  unfolding sections_in section_at
  entries_kept =
      let whole : distance other 1 - distance other 2 ≡ size * (entries_of image).records = let a = d₁ in let b = d₂ in omega arith in
      ap (λ (n : ℕ). (distance other 1 - distance other 2) / n) size_moved ∙ div-eq_of_eq-mul_right (omega arith) whole

  entries_start : t.contractions.start ≡ (entries_of image).start
  unfolding sections_in section_at
  entries_start = let a = d₁ in let h = moved_trailer_lem image accepts years mark in omega arith

  entry_place : (k : ℕ) → offset t.contractions k ≡ (entries_of image).start + size * k
  unfolding offset sections_in section_at
  entry_place k = let a = entries_start in let e : entry_size_in other * k ≡ size * k = ap (λ (n : ℕ). n * k) size_moved in omega arith

  located : entries_of image ≡ s.contractions
  located = ap (λ (x : Sections). x.contractions) (accepted_located image accepts)

  letters_same : (k j : ℕ) → k < s.alphabet.records → j < letter_size → record_byte other t.alphabet k j ≡ record_byte image s.alphabet k j
  unfolding record_byte offset sections_in section_at
  letters_same k j l u =
      let whole = p.alphabet.whole in
      let within = in_block letter_size k ((distance image 0 - distance image 1) / letter_size) j l u in
      let start = p.start in
      let first = p.first in
      let below : letter_size * k + j < (entries_of image).start = omega arith in
      let a = d₀ in
      let h = moved_trailer_lem image accepts years mark in
      ap (byte_at other) (omega arith) ∙ alphabet_byte image accepts years mark (letter_size * k + j) below ∙ ap (byte_at image) (omega arith)

  -- a record of a section after the contractions
  later_same : (n z z' k j : ℕ) → 2 ≤ n → n < 5 → z' ≡ z → z * k + j < distance image n
      → byte_at other (trailer_at other - distance other n + z' * k + j) ≡ byte_at image (trailer_at image - distance image n + z * k + j)
  later_same n z z' k j low high e below =
      let e₁ : z' * k ≡ z * k = ap (λ (x : ℕ). x * k) e in
      let e₂ = later_distance image accepts years mark n low high in
      ap (byte_at other) (omega arith) ∙ later_byte image accepts years mark (distance image n) (z * k + j) (reach n low high) below ∙ ap (byte_at image) (omega arith)
    where
      reach : (n : ℕ) → 2 ≤ n → n < 5 → distance image n ≤ distance image 2
      reach zero l u = absurd (omega arith)
      reach (suc zero) l u = absurd (omega arith)
      reach (suc (suc zero)) l u = omega arith
      reach (suc (suc (suc zero))) l u = p.fourth
      reach (suc (suc (suc (suc zero)))) l u = let a = p.fourth in let b = p.fifth in omega arith
      reach (suc (suc (suc (suc (suc n))))) l u = absurd (omega arith)

  contexts_same : (k j : ℕ) → k < s.contexts.records → j < context_size → record_byte other t.contexts k j ≡ record_byte image s.contexts k j
  unfolding record_byte offset sections_in section_at
  contexts_same k j l u =
      let whole = p.contexts.whole in
      let within = in_block context_size k ((distance image 2 - distance image 3) / context_size) j l u in
      later_same 2 context_size context_size k j (omega arith) (omega arith) refl (omega arith)

  transitions_same : (k j : ℕ) → k < s.transitions.records → j < s.classes
      → record_byte other t.transitions k j ≡ record_byte image s.transitions k j
  unfolding record_byte offset sections_in section_at
  transitions_same k j l u =
      let whole = p.transitions.whole in
      let within = in_block (classes_in image) k ((distance image 3 - distance image 4) / classes_in image) j l u in
      later_same 3 (classes_in image) (classes_in other) k j (omega arith) (omega arith) classes_kept (omega arith)

  columns_size : classes_in other + variables_in other ≡ classes_in image + variables_in image
  columns_size = rw (classes_kept, variables_kept)

  columns_same : (k j : ℕ) → k < s.decisions.records → j < s.classes + s.variables
      → record_byte other t.decisions k j ≡ record_byte image s.decisions k j
  unfolding record_byte offset sections_in last_section
  columns_same k j l u =
      let whole = p.decisions.whole in
      let within = in_block (classes_in image + variables_in image) k (distance image 4 / (classes_in image + variables_in image)) j l u in
      later_same 4 (classes_in image + variables_in image) (classes_in other + variables_in other) k j (omega arith) (omega arith) columns_size (omega arith)

  entries_same : (k j : ℕ) → k < s.contractions.records → j < entry_size
      → record_byte other t.contractions k j ≡ record_byte image s.contractions k j
  unfolding record_byte
  entries_same k j l u =
      let there : k < (entries_of image).records = rw located l in
      ap (λ (i : ℕ). byte_at other (i + j)) (entry_place k)
      ∙ entry_byte image accepts years mark k j there u
      ∙ ap (λ (x : Section). record_byte image x k j) located

  -- ---- The years

  years_moved : (k : ℕ) → k < (entries_of image).records
      → (first_year other t.contractions k ≡ earliest_year) × (last_year other t.contractions k ≡ latest_year)
  unfolding number_bytes number_at sections_in section_at
  years_moved k l = go form size_moved (λ j u. ap (λ (i : ℕ). byte_at other (i + (entry_size + j))) (entry_place k) ∙ year_byte image accepts years mark k j l u)
    where
      at : ℕ
      at = offset t.contractions k

      byte_at_lem : (i j : ℕ) → i ≡ j → byte_at other i ≡ byte_at other j
      byte_at_lem i j e = ap (byte_at other) e

      go : {ys : List ℕ} {m : ℕ} → Form ys m → entry_size_in other ≡ entry_size + length ys
          → ((j : ℕ) → j < length ys → byte_at other (offset t.contractions k + (entry_size + j)) ≡ get_or ys j 0)
          → (first_year other t.contractions k ≡ earliest_year) × (last_year other t.contractions k ≡ latest_year)
      go undated e byte = undated_years other t.contractions k (λ long. omega arith)
      go dated e byte =
          let stored = dated_years other t.contractions k e in
          let b₀ = byte 0 (omega arith) in
          let b₁ = byte 1 (omega arith) in
          let b₂ = byte 2 (omega arith) in
          let b₃ = byte 3 (omega arith) in
          let e₁ = byte_at_lem (at + first_year_byte + 1) (at + (entry_size + 1)) (omega arith) in
          let e₂ = byte_at_lem (at + last_year_byte) (at + (entry_size + 2)) (omega arith) in
          let e₃ = byte_at_lem (at + last_year_byte + 1) (at + (entry_size + 3)) (omega arith) in
          (stored.0 ∙ omega arith, stored.1 ∙ omega arith)

  located_moved : sections_of other ≡ t
  located_moved = sections_framed other ((frame_right_lem other).1 frame_moved)

  -- the contraction records of the moved image: they start where they did, there are as many, and each is as it was up to its signs
  pub start_moved : (entries_of (moved_image years mark image)).start ≡ (entries_of image).start
  start_moved = ap (λ (x : Sections). x.contractions.start) located_moved ∙ entries_start

  pub records_moved : (entries_of (moved_image years mark image)).records ≡ (entries_of image).records
  records_moved = ap (λ (x : Sections). x.contractions.records) located_moved ∙ entries_kept

  pub bytes_moved : (k j : ℕ) → k < (entries_of image).records → j < entry_size
      → record_byte (moved_image years mark image) (entries_of (moved_image years mark image)) k j ≡ record_byte image (entries_of image) k j
  bytes_moved k j l u =
      ap (λ (x : Sections). record_byte other x.contractions k j) located_moved
      ∙ entries_same k j (rw (← located) l) u
      ∙ ap (λ (x : Section). record_byte image x k j) (sym located)

  -- no record of the moved image is dated
  pub none_dated_moved : first_dated (moved_image years mark image) ≡ none
  unfolding first_dated_of is_always
  none_dated_moved =
      ap (λ (x : Sections). first_dated_of other x.contractions) located_moved
      ∙ first_is_not (λ k. not (is_always other t.contractions k)) 0 t.contractions.records
      (λ k low high.
      let many = entries_kept in
      let y = years_moved k (omega arith) in
      rw ((tells_eq (first_year other t.contractions k) earliest_year).1 y.0, (tells_eq (last_year other t.contractions k) latest_year).1 y.1))

  -- ---- The same records, the same table

  module _ (none_dated : first_dated image ≡ none) where
    same_records : SameRecords image s other t
    unfolding sections_in section_at last_section
    same_records =
        record {
          classes = classes_kept;
          variables = variables_kept;
          letters = ap (λ (n : ℕ). n / letter_size) alphabet_long;
          entries = entries_kept ∙ ap (λ (x : Section). x.records) located;
          contexts = rw (d₂, d₃);
          transitions = rw (d₃, d₄, classes_kept);
          columns = rw (d₄, columns_size);
          letter_bytes = letters_same;
          entry_bytes = entries_same;
          context_bytes = contexts_same;
          transition_bytes = transitions_same;
          column_bytes = columns_same;
          first_years = λ k l. (years_moved k (rw located l)).0 ∙ sym (years_were k l).0;
          last_years = λ k l. (years_moved k (rw located l)).1 ∙ sym (years_were k l).1;
        }
      where
        years_were : (k : ℕ) → k < s.contractions.records
            → (first_year image s.contractions k ≡ earliest_year) × (last_year image s.contractions k ≡ latest_year)
        years_were k l =
            subst (λ (x : Section). (first_year image x k ≡ earliest_year) × (last_year image x k ≡ latest_year)) located
            (years_always image none_dated k (rw located l))

    table_same : table_in other t ≡ table_in image s
    table_same =
        same_table same_records
        (subst (SectionsLaid image) (accepted_located image accepts) (sections_laid image ((frame_right_lem image).1 f)))
        ((accepted image).0 accepts).1
        (subst (SectionsLaid other) located_moved (sections_laid other ((frame_right_lem other).1 frame_moved)))

    pub moved_accepted : verdict_of (moved_image years mark image) ≡ Ok tt
    moved_accepted =
        let h = (accepted image).0 accepts in
        (accepted other).1 (
          frame_moved,
          right_records same_records h.1,
          in_alphabet same_records h.2,
          subst (λ (x : Table). Grouped (strings x)) (sym table_same) h.3,
        )

    pub moved_table : table_of (moved_image years mark image) ≡ table_of image
    unfolding table_of
    moved_table = ap (table_in other) located_moved ∙ table_same ∙ sym (ap (table_in image) (accepted_located image accepts))
