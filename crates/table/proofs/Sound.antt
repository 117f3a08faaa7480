-- The table of every accepted image is sound: the conditions of right records, said of the table's lists alone. The idea: each element is its record as it is
-- read, and each byte of a part is the byte of the record. And a table in the old form is always in force.
use Prim.Native.Nat.{ℕ, ◌+◌, ◌≤◌, ◌<◌}
use mathlib.Core.Bool.{false}
use mathlib.Core.List.{List}
use mathlib.Core.Logic.{inl, inr}
use mathlib.Core.Path.{◌≡◌, sym, ◌∙◌, ap, subst}
use native.Mathlib.Nat.{zero-add}
use native.Mathlib.Omega.{arith}
use lib.ListN.{length, get_or}
use Rattle.table.specs.Search.{list_of}
use Rattle.table.specs.Sections.{is_dated, sections_of, offset, record_byte, record_part}
use Rattle.table.specs.Numbers.{string_byte, signs_byte, entry_signs, context_size, blank}
use Rattle.table.specs.Records.{alphabet, contractions, contexts, transitions, decisions, section_named}
use Rattle.table.specs.Refusals.{IsClass, IsEntrySign, IsTransition, IsDecision, IsCondition, ContextExists, symbol_of, InAlphabet, RecordsRight}
use Rattle.table.specs.Table.{Letter, letter_at, entry_at, context_at, transition_at, column_at, table_in, table_of}
use Rattle.table.specs.Refusals.{HasLetter}
use Rattle.table.specs.Grouped.{Grouped}
use Rattle.table.specs.Verdict.{strings, verdict_of}
use Rattle.table.specs.Laid.{SectionsLaid}
use Rattle.table.specs.Sound.{EachOf, SoundLetter, SoundEntry, Always, SoundContext, SoundTransition, SoundColumn, Sound}
use Rattle.table.specs.declared.Section.{Section}
use Rattle.table.specs.declared.Sections.{Sections}
use Rattle.std.specs.Prelude.{Ok}
use Rattle.table.proofs.Lists.{length_list_of, get_or_list_of}
use Rattle.table.proofs.Forms.{undated_years}
use Rattle.table.proofs.Frame.{undated_section}
use Rattle.table.proofs.Refusals.{accepted}
use Rattle.table.proofs.Reading.{
  letters_long,
  entries_long,
  contexts_long,
  transitions_long,
  columns_long,
  letter_at_lem,
  part_long,
  part_at,
  string_length,
  string_inside,
  signs_inside,
  context_inside,
  transition_inside,
  classes_inside,
  variables_inside,
  accepted_located,
  accepted_laid,
  accepted_right,
}

-- ---- Elements

-- what holds of each record holds of each element
each_of_list : {A : Type 0} (Right : A → Type 0) (f : ℕ → A) (n : ℕ) → ((k : ℕ) → k < n → Right (f k)) → EachOf Right (list_of f n)
each_of_list Right f n h k d l = let u : k < n = rw (length_list_of f n) at l in subst Right (sym (get_or_list_of f n k d u)) (h k u)

-- what holds of each byte of a part holds of each element
each_of_part : (image : List ℕ) (section : Section) (k j n : ℕ) → offset section k + j + n ≤ length image → (Right : ℕ → Type 0)
    → ((i : ℕ) → i < n → Right (record_byte image section k (j + i))) → EachOf Right (record_part image section k j n)
each_of_part image section k j n inside Right h i d l =
    let u : i < n = rw (part_long image section k j n inside) at l in
    subst Right (sym (part_at image section k j n inside i d u)) (h i u)

-- ---- The table of an image whose sections are laid and whose records are right

module _ (image : List ℕ) (s : Sections) (laid : SectionsLaid image s) (right : RecordsRight image s) where
  symbol_at : (k : ℕ) (d : Letter) → k < s.alphabet.records → (get_or (table_in image s).letters k d).symbol ≡ symbol_of image s k
  unfolding letter_at
  symbol_at k d l = ap (λ (x : Letter). x.symbol) (letter_at_lem image s k d l)

  has_letter : {c : ℕ} → InAlphabet image s c → HasLetter (table_in image s).letters c
  has_letter h =
      record { at = h.letter; there = rw (letters_long image s) h.there; same = λ d. symbol_at h.letter d h.there ∙ h.symbol }

  symbols_differ : (j k : ℕ) (d : Letter) → j < k → k < length (table_in image s).letters
      → (get_or (table_in image s).letters j d).symbol ≡ (get_or (table_in image s).letters k d).symbol → ⊥
  unfolding section_named
  symbols_differ j k d u l e =
      let v : k < s.alphabet.records = rw (letters_long image s) at l in
      (right alphabet k v).new j u (sym (symbol_at j d (omega arith)) ∙ e ∙ symbol_at k d v)

  sound_letter : (k : ℕ) → k < s.alphabet.records → SoundLetter s.classes (letter_at image s k)
  unfolding letter_at section_named
  sound_letter k l =
      let r = right alphabet k l in
      record { symbol_right = r.symbol_right; no_bar = r.no_bar; class_right = r.class_right; sign_right = r.sign_right }

  context_counted : (c : ℕ) → ContextExists s c → c ≤ s.contexts.records
  context_counted c (inl e) = omega arith
  context_counted c (inr h) = omega arith

  pub sound_entry : (k : ℕ) → k < s.contractions.records
      → SoundEntry s.classes (length (table_in image s).contexts) (table_in image s).letters (entry_at image s k)
  unfolding entry_at section_named
  sound_entry k l =
      let r = right contractions k l in
      let len = string_length image s k in
      let string = string_inside image s laid right k l in
      let signs = signs_inside image s laid right k l in
      let long = part_long image s.contractions k string_byte len string in
      let sign_at = part_at image s.contractions k signs_byte entry_signs signs in
      record {
        length_right = rw long r.length_right;
        characters_known =
            each_of_part image s.contractions k string_byte len string (HasLetter (table_in image s).letters)
            (λ i u. has_letter (r.characters_known i u));
        context_exists = rw (contexts_long image s) (context_counted _ r.context_exists);
        ten_alone = rw long r.ten_alone;
        class_right = r.class_right;
        shift_right = rw long r.shift_right;
        four_signs = part_long image s.contractions k signs_byte entry_signs signs;
        signs_right = each_of_part image s.contractions k signs_byte entry_signs signs IsEntrySign r.signs_right;
        nothing_after = λ i j d u v e. sign_at j d v ∙ r.nothing_after i j u v (sym (sign_at i d (omega arith)) ∙ e);
        years_right = r.years_right;
      }

  pub sound_entries : EachOf (SoundEntry s.classes (length (table_in image s).contexts) (table_in image s).letters) (table_in image s).entries
  unfolding table_in
  sound_entries = each_of_list (SoundEntry s.classes _ _) (entry_at image s) _ sound_entry

  sound_context : (k : ℕ) → k < s.contexts.records → SoundContext s.classes (context_at image s k)
  unfolding context_at section_named
  sound_context k l =
      record {
        four_classes = part_long image s.contexts k 0 context_size (context_inside image s laid right k l);
        classes_right =
            each_of_part image s.contexts k 0 context_size (context_inside image s laid right k l) (IsClass s)
            (λ i u. rw (zero-add i) ((right contexts k l).classes_right i u));
      }

  sound_transition : (k : ℕ) → k < s.transitions.records → SoundTransition s.classes (transition_at image s k)
  unfolding transition_at section_named
  sound_transition k l =
      record {
        by_class_lem = part_long image s.transitions k 0 s.classes (transition_inside image s laid right k l);
        bytes_right =
            each_of_part image s.transitions k 0 s.classes (transition_inside image s laid right k l) IsTransition
            (λ i u. rw (zero-add i) ((right transitions k l).bytes_right i u));
      }

  pub sound_column : (k : ℕ) → k < s.decisions.records → SoundColumn s.classes s.variables (column_at image s k)
  unfolding column_at section_named
  sound_column k l =
      record {
        by_class_lem = part_long image s.decisions k 0 s.classes (classes_inside image s laid right k l);
        by_variable = part_long image s.decisions k s.classes s.variables (variables_inside image s laid right k l);
        bytes_right =
            each_of_part image s.decisions k 0 s.classes (classes_inside image s laid right k l) IsDecision
            (λ i u. rw (zero-add i) ((right decisions k l).bytes_right i u));
        conditions_right =
            each_of_part image s.decisions k s.classes s.variables (variables_inside image s laid right k l) IsCondition
            (right decisions k l).conditions_right;
      }

  sound : InAlphabet image s blank → Grouped (strings (table_in image s)) → Sound s.classes s.variables (table_in image s)
  unfolding table_in letter_at section_named
  sound known grouped =
      let both = laid.transitions_laid.number_right in
      let many = transitions_long image s in
      record {
        classes_right = laid.classes_right;
        variables_right = laid.variables_right;
        letters_number = rw (letters_long image s) laid.alphabet_laid.number_right;
        entries_number = rw (entries_long image s) laid.contractions_laid.number_right.high;
        contexts_number = rw (contexts_long image s) laid.contexts_laid.number_right.high;
        transitions_number = omega arith;
        columns_number = rw (columns_long image s) laid.decisions_laid.number_right.high;
        letters_right = each_of_list (SoundLetter s.classes) (letter_at image s) _ sound_letter;
        symbols_differ = symbols_differ;
        blank_known = has_letter known;
        entries_right = sound_entries;
        contexts_right = each_of_list (SoundContext s.classes) (context_at image s) _ sound_context;
        transitions_right = each_of_list (SoundTransition s.classes) (transition_at image s) _ sound_transition;
        columns_right = each_of_list (SoundColumn s.classes s.variables) (column_at image s) _ sound_column;
        grouped = grouped;
      }

-- ---- The table of an accepted image

pub accepted_sound : (image : List ℕ) → verdict_of image ≡ (Ok tt) → Sound (sections_of image).classes (sections_of image).variables (table_of image)
unfolding table_of
accepted_sound image accepts =
    let h = (accepted image).0 accepts in
    let located = accepted_located image accepts in
    sound image (sections_of image) (accepted_laid image accepts) (accepted_right image accepts) (rw located h.2) (rw located h.3)

-- ---- A table in the old form counts as always in force

pub old_form_always : (image : List ℕ) → is_dated image ≡ false → EachOf Always (table_of image).entries
unfolding table_of table_in entry_at
old_form_always image old =
    let s = sections_of image in
    each_of_list Always (entry_at image s) _
    (λ k l.
    let years = undated_years image s.contractions k (undated_section image old) in
    record { first_is = years.0; last_is = years.1 })
