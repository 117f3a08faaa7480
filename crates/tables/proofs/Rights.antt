-- Each record of an accepted image is one that a line can say: as long as the fields of its line, and each byte one that its field has. A string's characters
-- are symbols of the alphabet, and the bytes of rows are letters and hyphens, so all of them are symbols.
use Prim.Native.Nat.{ℕ, suc, ◌+◌, ◌≤◌, ◌<◌}
use mathlib.Core.Bool.{Bool, true, false, cond}
use mathlib.Core.List.{List, [], ◌∷◌}
use mathlib.Core.Logic.{inl, inr}
use mathlib.Core.Path.{◌≡◌, refl, sym, ◌∙◌, ap, subst}
use native.Mathlib.Nat.{zero-add}
use native.Mathlib.Omega.{arith}
use borrow.Author.Tests.{eqb-true, eqb-false}
use lib.Dec.{eqb}
use lib.ListN.{length, get_or}
use Rattle.table.specs.Numbers.{least_symbol, most_symbol, entry_size, dated_entry_size, string_byte, length_byte}
use Rattle.table.specs.Sections.{byte_at, bytes_from, entry_size_in, sections_of, offset, record_byte, record_part}
use Rattle.table.specs.Records.{section_named}
use Rattle.table.specs.declared.SectionName.TheVariants.{Alphabet as alphabet, Contractions as contractions, Transitions as transitions, Decisions as decisions}
use Rattle.table.specs.Refusals.{Between, InAlphabet, RightEntry, RightDecision, IsTransition, IsDecision, IsCondition}
use Rattle.table.specs.Verdict.{verdict_of}
use Rattle.table.specs.declared.Section.{Section}
use Rattle.table.specs.declared.Sections.{Sections}
use Rattle.std.specs.Prelude.{Ok}
use Rattle.table.proofs.Lists.{all_take, all_drop}
use Rattle.table.proofs.Forms.{entry_long}
use Rattle.table.proofs.Reading.{part_long, part_at, accepted_laid, accepted_right}
use Rattle.form.specs.Numbers.{most_byte}
use Rattle.form.specs.Fields.{fields_of, sizes_of}
use Rattle.form.specs.Showing.{head_of}
use Rattle.tables.specs.inside.Writing.{Writable, WritableRow, WritableString, WritableTail}
use Rattle.form.specs.declared.Draft.{Draft}
use Rattle.form.specs.declared.Field.TheVariants.{Row, String, Classed, Shift, Tail}
use Rattle.form.specs.declared.Keyword.{Keyword}
use Rattle.form.specs.declared.Keyword.TheVariants.{Letter, Entry, Context, Transition, Decision}
use Rattle.tables.proofs.Joined.{Bytes, byte_below, record_at, marked}

-- a record that a line can say
pub record Written (d : Draft) (k : Keyword) (bytes : List ℕ) : Type 0 where
  pub size : length bytes ≡ sizes_of (fields_of d k)
  pub writable : Writable (fields_of d k) bytes 0

-- ---- The bytes of a record that lies within the image

module _ (image : List ℕ) (section : Section) (k : ℕ) (inside : offset section k + section.size ≤ length image) where
  long : length (record_at image section k) ≡ section.size
  long = part_long image section k 0 section.size (omega arith)

  at : (j : ℕ) → j < section.size → get_or (record_at image section k) j 0 ≡ record_byte image section k j
  at j l = part_at image section k 0 section.size (omega arith) j 0 l ∙ ap (record_byte image section k) (zero-add j)

byte : (image : List ℕ) → Bytes image → (section : Section) (k j : ℕ) → get_or (record_at image section k) j 0 ≤ most_byte
unfolding record_part bytes_from byte_at
byte image bytes section k j =
    let below = byte_below (record_at image section k) (all_take section.size (all_drop (offset section k + 0) bytes)) j in
    omega arith

-- ---- Bytes of rows

abbrev IsSymbol : ℕ → Type 0
IsSymbol b = Between least_symbol most_symbol b

transition_symbol : {b : ℕ} → IsTransition b → IsSymbol b
transition_symbol (inl e) = record { low = omega arith; high = omega arith }
transition_symbol (inr (inl e)) = record { low = omega arith; high = omega arith }
transition_symbol (inr (inr (inl e))) = record { low = omega arith; high = omega arith }
transition_symbol (inr (inr (inr e))) = record { low = omega arith; high = omega arith }

condition_symbol : {b : ℕ} → IsCondition b → IsSymbol b
condition_symbol (inl e) = record { low = omega arith; high = omega arith }
condition_symbol (inr (inl e)) = record { low = omega arith; high = omega arith }
condition_symbol (inr (inr e)) = record { low = omega arith; high = omega arith }

decision_symbol : {b : ℕ} → IsDecision b → IsSymbol b
decision_symbol (inl e) = record { low = omega arith; high = omega arith }
decision_symbol (inr (inl e)) = record { low = omega arith; high = omega arith }
decision_symbol (inr (inr h)) = condition_symbol h

-- ---- The records of an accepted image

entry_sizes : (dated : Bool) → sizes_of (String ∷ Classed ∷ Shift ∷ Tail dated ∷ []) ≡ cond dated dated_entry_size entry_size
unfolding sizes_of
entry_sizes true = refl
entry_sizes false = refl

module _ (image : List ℕ) (accepts : verdict_of image ≡ Ok tt) (bytes : Bytes image) where
  abbrev s : Sections
  s = sections_of image

  any : (section : Section) (k j : ℕ) → Between 0 most_byte (get_or (record_at image section k) j 0)
  any section k j = record { low = omega arith; high = byte image bytes section k j }

  pub letter_written : (k : ℕ) → k < (sections_of image).alphabet.records
      → Written (head_of (sections_of image)) Letter (record_at image (sections_of image).alphabet k)
  unfolding head_of fields_of sizes_of section_named
  letter_written k l =
      let laid = (accepted_laid image accepts).alphabet_laid in
      let inside : offset s.alphabet k + s.alphabet.size ≤ length image = let h = laid.lies k l in let e = laid.size_is in omega arith in
      let size = laid.size_is in
      let first = at image s.alphabet k inside 0 (omega arith) in
      let right = accepted_right image accepts alphabet k l in
      record {
        size = long image s.alphabet k inside ∙ laid.size_is;
        writable = (rw first right.symbol_right, (any s.alphabet k 1, (any s.alphabet k 2, tt)));
      }

  pub entry_written : (k : ℕ) → k < (sections_of image).contractions.records
      → Written (head_of (sections_of image)) Entry (record_at image (sections_of image).contractions k)
  unfolding head_of fields_of section_named
  entry_written k l =
      record {
        size = long image entries k inside ∙ (marked image accepts).entry_size_lem ∙ sym (entry_sizes (eqb entries.size dated_entry_size));
        writable = (string, (record { context = ≤byte 11; class = ≤byte 12 }, (≤byte 13, (tail, tt))));
      }
    where
      entries : Section
      entries = s.contractions

      rec : List ℕ
      rec = record_at image entries k

      size : entries.size ≡ entry_size_in image
      size = (accepted_laid image accepts).contractions_laid.size_is

      inside : offset entries k + entries.size ≤ length image
      inside = let h = (accepted_laid image accepts).contractions_laid.lies k l in let e = size in omega arith

      there : (j : ℕ) → j < entry_size → get_or rec j 0 ≡ record_byte image entries k j
      there j u = let e = size in let h = entry_long image in at image entries k inside j (omega arith)

      ≤byte : (j : ℕ) → get_or rec j 0 ≤ most_byte
      ≤byte j = byte image bytes entries k j

      right : RightEntry image s k
      right = accepted_right image accepts contractions k l

      symbol : {c : ℕ} → InAlphabet image s c → IsSymbol c
      symbol h = subst IsSymbol h.symbol (accepted_right image accepts alphabet h.letter h.there).symbol_right

      len : get_or rec 0 0 ≡ record_byte image entries k length_byte
      len = there 0 (omega arith)

      string : WritableString rec 0
      string =
          let short = right.length_right.high in
          record {
            length = rw len right.length_right;
            symbols =
                λ i u.
                let v : i < record_byte image entries k length_byte = rw len at u in
                subst IsSymbol (sym (there (string_byte + i) (omega arith))) (symbol (right.characters_known i v));
            padded = λ i u v. there (string_byte + i) (omega arith) ∙ right.past_length i (rw len at u) v;
          }

      tail : WritableTail (eqb entries.size dated_entry_size) rec 14
      tail =
          record {
            signs = λ i u. ≤byte (14 + i);
            missing = λ i u e. there (14 + suc i) (omega arith) ∙ right.nothing_after i (suc i) (omega arith) u (sym (there (14 + i) (omega arith)) ∙ e);
            years = λ e i u. ≤byte (14 + 4 + i);
          }

  pub context_written : (k : ℕ) → k < (sections_of image).contexts.records
      → Written (head_of (sections_of image)) Context (record_at image (sections_of image).contexts k)
  unfolding head_of fields_of sizes_of
  context_written k l =
      let laid = (accepted_laid image accepts).contexts_laid in
      let inside : offset s.contexts k + s.contexts.size ≤ length image = let h = laid.lies k l in let e = laid.size_is in omega arith in
      let each = any s.contexts k in
      record { size = long image s.contexts k inside ∙ laid.size_is; writable = (each 0, (each 1, (each 2, (each 3, tt)))) }

  pub transition_written : (k : ℕ) → k < (sections_of image).transitions.records
      → Written (head_of (sections_of image)) Transition (record_at image (sections_of image).transitions k)
  unfolding head_of fields_of sizes_of section_named
  transition_written k l =
      let laid = (accepted_laid image accepts).transitions_laid in
      let size = laid.size_is in
      let inside : offset s.transitions k + s.transitions.size ≤ length image = let h = laid.lies k l in omega arith in
      let right = accepted_right image accepts transitions k l in
      record {
        size = long image s.transitions k inside ∙ omega arith;
        writable = (
          record {
            some = (accepted_laid image accepts).classes_right.low;
            symbols =
                λ i u.
                let there = ap (λ (j : ℕ). get_or (record_at image s.transitions k) j 0) (zero-add i) ∙ at image s.transitions k inside i (omega arith) in
                transition_symbol (subst IsTransition (sym there) (right.bytes_right i u));
          },
          tt,
        );
      }

  pub decision_written : (k : ℕ) → k < (sections_of image).decisions.records
      → Written (head_of (sections_of image)) Decision (record_at image (sections_of image).decisions k)
  unfolding head_of fields_of sizes_of section_named
  decision_written k l = let h = go (eqb s.variables 0) refl in record { size = h.0; writable = h.1 }
    where
      rec : List ℕ
      rec = record_at image s.decisions k

      size : s.decisions.size ≡ s.classes + s.variables
      size = (accepted_laid image accepts).decisions_laid.size_is

      inside : offset s.decisions k + s.decisions.size ≤ length image
      inside = let h = (accepted_laid image accepts).decisions_laid.lies k l in let e = size in omega arith

      right : RightDecision image s k
      right = accepted_right image accepts decisions k l

      by_class_lem : WritableRow s.classes rec 0
      by_class_lem =
          record {
            some = (accepted_laid image accepts).classes_right.low;
            symbols =
                λ i u.
                let e = size in
                let there = ap (λ (j : ℕ). get_or rec j 0) (zero-add i) ∙ at image s.decisions k inside i (omega arith) in
                decision_symbol (subst IsDecision (sym there) (right.bytes_right i u));
          }

      by_variable : 1 ≤ s.variables → WritableRow s.variables rec s.classes
      by_variable h =
          record {
            some = h;
            symbols =
                λ i u.
                let e = size in
                condition_symbol (subst IsCondition (sym (at image s.decisions k inside (s.classes + i) (omega arith))) (right.conditions_right i u));
          }

      go : (none : Bool) → eqb s.variables 0 ≡ none
          → (length rec ≡ sizes_of (Row s.classes ∷ cond none [] (Row s.variables ∷ [])))
          × Writable (Row s.classes ∷ cond none [] (Row s.variables ∷ [])) rec 0
      go true e = let n : s.variables ≡ 0 = eqb-true _ _ e in let z = size in (long image s.decisions k inside ∙ omega arith, (by_class_lem, tt))
      go false e =
          let n : s.variables ≡ 0 → ⊥ = eqb-false _ _ e in
          let z = size in
          let at_classes : 0 + s.classes ≡ s.classes = zero-add _ in
          (long image s.decisions k inside ∙ omega arith, (by_class_lem, (rw at_classes (by_variable (omega arith)), tt)))
