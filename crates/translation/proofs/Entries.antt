-- An entry of an opened image, read where it lies: its string and its signs are whole, and its right context holds just where the bytes say so.
use Prim.Native.Nat.{ℕ, pred, ◌-◌, ◌<◌}
use mathlib.Core.Bool.{true, false}
use mathlib.Core.List.{List, []}
use mathlib.Core.Logic.{◌≢◌}
use mathlib.Core.Path.{◌≡◌, refl, sym, ◌∙◌, ap}
use native.Mathlib.Numerals.{sub-one}
use native.Mathlib.Omega.{arith}
use lib.ListN.{length, get_or}
use borrow.Author.Tests.{eq-eqb, ne_eqb}
use Rattle.table.specs.Numbers.{length_byte, string_byte, context_byte, signs_byte, entry_signs, no_context, context_size}
use Rattle.table.specs.Search.{first, member}
use Rattle.table.specs.Records.{section_named}
use Rattle.table.specs.Sections.{record_byte, part_within}
use Rattle.table.specs.Refusals.{RightEntry}
use Rattle.table.specs.Table.{table_in, entry_at}
use Rattle.table.specs.declared.SectionName.TheVariants.{Contractions}
use Rattle.table.specs.declared.Sections.{Sections}
use Rattle.table.proofs.Reading.{contexts_long, entries_long, part_long, part_within_lem, part_at, entry_at_lem, string_inside, signs_inside, context_within}
use Rattle.table.proofs.Search.{first_same}
use Rattle.table.proofs.Sound.{sound_entry}
use Rattle.translation.specs.Decide.{States}
use Rattle.translation.specs.Choose.{class_after, context_holds, admissible, no_entry, choice}
use Rattle.translation.specs.inside.Opened.{Opened}
use Rattle.translation.specs.declared.Setting.{Setting}
use Rattle.translation.proofs.Rests.{begins_differs}

module _ (image : List ℕ) (s : Sections) (opened : Opened image s) (k : ℕ) (there : k < s.contractions.records) where
  abbrev byte : ℕ → ℕ
  byte j = record_byte image s.contractions k j

  right : RightEntry image s k
  unfolding section_named
  right = opened.right Contractions k there

  string_long : length (entry_at image s k).string ≡ byte length_byte
  unfolding entry_at
  string_long = part_long image s.contractions k string_byte (byte length_byte) (string_inside image s opened.laid opened.right k there)

  pub string_read : part_within image s.contractions k string_byte (byte length_byte) ≡ (entry_at image s k).string
  unfolding entry_at
  string_read =
      part_within_lem image s.contractions k string_byte (byte length_byte) (string_inside image s opened.laid opened.right k there)

  pub signs_read : part_within image s.contractions k signs_byte entry_signs ≡ (entry_at image s k).signs
  unfolding entry_at
  signs_read =
      part_within_lem image s.contractions k signs_byte entry_signs (signs_inside image s opened.laid opened.right k there)

  -- ---- The right context

  pub no_context_holds : (setting : Setting) (rest : List ℕ) → byte context_byte ≡ no_context
      → context_holds (table_in image s) setting rest (entry_at image s k) ≡ true
  unfolding context_holds entry_at
  no_context_holds setting rest e = rw (eq-eqb (byte context_byte) no_context e)

  context_there : byte context_byte ≢ no_context → pred (byte context_byte) < s.contexts.records
  unfolding entry_at
  context_there n =
      let exists = (sound_entry image s opened.laid opened.right k there).context_exists in
      omega (arith, contexts_long image s)

  context_is : (entry_at image s k).context ≡ byte context_byte
  unfolding entry_at
  context_is = refl

  pub context_holds_by : (setting : Setting) (rest : List ℕ) → byte context_byte ≢ no_context
      → context_holds (table_in image s) setting rest (entry_at image s k)
      ≡ member (class_after (table_in image s) setting rest (byte length_byte)) (part_within image s.contexts (byte context_byte - 1) 0 context_size)
  unfolding context_holds
  context_holds_by setting rest n =
      rw (
        context_is,
        ne_eqb (byte context_byte) no_context n,
        string_long,
        sub-one,
        context_within image s opened.laid opened.right (pred (byte context_byte)) [] (context_there n),
      )

  -- ---- Admissible

  -- an entry whose first character is another than the rest's is passed over
  pub first_differs : (setting : Setting) (states : States) (rest : List ℕ) → 0 < length rest → byte string_byte ≢ get_or rest 0 0
      → admissible (table_in image s) setting states rest (entry_at image s k) ≡ false
  unfolding admissible entry_at
  first_differs setting states rest some n =
      let long = string_long in
      let least = right.length_right.low in
      let inside = string_inside image s opened.laid opened.right k there in
      let first_is = part_at image s.contractions k string_byte (byte length_byte) inside 0 0 (omega arith) in
      rw (begins_differs (entry_at image s k).string rest (omega arith) some (λ e. n (sym first_is ∙ e)))

-- the first admissible entry is the first of those that are read
pub choice_read : (image : List ℕ) (s : Sections) (setting : Setting) (states : States) (rest : List ℕ)
    → choice (table_in image s) setting states rest
    ≡ first (λ k. admissible (table_in image s) setting states rest (entry_at image s k)) s.contractions.records
unfolding choice
choice_read image s setting states rest =
    rw (entries_long image s)
    (first_same _ _ s.contractions.records
    (λ k l. ap (admissible (table_in image s) setting states rest) (entry_at_lem image s k no_entry l)))
