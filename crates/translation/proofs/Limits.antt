-- What 'Cells', 'Translation' and 'What comes back' say in numerals of the text and of what it prints, with the paper's numerals written out: the longest
-- text, the sign that means blank, and the blank that follows the text. No name of a Numbers.antt stands here, so a number that is mistyped there and
-- in the code alike is refused here.
use Prim.Native.Nat.{ℕ, ◌≤◌, ◌<◌}
use mathlib.Core.Bool.{Bool, true, false}
use mathlib.Core.List.{List, [], ◌∷◌, map}
use mathlib.Core.Logic.{◌↔◌}
use mathlib.Core.Option.{Option, none, some}
use mathlib.Core.Path.{◌≡◌, refl, sym, ◌∙◌, ap}
use native.Mathlib.Decide.{dec_le}
use native.Mathlib.Omega.{arith}
use lib.ListN.{length}
use Rattle.table.specs.Table.{Table, Entry}
use Rattle.table.specs.Example.{ascii, a_letter, an_entry, a_column}
use Rattle.table.specs.Answers.{refusal_number}
use Rattle.table.specs.declared.Refusal.TheVariants.{LongText}
use Rattle.translation.specs.Letters.{is_known, first_unknown}
use Rattle.translation.specs.Choose.{admissible}
use Rattle.translation.specs.Pieces.{printed}
use Rattle.translation.specs.Translate.{Result, made, refused, translate_by}
use Rattle.translation.specs.inside.Computing.{computing}
use Rattle.translation.specs.declared.Setting.{Setting}
use Rattle.translation.proofs.Outcomes.{too_long, unknown_at, following_refused, made_by}

-- ---- The longest text

number_of : Result → ℕ
number_of (made ps) = 0
number_of (refused r) = refusal_number r

module _ (table : Table) (setting : Setting) (text : List ℕ) where
  -- a text of 16,384 bytes or less comes to pieces, or to refusal 7 or 15
  not_long : length text ≤ 16384 → translate_by table setting text ≡ refused LongText → ⊥
  unfolding number_of
  not_long l e = go (first_unknown table.letters text) refl
    where
      known : first_unknown table.letters text ≡ none → (b : Bool) → is_known table.letters setting.following ≡ b → ⊥
      known f true k = let z : ◌≡◌ {A = ℕ} 0 6 = ap number_of (sym (made_by table setting text l f k) ∙ e) in omega arith
      known f false k = let z : ◌≡◌ {A = ℕ} 15 6 = ap number_of (sym (following_refused table setting text l f k) ∙ e) in omega arith

      go : (o : Option ℕ) → first_unknown table.letters text ≡ o → ⊥
      go none f = known f (is_known table.letters setting.following) refl
      go (some i) f = let z : ◌≡◌ {A = ℕ} 7 6 = ap number_of (sym (unknown_at table setting text i l f) ∙ e) in omega arith

  long_exactly_when : (translate_by table setting text ≡ refused LongText) ↔ (16384 < length text)
  long_exactly_when = (λ e. go e (dec_le (length text) 16384), too_long table setting text)
    where
      go : translate_by table setting text ≡ refused LongText → Dec (length text ≤ 16384) → 16384 < length text
      go e (yes l) = absurd (not_long l e)
      go e (no n) = omega arith

-- ---- The blank that follows the text

-- `A` is contracted before a character of class 2 alone, and no letter but the blank has it
before_blank : Entry
before_blank = an_entry "A" 1 1 1 (3 ∷ 99 ∷ 99 ∷ 99 ∷ [])

only_blank : Table
only_blank =
    record {
      letters = a_letter " " 2 0 ∷ a_letter "A" 1 1 ∷ a_letter "." 1 50 ∷ [];
      entries = before_blank ∷ [];
      contexts = (2 ∷ 2 ∷ 2 ∷ 2 ∷ []) ∷ [];
      transitions = [];
      decisions = a_column "GG" "" ∷ [];
    }

follows : ℕ → Setting
follows c = record { following = c; year = 65535 }

-- ---- The limits

record LimitsAsWritten : Type 0 where
  -- 6: text over 16,384 bytes; its number and place are in the table's Limits.antt
  text_limit : (table : Table) (setting : Setting) (text : List ℕ) → (translate_by table setting text ≡ refused LongText) ↔ (16384 < length text)
  -- both 0 and 64 mean blank, and 63 doesn't; 99 is no cell
  blank_signs : printed (0 ∷ 1 ∷ 62 ∷ 63 ∷ 64 ∷ 70 ∷ 73 ∷ 99 ∷ []) ≡ 0 ∷ 1 ∷ 62 ∷ 63 ∷ 0 ∷ 70 ∷ 73 ∷ []
  -- past the end of text, the blank's class: at the end of the text the entry is admissible where 32 follows, and where another does not
  end_of_text :
      map (λ (u : Setting). admissible only_blank u [] (ascii "A") before_blank)
      (follows 32 ∷ follows 65 ∷ follows 46 ∷ [])
      ≡ true ∷ false ∷ false ∷ []

limits_as_written : LimitsAsWritten
unfolding computing before_blank only_blank follows
limits_as_written = record { text_limit = long_exactly_when; blank_signs = refl; end_of_text = refl }
