-- What follows the end of the text, over the whole call. With a blank following it answers as it did when the end of a text counted as a blank, in every year
-- and by every table; and never with 15, whatever the table is. Two symbols of one class give one answer and output, and so do any two where no
-- entry has a right context, unless 15 is the answer to one of them.
use Prim.Native.Nat.{ℕ, ◌≤◌, ◌<◌}
use mathlib.Core.Bool.{true, false}
use mathlib.Core.List.{List}
use mathlib.Core.Option.{Option, none, some}
use mathlib.Core.Path.{◌≡◌, refl, sym, ◌∙◌, ap}
use native.Mathlib.Decide.{dec_le}
use native.Mathlib.Omega.{arith}
use lib.ListN.{length}
use borrow.Author.Tests.{le-leb, lt-leb}
use Rattle.table.specs.Numbers.{blank, number_following, most_text, latest_year}
use Rattle.table.specs.Sections.{is_dated}
use Rattle.table.specs.Refusals.{table_lines, Line as TableLine, line_1, line_2, line_11, line_12, line_13, line_14, line_3, line_4}
use Rattle.table.proofs.Refusals.{accepted_exactly_when, within_table}
use Rattle.layout.specs.Refusals.{Line, of_table, line_5, line_6, line_7, line_15, line_8}
use Rattle.layout.proofs.Refusals.{refused_exactly_when}
use Rattle.table.specs.Table.{table_of}
use Rattle.table.specs.Verdict.{verdict_of}
use Rattle.table.specs.Answers.{Verdict}
use Rattle.std.specs.Prelude.{Ok, Err}
use Rattle.table.proofs.Sound.{accepted_sound}
use Rattle.translation.specs.Letters.{class_of, is_known, first_unknown}
use Rattle.translation.specs.Pieces.{pieces_of}
use Rattle.translation.specs.Refusals.{FollowingUnknown}
use Rattle.translation.specs.Translate.{Result, translate_by, translate_on}
use Rattle.translation.specs.declared.Setting.{Setting}
use Rattle.translation.proofs.Refusals.{known_exactly_when}
use Rattle.translation.proofs.Outcomes.{too_long, unknown_at, made_by, table_refused, also_refused, goes_on}
use Rattle.translation.proofs.Following.{NoContexts, same_class_same_pieces, no_context_same_pieces, SameUnless15, first_15, second_15, same_result, same_on_terms}
use Rattle.pages.specs.Volume.{sheet_verdict}
use Rattle.pages.specs.declared.Sheet.{Sheet}
use Rattle.layout.specs.Emboss.{number, place, refused, laid, terms_of, embossing}
use Rattle.layout.proofs.Years.{old_tables_any_year}
use Rattle.layout.specs.Before.{blank_in, made_before, on_before, embossed_before}

-- ---- A blank follows

-- by an accepted table a blank is never refused
pub blank_never_15 : (image : List ℕ) → verdict_of image ≡ Ok tt → FollowingUnknown (table_of image).letters blank → ⊥
blank_never_15 image accepted unknown = unknown (accepted_sound image accepted).blank_known

module _ (year : ℕ) (image text : List ℕ) where
  blank_known : verdict_of image ≡ Ok tt → is_known (table_of image).letters blank ≡ true
  blank_known accepted = (known_exactly_when (table_of image).letters blank).1 (accepted_sound image accepted).blank_known

  made_as_before : verdict_of image ≡ Ok tt → translate_by (table_of image) (blank_in year) text ≡ made_before year (table_of image) text
  unfolding made_before
  made_as_before accepted = by_length (dec_le (length text) most_text)
    where
      by_letters : length text ≤ most_text → (o : Option ℕ) → first_unknown (table_of image).letters text ≡ o
          → translate_by (table_of image) (blank_in year) text ≡ made_before year (table_of image) text
      by_letters short none f =
          made_by (table_of image) (blank_in year) text short f (blank_known accepted) ∙ sym (rw (le-leb (length text) most_text short, made_before, f))
      by_letters short (some at) f =
          unknown_at (table_of image) (blank_in year) text at short f ∙ sym (rw (le-leb (length text) most_text short, made_before, f))

      by_length : Dec (length text ≤ most_text) → translate_by (table_of image) (blank_in year) text ≡ made_before year (table_of image) text
      by_length (yes short) = by_letters short (first_unknown (table_of image).letters text) refl
      by_length (no d) =
          let long : most_text < length text = omega arith in
          too_long (table_of image) (blank_in year) text long ∙ sym (rw (lt-leb (length text) most_text long, made_before))

  on_as_before : (sheet : Sheet) → translate_on (terms_of (blank_in year) sheet) image text ≡ on_before year (sheet_verdict sheet) image text
  unfolding on_before
  on_as_before sheet = go (verdict_of image) refl (sheet_verdict sheet) refl
    where
      go : (v : Verdict) → verdict_of image ≡ v → (a : Verdict) → sheet_verdict sheet ≡ a
          → translate_on (terms_of (blank_in year) sheet) image text ≡ on_before year (sheet_verdict sheet) image text
      go (Err r) e a f = table_refused (terms_of (blank_in year) sheet) image text r e ∙ sym (rw (e, on_before))
      go (Ok accepted) e (Err r) f = also_refused (terms_of (blank_in year) sheet) image text r e f ∙ sym (rw (e, f, on_before))
      go (Ok accepted) e (Ok allowed) f = goes_on (terms_of (blank_in year) sheet) image text e f ∙ made_as_before e ∙ sym (rw (e, f, on_before))

-- with a blank following, in any year and by any table, the call answers what it would if the end of a text counted as a blank
pub as_before : (year : ℕ) (image text : List ℕ) (sheet : Sheet) (out : List ℕ)
    → embossing (blank_in year) image text sheet out ≡ embossed_before year image text sheet out
unfolding embossing embossed_before
as_before year image text sheet out = ap (laid sheet out) (on_as_before year image text sheet)

-- by a table in the old form it is the same in any two years
pub as_before_any_year : (year other : ℕ) → year ≤ latest_year → other ≤ latest_year → (image text : List ℕ) (sheet : Sheet) (out : List ℕ)
    → is_dated image ≡ false → embossing (blank_in year) image text sheet out ≡ embossed_before other image text sheet out
as_before_any_year year other most most' image text sheet out old =
    old_tables_any_year image text sheet out (blank_in year) (blank_in other) old refl most most' ∙ as_before other image text sheet out

-- by no table at all is 15 the answer to a call with a blank following
module _ (year : ℕ) (image text : List ℕ) (sheet : Sheet) (out : List ℕ) where
  table_number : {t n p : ℕ} → TableLine image t n p → n < number_following
  table_number (line_1 x) = omega arith
  table_number (line_2 x) = omega arith
  table_number (line_11 x) = omega arith
  table_number (line_12 x) = omega arith
  table_number (line_13 x) = omega arith
  table_number (line_14 x) = omega arith
  table_number (line_3 x) = omega arith
  table_number (line_4 x) = omega arith

  of_15 : {t n p : ℕ} → Line (blank_in year) image text sheet out t n p → n ≡ number_following
      → (table_lines < t) × FollowingUnknown (table_of image).letters blank
  of_15 (of_table x) e = let w = table_number x in absurd (omega arith)
  of_15 (line_5 x) e = absurd (omega arith)
  of_15 (line_6 x) e = absurd (omega arith)
  of_15 (line_7 x) e = absurd (omega arith)
  of_15 (line_15 x) e = (omega arith, x)
  of_15 (line_8 x) e = absurd (omega arith)

  pub blank_answer_never_15 : number (embossing (blank_in year) image text sheet out).answer ≡ number_following → ⊥
  blank_answer_never_15 e =
      let f = (refused_exactly_when (blank_in year) image text sheet out number_following (place (embossing (blank_in year) image text sheet out).answer) (omega arith)).0 (e, refl) in
      let line = of_15 f.line refl in
      blank_never_15 image
      ((accepted_exactly_when image).1 (λ t n p x. f.none_before t n p (let w = within_table image x in omega (arith, line.0)) (of_table x)))
      line.1

-- ---- Other symbols

module _ (image text : List ℕ) (sheet : Sheet) (out : List ℕ) (u v : Setting) where
  -- 15 is the answer by neither of the two
  pub record Neither15 : Type 0 where
    pub first : number (embossing u image text sheet out).answer ≡ number_following → ⊥
    pub second : number (embossing v image text sheet out).answer ≡ number_following → ⊥

  same_answer : pieces_of (table_of image) u text ≡ pieces_of (table_of image) v text → Neither15
      → embossing u image text sheet out ≡ embossing v image text sheet out
  unfolding embossing laid refused
  same_answer same neither = go (same_on_terms image text (sheet_verdict sheet) u v same)
    where
      go : SameUnless15 (translate_on (terms_of u sheet) image text) (translate_on (terms_of v sheet) image text)
          → embossing u image text sheet out ≡ embossing v image text sheet out
      go (first_15 x) = absurd (neither.first (ap (λ (r : Result). number (laid sheet out r).answer) x))
      go (second_15 x) = absurd (neither.second (ap (λ (r : Result). number (laid sheet out r).answer) x))
      go (same_result x) = ap (laid sheet out) x

  -- symbols of one class
  pub same_class_same_answer : u.year ≡ v.year → class_of (table_of image).letters u.following ≡ class_of (table_of image).letters v.following → Neither15
      → embossing u image text sheet out ≡ embossing v image text sheet out
  same_class_same_answer year e = same_answer (same_class_same_pieces (table_of image) u v year e text)

  -- where no entry has a right context, no following symbol changes an answer other than 15
  pub no_context_same_answer : u.year ≡ v.year → NoContexts (table_of image) → Neither15 → embossing u image text sheet out ≡ embossing v image text sheet out
  no_context_same_answer year h = same_answer (no_context_same_pieces (table_of image) u v year h text)
