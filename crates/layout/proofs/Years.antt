-- The year, over the whole call, refusals included. By a table in the old form every year gives the same answer and output; two accepted images whose tables
-- are alike in a year give the same in that year, whatever form each has; and an entry that isn't in force is as if it weren't there.
use Prim.Native.Nat.{ℕ, ◌≤◌}
use mathlib.Core.Bool.{Bool, true, false}
use mathlib.Core.List.{List}
use mathlib.Core.Option.{Option, none, some}
use mathlib.Core.Path.{◌≡◌, refl, sym, ◌∙◌, ap, ap₂}
use native.Mathlib.Decide.{dec_le}
use native.Mathlib.Omega.{arith}
use lib.Dec.{leb}
use lib.ListN.{length, length-map}
use Rattle.table.specs.Numbers.{most_text, latest_year}
use Rattle.table.specs.Sections.{is_dated}
use Rattle.table.specs.Table.{Table, table_of}
use Rattle.table.specs.Verdict.{verdict_of}
use Rattle.table.specs.declared.Refusal.TheVariants.{LongText, Unknown, Following}
use Rattle.table.specs.Answers.{Verdict}
use Rattle.std.specs.Prelude.{Ok, Err}
use Rattle.table.proofs.Sound.{old_form_always}
use Rattle.translation.specs.Letters.{is_known, first_unknown}
use Rattle.translation.specs.Choose.{in_force, no_entry, entry}
use Rattle.translation.specs.Pieces.{Piece, pieces_of, signs_of}
use Rattle.translation.specs.Translate.{Result, made, refused as not_made, translate_followed, translate_by, translate_on}
use Rattle.translation.specs.Years.{AlikeIn, without_entry, unnumbered}
use Rattle.translation.specs.declared.Setting.{Setting}
use Rattle.translation.proofs.Outcomes.{too_long, unknown_at, following_refused, made_by, also_refused, goes_on}
use Rattle.translation.proofs.Years.{always_same_pieces, alike_pieces, unnumbered_signs, alike_without}
use Rattle.pages.specs.Volume.{sheet_verdict, bytes_of as bytes_of_signs}
use Rattle.pages.specs.declared.Sheet.{Sheet}
use Rattle.layout.specs.Emboss.{roomed, laid, terms_of, embossing}
use Rattle.layout.specs.Years.{embossed_by}

-- ---- Old tables don't care about the year

module _ (image text : List ℕ) (sheet : Sheet) (out : List ℕ) (u v : Setting) where
  same_by_table : (table : Table) → u.following ≡ v.following → pieces_of table u text ≡ pieces_of table v text
      → translate_by table u text ≡ translate_by table v text
  unfolding translate_by translate_followed
  same_by_table table follows same =
      ap₂
      (λ (k : Bool) (ps : List Piece).
      elim (leb (length text) most_text) [
        | true ↦ elim (first_unknown table.letters text) [
          | none ↦ elim k [ true ↦ made ps | false ↦ not_made Following ]
          | some at ↦ not_made (Unknown at)
        ]
        | false ↦ not_made LongText
      ])
      (ap (is_known table.letters) follows) same

  same_on : translate_by (table_of image) u text ≡ translate_by (table_of image) v text
      → translate_on (terms_of u sheet) image text ≡ translate_on (terms_of v sheet) image text
  unfolding translate_on
  same_on same =
      ap
      (λ (r : Result).
      elim (verdict_of image) [
        | Ok accepted ↦ elim (sheet_verdict sheet) [ Ok allowed ↦ r | Err w ↦ not_made w ]
        | Err w ↦ not_made w
      ])
      same

  pub old_tables_any_year : is_dated image ≡ false → u.following ≡ v.following → u.year ≤ latest_year → v.year ≤ latest_year
      → embossing u image text sheet out ≡ embossing v image text sheet out
  unfolding embossing
  old_tables_any_year old follows before after =
      ap (laid sheet out)
      (same_on
      (same_by_table (table_of image) follows
      (always_same_pieces (table_of image) (λ k l. old_form_always image old k no_entry l) u v follows before after text)))

-- ---- An accepted image is its table

module _ (setting : Setting) (image text : List ℕ) (sheet : Sheet) (out : List ℕ) where
  pub by_its_table : verdict_of image ≡ Ok tt → embossing setting image text sheet out ≡ embossed_by (table_of image) setting text sheet out
  unfolding embossing embossed_by
  by_its_table accepted = go (sheet_verdict sheet) refl
    where
      go : (w : Verdict) → sheet_verdict sheet ≡ w
          → laid sheet out (translate_on (terms_of setting sheet) image text) ≡ embossed_by (table_of image) setting text sheet out
      go (Ok allowed) e = ap (laid sheet out) (goes_on (terms_of setting sheet) image text accepted e) ∙ sym (rw e)
      go (Err r) e = ap (laid sheet out) (also_refused (terms_of setting sheet) image text r accepted e) ∙ sym (rw e)

-- ---- Alike in a year

module _ (setting : Setting) (a b : Table) (alike : AlikeIn setting.year a b) (text : List ℕ) (sheet : Sheet) (out : List ℕ) where
  same_made : laid sheet out (made (pieces_of a setting text)) ≡ laid sheet out (made (pieces_of b setting text))
  unfolding laid
  same_made =
      let e = alike_pieces setting a b alike text in
      let signs : signs_of (pieces_of a setting text) ≡ signs_of (pieces_of b setting text) =
      sym (unnumbered_signs (pieces_of a setting text)) ∙ ap signs_of e ∙ unnumbered_signs (pieces_of b setting text) in
      let count : length (pieces_of a setting text) ≡ length (pieces_of b setting text) =
      sym (length-map (pieces_of a setting text) unnumbered) ∙ ap length e ∙ length-map (pieces_of b setting text) unnumbered in
      ap₂ (λ (gs : List ℕ) (n : ℕ). roomed out (bytes_of_signs sheet gs) n) signs count

  same_by : laid sheet out (translate_by a setting text) ≡ laid sheet out (translate_by b setting text)
  same_by = by_length (dec_le (length text) most_text)
    where
      moved : {o : Option ℕ} → first_unknown a.letters text ≡ o → first_unknown b.letters text ≡ o
      moved f = ap (λ letters. first_unknown letters text) (sym alike.letters) ∙ f

      known : {k : Bool} → is_known a.letters setting.following ≡ k → is_known b.letters setting.following ≡ k
      known e = ap (λ letters. is_known letters setting.following) (sym alike.letters) ∙ e

      by_following : length text ≤ most_text → first_unknown a.letters text ≡ none → (k : Bool) → is_known a.letters setting.following ≡ k
          → laid sheet out (translate_by a setting text) ≡ laid sheet out (translate_by b setting text)
      by_following short f true e =
          ap (laid sheet out) (made_by a setting text short f e) ∙ same_made ∙ sym (ap (laid sheet out) (made_by b setting text short (moved f) (known e)))
      by_following short f false e =
          ap (laid sheet out) (following_refused a setting text short f e ∙ sym (following_refused b setting text short (moved f) (known e)))

      by_letters : length text ≤ most_text → (o : Option ℕ) → first_unknown a.letters text ≡ o
          → laid sheet out (translate_by a setting text) ≡ laid sheet out (translate_by b setting text)
      by_letters short none f = by_following short f (is_known a.letters setting.following) refl
      by_letters short (some at) f = ap (laid sheet out) (unknown_at a setting text at short f ∙ sym (unknown_at b setting text at short (moved f)))

      by_length : Dec (length text ≤ most_text) → laid sheet out (translate_by a setting text) ≡ laid sheet out (translate_by b setting text)
      by_length (yes short) = by_letters short (first_unknown a.letters text) refl
      by_length (no d) = ap (laid sheet out) (too_long a setting text (omega arith) ∙ sym (too_long b setting text (omega arith)))

  pub alike_tables_same_answer : embossed_by a setting text sheet out ≡ embossed_by b setting text sheet out
  unfolding embossed_by
  alike_tables_same_answer = go (sheet_verdict sheet) refl
    where
      go : (w : Verdict) → sheet_verdict sheet ≡ w → embossed_by a setting text sheet out ≡ embossed_by b setting text sheet out
      go (Ok allowed) e = rw e same_by
      go (Err r) e = rw e

-- two accepted images whose tables are alike in the year print alike in it, whatever the form of each
pub alike_in_a_year : (setting : Setting) (a b text : List ℕ) (sheet : Sheet) (out : List ℕ) → verdict_of a ≡ Ok tt → verdict_of b ≡ Ok tt
    → AlikeIn setting.year (table_of a) (table_of b) → embossing setting a text sheet out ≡ embossing setting b text sheet out
alike_in_a_year setting a b text sheet out accepted accepted' alike =
    by_its_table setting a text sheet out accepted
    ∙ alike_tables_same_answer setting (table_of a) (table_of b) alike text sheet out
    ∙ sym (by_its_table setting b text sheet out accepted')

-- ---- An entry that isn't in force is as if it weren't there

pub not_in_force_not_there : (setting : Setting) (image text : List ℕ) (sheet : Sheet) (out : List ℕ) (k : ℕ) → verdict_of image ≡ Ok tt
    → in_force setting.year (entry (table_of image) k) ≡ false
    → embossing setting image text sheet out ≡ embossed_by (without_entry k (table_of image)) setting text sheet out
not_in_force_not_there setting image text sheet out k accepted over =
    by_its_table setting image text sheet out accepted
    ∙ sym (alike_tables_same_answer setting (without_entry k (table_of image)) (table_of image) (alike_without setting.year k (table_of image) over) text sheet out)

-- so an image of the table without it, where it is accepted, gives the same
pub without_it_the_same : (setting : Setting) (image other text : List ℕ) (sheet : Sheet) (out : List ℕ) (k : ℕ) → verdict_of image ≡ Ok tt
    → verdict_of other ≡ Ok tt → table_of other ≡ without_entry k (table_of image) → in_force setting.year (entry (table_of image) k) ≡ false
    → embossing setting image text sheet out ≡ embossing setting other text sheet out
without_it_the_same setting image other text sheet out k accepted accepted' without over =
    not_in_force_not_there setting image text sheet out k accepted over
    ∙ ap (λ (t : Table). embossed_by t setting text sheet out) (sym without)
    ∙ sym (by_its_table setting other text sheet out accepted')
