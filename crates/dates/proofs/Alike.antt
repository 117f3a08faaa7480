-- A moved table prints as the table did: by both the whole call gives the same answer and the same output, for every setting, so in every year, and for every
-- text, sheet and output. The idea: the call asks the image for its verdict and for its table, and for nothing else.
use Prim.Native.Nat.{ℕ}
use mathlib.Core.Bool.{false}
use mathlib.Core.List.{List}
use mathlib.Core.Option.{none}
use mathlib.Core.Path.{◌≡◌, refl, sym, ◌∙◌, ap}
use Rattle.std.specs.Prelude.{Ok, Err}
use Rattle.table.specs.Sections.{is_dated}
use Rattle.table.specs.Table.{Table, table_of}
use Rattle.table.specs.Verdict.{verdict_of}
use Rattle.table.specs.Answers.{Verdict}
use Rattle.translation.specs.Translate.{translate_by, translate_on}
use Rattle.translation.specs.declared.Setting.{Setting}
use Rattle.translation.specs.declared.Terms.{Terms}
use Rattle.translation.proofs.Outcomes.{goes_on, also_refused}
use Rattle.pages.specs.declared.Sheet.{Sheet}
use Rattle.layout.specs.Emboss.{laid, terms_of, embossing}
use Rattle.dates.specs.Forms.{dated_image, undated_image, first_dated}
use Rattle.dates.proofs.Movers.{dated_accepted, dated_table, undated_accepted, undated_table}

translates_alike : (image other : List ℕ) → verdict_of image ≡ Ok tt → verdict_of other ≡ Ok tt → table_of other ≡ table_of image → (terms : Terms) (text : List ℕ)
    → translate_on terms other text ≡ translate_on terms image text
translates_alike image other v w t terms text = go terms.also refl
  where
    go : (a : Verdict) → terms.also ≡ a → translate_on terms other text ≡ translate_on terms image text
    go (Ok tt) e =
        goes_on terms other text w e ∙ ap (λ (table : Table). translate_by table terms.setting text) t ∙ sym (goes_on terms image text v e)
    go (Err r) e = also_refused terms other text r w e ∙ sym (also_refused terms image text r v e)

alike : (image other : List ℕ) → verdict_of image ≡ Ok tt → verdict_of other ≡ Ok tt → table_of other ≡ table_of image
    → (setting : Setting) (text : List ℕ) (sheet : Sheet) (out : List ℕ) → embossing setting other text sheet out ≡ embossing setting image text sheet out
unfolding embossing
alike image other v w t setting text sheet out = ap (laid sheet out) (translates_alike image other v w t (terms_of setting sheet) text)

module _ (image : List ℕ) (accepts : verdict_of image ≡ Ok tt) (setting : Setting) (text : List ℕ) (sheet : Sheet) (out : List ℕ) where
  pub dated_prints_alike : is_dated image ≡ false → embossing setting (dated_image image) text sheet out ≡ embossing setting image text sheet out
  dated_prints_alike old =
      alike image (dated_image image) accepts (dated_accepted image accepts old) (dated_table image accepts old) setting text sheet out

  pub undated_prints_alike : first_dated image ≡ none → embossing setting (undated_image image) text sheet out ≡ embossing setting image text sheet out
  undated_prints_alike none_dated =
      alike image (undated_image image) accepts (undated_accepted image accepts none_dated) (undated_table image accepts none_dated) setting text sheet out
