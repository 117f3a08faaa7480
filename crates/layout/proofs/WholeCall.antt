-- The whole call, case by case: what the translation's answer says of its outcome.
use Prim.Native.Nat.{ℕ, ◌<◌}
use mathlib.Core.Bool.{Bool, true, false}
use mathlib.Core.List.{List, ◌++◌}
use mathlib.Core.Path.{◌≡◌, refl, sym, ◌∙◌, ap, subst₂}
use native.Mathlib.Omega.{arith}
use lib.Dec.{leb}
use Rattle.std.specs.Prelude.{Result as Answered, Ok, Err}
use lib.ListN.{length, take, drop}
use lib.Seq.{take-append_seam}
use Rattle.table.specs.Table.{table_of}
use Rattle.table.specs.Answers.{Verdict}
use Rattle.table.proofs.Sound.{accepted_sound}
use Rattle.translation.specs.Collapse.{collapsed}
use Rattle.translation.specs.Pieces.{Piece, pieces_of, signs_of}
use Rattle.translation.specs.Translate.{Result, made, refused as not_made, translate_on}
use Rattle.translation.specs.Handed.{Translation, handed, translation}
use Rattle.translation.specs.Promises.{Translated}
use Rattle.translation.specs.declared.Setting.{Setting}
use Rattle.translation.proofs.Outcomes.{Made, made_means}
use Rattle.translation.proofs.Signs.{signs_printed}
use Rattle.pages.specs.Words.{Item, items_of}
use Rattle.pages.specs.Fitting.{Fitting}
use Rattle.pages.specs.Volume.{sheet_verdict, bytes_of as bytes_of_signs, end_of}
use Rattle.pages.specs.Fill.{filling}
use Rattle.pages.specs.Fill as Fill
use Rattle.pages.specs.Promises.{Fills}
use Rattle.table.specs.declared.Refusal.{Refusal}
use Rattle.pages.specs.declared.Filled.{Filled}
use Rattle.pages.specs.declared.Sheet.{Sheet}
use Rattle.pages.proofs.Counts.{lines_are_64s, pages_are_65s}
use Rattle.pages.proofs.Sizes.{sizes_of_accepted}
use Rattle.pages.proofs.Words.{items_fit}
use Rattle.layout.specs.Emboss.{Outcome, refused, done, roomed, laid, terms_of, embossing}
use Rattle.layout.specs.inside.Pieces.{with_pieces}
use Rattle.layout.specs.Promises.{Embossed}

module _ (setting : Setting) (image text : List ℕ) (sheet : Sheet) (out lent : List ℕ) where
  abbrev result : Result
  result = translate_on (terms_of setting sheet) image text

  -- what a translation's answer makes of the call
  abbrev pub Case : Translation → List ℕ → Type 0
  Case (Err r) signs = Embossed setting image text sheet out (Err r) out
  Case (Ok counts) signs =
      (a : Answered Filled Refusal) (after : List ℕ) → Fills signs counts.signs sheet out a after
      → Embossed setting image text sheet out (with_pieces counts.pieces a) after

  embossed_as : {o : Outcome} → laid sheet out result ≡ o → Embossed setting image text sheet out o.answer o.output
  unfolding embossing
  embossed_as e = record { answers = sym (ap (λ (o : Outcome). o.answer) e); leaves = sym (ap (λ (o : Outcome). o.output) e) }

  -- what is handed back of pages, with the count of pieces, is what the call hands back
  module _ (ps : List Piece) (e : result ≡ made ps) where
    made_pieces : Made (terms_of setting sheet) image text ps
    made_pieces = made_means (terms_of setting sheet) image text e

    abbrev items : List Item
    items = items_of sheet.width (signs_of ps)

    fits : Fitting sheet.width items
    unfolding pieces_of
    fits =
        let w = (sizes_of_accepted sheet made_pieces.allowed).0 in
        rw made_pieces.pieces
        (items_fit (omega arith) (signs_of (pieces_of (table_of image) setting text)) (signs_printed (table_of image) (accepted_sound image made_pieces.accepted) setting (collapsed text)))

    page_room : 0 < sheet.length
    page_room = let p = (sizes_of_accepted sheet made_pieces.allowed).1 in omega arith

    abbrev filled : Fill.Outcome
    filled = filling sheet (signs_of ps) out

    same : laid sheet out (made ps) ≡ record { answer = with_pieces (length ps) filled.answer; output = filled.output }
    unfolding laid roomed done refused filling Fill.roomed Fill.done Fill.refused bytes_of_signs end_of
    same = go (leb (length (bytes_of_signs sheet (signs_of ps))) (length out)) refl
      where
        go : (b : Bool) → leb (length (bytes_of_signs sheet (signs_of ps))) (length out) ≡ b
            → laid sheet out (made ps) ≡ record { answer = with_pieces (length ps) filled.answer; output = filled.output }
        go true f = rw (made_pieces.allowed, filling, f, laid, roomed, Fill.roomed, lines_are_64s sheet items fits page_room, pages_are_65s sheet items fits page_room)
        go false f = rw (made_pieces.allowed, filling, f, laid, roomed, Fill.roomed)

  by_result : (x : Result) → result ≡ x → Case (handed lent x).answer (handed lent x).signs
  unfolding handed laid refused
  by_result (not_made r) e = embossed_as {o = refused out r} (rw (e, laid))
  by_result (made ps) e =
      let front : take (length (signs_of ps)) (signs_of ps ++ drop (length (signs_of ps)) lent) ≡ signs_of ps = take-append_seam (signs_of ps) (drop (length (signs_of ps)) lent) in
      λ a after x.
      let y = ap (λ (s : List ℕ). filling sheet s out) front in
      let z = embossed_as (ap (λ (r : Result). laid sheet out r) e ∙ same ps e) in
      record {
        answers = ap (with_pieces (length ps)) (x.answers ∙ ap (λ (o : Fill.Outcome). o.answer) y) ∙ z.answers;
        leaves = x.leaves ∙ ap (λ (o : Fill.Outcome). o.output) y ∙ z.leaves;
      }

  pub whole_translated : {also : Verdict} {signs : List ℕ} {answer told : Translation} → also ≡ sheet_verdict sheet
      → Translated (record { setting = setting; also = also }) image text lent answer signs → answer ≡ told → Case told signs
  unfolding translation
  whole_translated {also} {signs} {answer} {told} sizes x e =
      let same : translation (record { setting = setting; also = also }) image text lent ≡ handed lent result =
      ap (λ (v : Verdict). translation (record { setting = setting; also = v }) image text lent) sizes in
      subst₂ Case (sym (x.answers ∙ ap (λ o. o.answer) same) ∙ e) (sym (x.leaves ∙ ap (λ o. o.signs) same)) (by_result result refl)
