-- Demand 1 over the definitions: each refusal is the answer of the whole call exactly when its line of the paper's table holds and no earlier
-- line does; a refused call leaves the output as lent, and a done call leaves everything beyond the written bytes as lent. The call makes its checks
-- in the paper's order, so each answer comes with what the checks before it found.
use Prim.Native.Nat.{ℕ, ◌+◌, ◌≤◌, ◌<◌}
use mathlib.Core.Bool.{Bool, true, false}
use mathlib.Core.List.{List}
use mathlib.Core.Logic.{◌↔◌}
use mathlib.Core.Option.{Option, none, some}
use mathlib.Core.Path.{◌≡◌, refl, sym, ap, subst}
use native.Mathlib.Omega.{arith}
use lib.Dec.{leb}
use lib.ListN.{length, drop}
use lib.Seq.{drop-append_seam}
use borrow.Author.Tests.{leb-true, leb-false}
use Rattle.table.specs.Numbers.{number_done, most_text}
use Rattle.table.specs.Answers.{refusal_number, refusal_place}
use Rattle.table.specs.FirstLine.{FirstLine}
use Rattle.table.specs.Refusals.{table_lines, Line as TableLine, HasLetter}
use Rattle.table.proofs.Tests.{Tells, fails_law}
use Rattle.table.specs.Table.{table_of}
use Rattle.table.specs.Verdict.{verdict_of}
use Rattle.table.specs.declared.Refusal.{Refusal}
use Rattle.table.specs.declared.Refusal.TheVariants.{Size, LongText, Unknown, Following, Room}
use Rattle.table.specs.Answers.{Verdict}
use Rattle.std.specs.Prelude.{Ok, Err}
use Rattle.table.proofs.FirstLine.{NoneBefore, none_before_next, OneLine}
use Rattle.table.proofs.FirstLine as First
use Rattle.table.proofs.Refusals as TableLaws
use Rattle.translation.specs.Letters.{is_known, first_unknown}
use Rattle.translation.specs.Pieces.{pieces_of}
use Rattle.translation.specs.Refusals.{FirstUnknownAt, FollowingUnknown}
use Rattle.translation.specs.Translate.{Result, made, refused as not_made, translate_by, translate_on}
use Rattle.translation.specs.declared.Setting.{Setting}
use Rattle.translation.proofs.Outcomes.{too_long, unknown_at, following_refused, made_by, table_refused, also_refused, goes_on}
use Rattle.translation.proofs.Refusals.{unknown_exactly_when, none_unknown_exactly_when, known_exactly_when}
use Rattle.layout.specs.Emboss.{number, place, written, Outcome, refused, done, bytes_of, roomed, laid, terms_of, embossing}
use Rattle.layout.specs.Refusals.{Line, of_table, line_5, line_6, line_7, line_15, line_8}
use Rattle.pages.specs.Volume.{sheet_right}
use Rattle.pages.specs.Refusals.{SizesWrong}
use Rattle.pages.proofs.Sizes.{sizes_wrong, sizes_accepted, sizes_refused, sizes_not_wrong}
use Rattle.pages.specs.declared.Sheet.{Sheet}

-- ---- The call, check by check

module _ (setting : Setting) (image text : List ℕ) (sheet : Sheet) (out : List ℕ) where
  abbrev outcome : Outcome
  outcome = embossing setting image text sheet out

  abbrev Holds : ℕ → ℕ → ℕ → Type 0
  Holds t n p = Line setting image text sheet out t n p

  abbrev bytes : List ℕ
  bytes = bytes_of (table_of image) setting text sheet

  abbrev count : ℕ
  count = length (pieces_of (table_of image) setting text)

  -- what an outcome tells: a refusal, whose line is the first that holds, with the output as lent; or no line holds, and the bytes stand at the front
  data Told (o : Outcome) : Type 0 where
    told_refused : (r : Refusal) → 0 < refusal_number r → o ≡ refused out r → FirstLine Holds (refusal_number r) (refusal_place r) → Told o
    told_done : o ≡ done out bytes count → ((t n p : ℕ) → Holds t n p → ⊥) → Told o

  -- where no line of the table holds, none holds before the sizes
  table_passed : ((t n p : ℕ) → TableLine image t n p → ⊥) → NoneBefore Holds (table_lines + 1)
  table_passed no_line t n p h (of_table x) = no_line t n p x
  table_passed no_line t n p h (line_5 x) = omega arith
  table_passed no_line t n p h (line_6 x) = omega arith
  table_passed no_line t n p h (line_7 x) = omega arith
  table_passed no_line t n p h (line_15 x) = omega arith
  table_passed no_line t n p h (line_8 x) = omega arith

  -- a line of the table isn't one of the others
  not_of_table : {t n p : ℕ} → table_lines < t → TableLine image t n p → ⊥
  not_of_table h x = let w = TableLaws.within_table image x in omega arith

  sizes_passed : (SizesWrong sheet → ⊥) → NoneBefore Holds (table_lines + 1) → NoneBefore Holds (table_lines + 2)
  sizes_passed right before = none_before_next Holds (table_lines + 1) before go
    where
      go : (n p : ℕ) → Holds (table_lines + 1) n p → ⊥
      go n p (of_table x) = not_of_table (omega arith) x
      go n p (line_5 x) = right x

  length_passed : length text ≤ most_text → NoneBefore Holds (table_lines + 2) → NoneBefore Holds (table_lines + 3)
  length_passed short before = none_before_next Holds (table_lines + 2) before go
    where
      go : (n p : ℕ) → Holds (table_lines + 2) n p → ⊥
      go n p (of_table x) = not_of_table (omega arith) x
      go n p (line_6 x) = omega arith

  letters_passed : ((at : ℕ) → FirstUnknownAt (table_of image).letters text at → ⊥) → NoneBefore Holds (table_lines + 3) → NoneBefore Holds (table_lines + 4)
  letters_passed known before = none_before_next Holds (table_lines + 3) before go
    where
      go : (n p : ℕ) → Holds (table_lines + 3) n p → ⊥
      go n p (of_table x) = not_of_table (omega arith) x
      go n p (line_7 x) = known p x

  following_passed : (FollowingUnknown (table_of image).letters setting.following → ⊥) → NoneBefore Holds (table_lines + 4) → NoneBefore Holds (table_lines + 5)
  following_passed known before = none_before_next Holds (table_lines + 4) before go
    where
      go : (n p : ℕ) → Holds (table_lines + 4) n p → ⊥
      go n p (of_table x) = not_of_table (omega arith) x
      go n p (line_15 x) = known x

  room_passed : length bytes ≤ length out → NoneBefore Holds (table_lines + 5) → (t n p : ℕ) → Holds t n p → ⊥
  room_passed room before t n p (of_table x) = before t n p (let w = TableLaws.within_table image x in omega arith) (of_table x)
  room_passed room before t n p (line_5 x) = before _ _ _ (omega arith) (line_5 x)
  room_passed room before t n p (line_6 x) = before _ _ _ (omega arith) (line_6 x)
  room_passed room before t n p (line_7 x) = before _ _ _ (omega arith) (line_7 x)
  room_passed room before t n p (line_15 x) = before _ _ _ (omega arith) (line_15 x)
  room_passed room before t n p (line_8 x) = omega arith

  told_room : NoneBefore Holds (table_lines + 5) → Told (laid sheet out (made (pieces_of (table_of image) setting text)))
  unfolding laid roomed
  told_room before = go (leb (length bytes) (length out)) refl
    where
      go : (b : Bool) → leb (length bytes) (length out) ≡ b → Told (laid sheet out (made (pieces_of (table_of image) setting text)))
      go true e = told_done (rw (e, laid, roomed)) (room_passed (leb-true _ _ e) before)
      go false e =
          told_refused (Room (length bytes)) (omega arith) (rw (e, laid, roomed))
          (record { turn = table_lines + 5; line = line_8 (leb-false _ _ e); none_before = before })

  -- a result that is refused
  told_not_made : {result : Result} (r : Refusal) → 0 < refusal_number r → result ≡ not_made r → FirstLine Holds (refusal_number r) (refusal_place r)
      → Told (laid sheet out result)
  unfolding laid
  told_not_made r h e f = told_refused r h (rw (e, laid)) f

  told_text : NoneBefore Holds (table_lines + 2) → Told (laid sheet out (translate_by (table_of image) setting text))
  told_text before = long (leb (length text) most_text) refl
    where
      knows : Tells (is_known (table_of image).letters setting.following) (HasLetter (table_of image).letters setting.following)
      knows = known_exactly_when (table_of image).letters setting.following

      following : length text ≤ most_text → first_unknown (table_of image).letters text ≡ none → NoneBefore Holds (table_lines + 4) → (k : Bool)
          → is_known (table_of image).letters setting.following ≡ k → Told (laid sheet out (translate_by (table_of image) setting text))
      following short f b true e =
          subst (λ (r : Result). Told (laid sheet out r)) (sym (made_by (table_of image) setting text short f e))
          (told_room (following_passed (λ x. x (knows.0 e)) b))
      following short f b false e =
          told_not_made Following (omega arith) (following_refused (table_of image) setting text short f e)
          (record { turn = table_lines + 4; line = line_15 ((fails_law knows).0 e); none_before = b })

      unknown : length text ≤ most_text → NoneBefore Holds (table_lines + 3) → (o : Option ℕ) → first_unknown (table_of image).letters text ≡ o
          → Told (laid sheet out (translate_by (table_of image) setting text))
      unknown short b none f =
          let n = (none_unknown_exactly_when (table_of image).letters text).0 f in
          following short f (letters_passed (λ at x. n at x.unknown) b) (is_known (table_of image).letters setting.following) refl
      unknown short b (some at) f =
          told_not_made (Unknown at) (omega arith) (unknown_at (table_of image) setting text at short f)
          (record { turn = table_lines + 3; line = line_7 ((unknown_exactly_when (table_of image).letters text at).0 f); none_before = b })

      long : (b : Bool) → leb (length text) most_text ≡ b → Told (laid sheet out (translate_by (table_of image) setting text))
      long true e =
          let short : length text ≤ most_text = leb-true _ _ e in
          unknown short (length_passed short before) (first_unknown (table_of image).letters text) refl
      long false e =
          told_not_made LongText (omega arith) (too_long (table_of image) setting text (leb-false _ _ e))
          (record { turn = table_lines + 2; line = line_6 (leb-false _ _ e); none_before = before })

  told_sizes : verdict_of image ≡ Ok tt → Told (laid sheet out (translate_on (terms_of setting sheet) image text))
  told_sizes v = go (sheet_right sheet) refl
    where
      before : NoneBefore Holds (table_lines + 1)
      before = table_passed ((TableLaws.accepted_exactly_when image).0 v)

      go : (b : Bool) → sheet_right sheet ≡ b → Told (laid sheet out (translate_on (terms_of setting sheet) image text))
      go true e =
          subst (λ (r : Result). Told (laid sheet out r)) (sym (goes_on (terms_of setting sheet) image text v (sizes_accepted sheet e)))
          (told_text (sizes_passed (sizes_not_wrong sheet e) before))
      go false e =
          told_not_made Size (omega arith) (also_refused (terms_of setting sheet) image text Size v (sizes_refused sheet e))
          (record { turn = table_lines + 1; line = line_5 (sizes_wrong sheet e); none_before = before })

  -- the first line of the table is the first of all
  of_table_first : {n p : ℕ} → FirstLine (TableLine image) n p → FirstLine Holds n p
  of_table_first f = record { turn = f.turn; line = of_table f.line; none_before = before }
    where
      before : NoneBefore Holds f.turn
      before t n p h (of_table x) = f.none_before t n p h x
      before t n p h (line_5 x) = let w = TableLaws.within_table image f.line in omega arith
      before t n p h (line_6 x) = let w = TableLaws.within_table image f.line in omega arith
      before t n p h (line_7 x) = let w = TableLaws.within_table image f.line in omega arith
      before t n p h (line_15 x) = let w = TableLaws.within_table image f.line in omega arith
      before t n p h (line_8 x) = let w = TableLaws.within_table image f.line in omega arith

  told : Told outcome
  unfolding embossing
  told = go (verdict_of image) refl (TableLaws.verdict_told image)
    where
      go : (v : Verdict) → verdict_of image ≡ v → TableLaws.VerdictTold image v → Told (laid sheet out (translate_on (terms_of setting sheet) image text))
      go (Ok accepted) e (TableLaws.table_accepted no_line) = told_sizes e
      go (Err r) e (TableLaws.table_refused h f) =
          told_not_made r h (table_refused (terms_of setting sheet) image text r e) (of_table_first f)

  -- ---- A line has one number and place

  one_line : OneLine Holds
  one_line t m p n q before (of_table x) (of_table y) = TableLaws.one_line image t m p n q (λ s k j h l. before s k j h (of_table l)) x y
  one_line t m p n q before (of_table x) (line_5 y) = absurd (not_of_table (omega arith) x)
  one_line t m p n q before (of_table x) (line_6 y) = absurd (not_of_table (omega arith) x)
  one_line t m p n q before (of_table x) (line_7 y) = absurd (not_of_table (omega arith) x)
  one_line t m p n q before (of_table x) (line_15 y) = absurd (not_of_table (omega arith) x)
  one_line t m p n q before (of_table x) (line_8 y) = absurd (not_of_table (omega arith) x)
  one_line t m p n q before (line_5 x) (of_table y) = absurd (not_of_table (omega arith) y)
  one_line t m p n q before (line_6 x) (of_table y) = absurd (not_of_table (omega arith) y)
  one_line t m p n q before (line_7 x) (of_table y) = absurd (not_of_table (omega arith) y)
  one_line t m p n q before (line_15 x) (of_table y) = absurd (not_of_table (omega arith) y)
  one_line t m p n q before (line_8 x) (of_table y) = absurd (not_of_table (omega arith) y)
  one_line t m p n q before (line_5 x) (line_5 y) = (refl, refl)
  one_line t m p n q before (line_6 x) (line_6 y) = (refl, refl)
  one_line t m p n q before (line_7 x) (line_7 y) =
      let v = (unknown_exactly_when (table_of image).letters text p).1 x in
      let w = (unknown_exactly_when (table_of image).letters text q).1 y in
      (refl, cc)
  one_line t m p n q before (line_15 x) (line_15 y) = (refl, refl)
  one_line t m p n q before (line_8 x) (line_8 y) = (refl, refl)

  -- ---- Exactly when

  told_number : Told outcome → First.Told Holds (number outcome.answer) (place outcome.answer)
  unfolding refused done
  told_number (told_refused r h e f) =
      subst (λ (o : Outcome). First.Told Holds (number o.answer) (place o.answer)) (sym e) (First.told_refused h f)
  told_number (told_done e no_line) =
      subst (λ (o : Outcome). First.Told Holds (number o.answer) (place o.answer)) (sym e) (First.told_done refl no_line)

  abbrev Answers : ℕ → ℕ → Type 0
  Answers n p = (number outcome.answer ≡ n) × (place outcome.answer ≡ p)

  -- each refusal is given exactly when its line holds and no earlier one does
  pub refused_exactly_when : (n p : ℕ) → 0 < n → Answers n p ↔ FirstLine Holds n p
  refused_exactly_when n p h = First.refused_exactly_when Holds one_line (told_number told) n p h

  -- the call is done exactly when no line holds
  pub done_exactly_when : (number outcome.answer ≡ number_done) ↔ ((t n p : ℕ) → Holds t n p → ⊥)
  done_exactly_when = First.done_exactly_when Holds (told_number told)

  -- a refused call leaves the output as lent
  pub refused_keeps_output : 0 < number outcome.answer → outcome.output ≡ out
  unfolding refused done
  refused_keeps_output h = go told
    where
      go : Told outcome → outcome.output ≡ out
      go (told_refused r pos e f) = ap (λ (o : Outcome). o.output) e
      go (told_done e f) = let g = ap (λ (o : Outcome). number o.answer) e in absurd (omega arith)

  -- a done call writes the bytes of the text, counts them, their 64s and 65s and the pieces, and leaves everything beyond as lent
  pub done_writes : number outcome.answer ≡ number_done → outcome ≡ done out bytes count
  unfolding refused done
  done_writes h = go told
    where
      go : Told outcome → outcome ≡ done out bytes count
      go (told_refused r pos e f) = let g = ap (λ (o : Outcome). number o.answer) e in absurd (omega arith)
      go (told_done e f) = e

  pub done_keeps_beyond : number outcome.answer ≡ number_done → drop (written outcome.answer) outcome.output ≡ drop (written outcome.answer) out
  unfolding done
  done_keeps_beyond h = rw (done_writes h) (drop-append_seam bytes (drop (length bytes) out))
