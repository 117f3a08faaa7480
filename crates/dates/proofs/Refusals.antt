-- 'Each refusal is given exactly when its line holds and no earlier one does', for both movers; a refused call leaves the output as lent, and a done one leaves
-- everything beyond the written bytes as lent. The calls make their checks in the order of the lines, so each answer comes with what the checks before it found.
use Prim.Native.Nat.{ℕ, ◌+◌, ◌≤◌, ◌<◌}
use mathlib.Core.Bool.{Bool, true, false, not}
use mathlib.Core.List.{List}
use mathlib.Core.Logic.Iff
use mathlib.Core.Logic.{◌↔◌}
use mathlib.Core.Option.{Option, none, some}
use mathlib.Core.Path.{◌≡◌, refl, sym, ◌∙◌, ap, subst}
use native.Mathlib.Decide.{dec_lt}
use native.Mathlib.Omega.{arith}
use lib.ListN.{length, drop}
use lib.Seq.{drop-append_seam}
use borrow.Author.Tests.{not-true, not-false}
use Rattle.std.specs.Prelude.{Ok, Err}
use Rattle.table.specs.Numbers.{number_done, earliest_year, latest_year}
use Rattle.table.specs.Answers.{refusal_number, refusal_place}
use Rattle.table.specs.FirstLine.{FirstLine}
use Rattle.table.specs.Refusals.{table_lines, Line as TableLine, line_1, line_2, line_11, line_12, line_13, line_14, line_3, line_4}
use Rattle.table.specs.Sections.{is_dated, offset, first_year, last_year}
use Rattle.table.specs.Verdict.{verdict_of}
use Rattle.table.specs.declared.Refusal.{Refusal}
use Rattle.table.specs.declared.Refusal.TheVariants.{Frame, Dated, Room}
use Rattle.table.specs.Answers.{Verdict}
use Rattle.table.proofs.Tests.{Tells, tells_and, tells_eq, fails_law}
use Rattle.table.proofs.Search.{first_found, first_is}
use Rattle.table.proofs.Forms.{tells_dated}
use Rattle.table.proofs.FirstLine.{NoneBefore, none_before_next, OneLine}
use Rattle.table.proofs.FirstLine as First
use Rattle.table.proofs.Refusals as TableLaws
use Rattle.dates.specs.Forms.{entries_of, is_always, first_dated_of, first_dated}
use Rattle.dates.specs.Moving.{number, place, written, Outcome, refused, done, roomed, dating, undating}
use Rattle.dates.specs.Refusals.{Move, onward, back, OtherForm, AlwaysInForce, FirstDatedAt, moved_by, calling, Line, other_form, of_table, line_17, line_8}
use Rattle.dates.proofs.Outcomes.{roomed_done, roomed_refused, date_other, date_refused, date_moves, undate_other, undate_refused, undate_dated, undate_moves}

-- ---- Dated records

module _ (image : List ℕ) where
  tells_always : (k : ℕ) → Tells (is_always image (entries_of image) k) (AlwaysInForce image k)
  unfolding is_always
  tells_always k =
      Iff.trans (tells_and (tells_eq (first_year image (entries_of image) k) earliest_year) (tells_eq (last_year image (entries_of image) k) latest_year))
      (λ h. record { first_is = h.0; last_is = h.1 }, λ h. (h.first_is, h.last_is))

  pub first_dated_lem : (k : ℕ) → first_dated image ≡ some k → FirstDatedAt image (offset (entries_of image) k)
  unfolding first_dated_of
  first_dated_lem k e =
      let f = first_found (λ j. not (is_always image (entries_of image) j)) 0 (entries_of image).records k e in
      record {
        index = k;
        there = omega arith;
        dated = (fails_law (tells_always k)).0 (not-true _ f.passes);
        earlier = λ j l. (tells_always j).0 (not-false _ (f.earlier j (omega arith) l));
        place = refl;
      }

  first_dated_is : {at : ℕ} (d : FirstDatedAt image at) → first_dated image ≡ some d.index
  unfolding first_dated_of
  first_dated_is d =
      first_is (λ j. not (is_always image (entries_of image) j)) 0 (entries_of image).records d.index
      (record {
        low = omega arith;
        high = let l = d.there in omega arith;
        passes = ap not ((fails_law (tells_always d.index)).1 d.dated);
        earlier = λ j low l. ap not ((tells_always j).1 (d.earlier j l));
      })

  none_dated_first : first_dated image ≡ none → {at : ℕ} → FirstDatedAt image at → ⊥
  none_dated_first e d = let f = first_dated_is d in let z : ◌≡◌ {A = ℕ} 0 1 = cc in omega arith

  -- it has one place
  one_place : {p q : ℕ} → FirstDatedAt image p → FirstDatedAt image q → p ≡ q
  one_place x y =
      let a = first_dated_is x in
      let b = first_dated_is y in
      let e : x.index ≡ y.index = cc in
      x.place ∙ ap (offset (entries_of image)) e ∙ sym y.place

-- ---- A call, check by check

module _ (move : Move) (image out : List ℕ) where
  abbrev Holds : ℕ → ℕ → ℕ → Type 0
  Holds t n p = Line move image out t n p

  abbrev bytes : List ℕ
  bytes = moved_by move image

  -- what an outcome tells: a refusal, whose line is the first that holds, with the output as lent; or no line holds, and the moved image stands at the front
  data Told (o : Outcome) : Type 0 where
    told_refused : (r : Refusal) → 0 < refusal_number r → o ≡ refused out r → FirstLine Holds (refusal_number r) (refusal_place r) → Told o
    told_done : o ≡ done out bytes → ((t n p : ℕ) → Holds t n p → ⊥) → Told o

  told_other : {o : Outcome} → OtherForm move image → o ≡ refused out Frame → Told o
  told_other other e = told_refused Frame (omega arith) e (record { turn = 0; line = other_form other; none_before = λ t n p l x. omega arith })

  -- a line of the table isn't one of the others
  from_first : {t n p : ℕ} → TableLine image t n p → 0 < t
  from_first (line_1 x) = omega arith
  from_first (line_2 x) = omega arith
  from_first (line_11 x) = omega arith
  from_first (line_12 x) = omega arith
  from_first (line_13 x) = omega arith
  from_first (line_14 x) = omega arith
  from_first (line_3 x) = omega arith
  from_first (line_4 x) = omega arith

  not_of_table : {t n p : ℕ} → table_lines < t → TableLine image t n p → ⊥
  not_of_table h x = let w = TableLaws.within_table image x in omega arith

  module _ (own : OtherForm move image → ⊥) where
    told_table : {o : Outcome} (r : Refusal) → 0 < refusal_number r → FirstLine (TableLine image) (refusal_number r) (refusal_place r) → o ≡ refused out r → Told o
    told_table r h f e = told_refused r h e (record { turn = f.turn; line = of_table f.line; none_before = before })
      where
        before : NoneBefore Holds f.turn
        before t n p l (other_form x) = own x
        before t n p l (of_table x) = f.none_before t n p l x
        before t n p l (line_17 m x) = let w = TableLaws.within_table image f.line in omega arith
        before t n p l (line_8 x) = let w = TableLaws.within_table image f.line in omega arith

    module _ (accepts : verdict_of image ≡ Ok tt) where
      table_passed : NoneBefore Holds (table_lines + 1)
      table_passed t n p l (other_form x) = own x
      table_passed t n p l (of_table x) = (TableLaws.accepted_exactly_when image).0 accepts t n p x
      table_passed t n p l (line_17 m x) = omega arith
      table_passed t n p l (line_8 x) = omega arith

      told_dated : {o : Outcome} (k : ℕ) → move ≡ back → first_dated image ≡ some k → o ≡ refused out (Dated (offset (entries_of image) k)) → Told o
      told_dated k m f e =
          told_refused (Dated (offset (entries_of image) k)) (omega arith) e
          (record { turn = table_lines + 1; line = line_17 m (first_dated_lem image k f); none_before = table_passed })

      module _ (no_17 : (at : ℕ) → move ≡ back → FirstDatedAt image at → ⊥) where
        dated_passed : NoneBefore Holds (table_lines + 2)
        dated_passed = none_before_next Holds (table_lines + 1) table_passed go
          where
            go : (n p : ℕ) → Holds (table_lines + 1) n p → ⊥
            go n p (of_table x) = not_of_table (omega arith) x
            go n p (line_17 m x) = no_17 p m x

        room_passed : length bytes ≤ length out → (t n p : ℕ) → Holds t n p → ⊥
        room_passed room t n p (other_form x) = own x
        room_passed room t n p (of_table x) = dated_passed t n p (let w = TableLaws.within_table image x in omega arith) (of_table x)
        room_passed room t n p (line_17 m x) = no_17 p m x
        room_passed room t n p (line_8 x) = omega arith

        told_room : {o : Outcome} → o ≡ roomed out bytes → Told o
        told_room {o} e = go (dec_lt (length out) (length bytes))
          where
            go : Dec (length out < length bytes) → Told o
            go (yes l) =
                told_refused (Room (length bytes)) (omega arith) (e ∙ roomed_refused out bytes l)
                (record { turn = table_lines + 2; line = line_8 l; none_before = dated_passed })
            go (no d) = told_done (e ∙ roomed_done out bytes (omega arith)) (room_passed (omega arith))

  -- ---- A line has one number and place

  one_line : OneLine Holds
  one_line t m p n q before (other_form x) (other_form y) = (refl, refl)
  one_line t m p n q before (other_form x) (of_table y) = let w = from_first y in absurd (omega arith)
  one_line t m p n q before (of_table x) (other_form y) = let w = from_first x in absurd (omega arith)
  one_line t m p n q before (of_table x) (of_table y) = TableLaws.one_line image t m p n q (λ s k j h l. before s k j h (of_table l)) x y
  one_line t m p n q before (of_table x) (line_17 o y) = absurd (not_of_table (omega arith) x)
  one_line t m p n q before (of_table x) (line_8 y) = absurd (not_of_table (omega arith) x)
  one_line t m p n q before (line_17 o x) (of_table y) = absurd (not_of_table (omega arith) y)
  one_line t m p n q before (line_8 x) (of_table y) = absurd (not_of_table (omega arith) y)
  one_line t m p n q before (line_17 o x) (line_17 c y) = (refl, one_place image x y)
  one_line t m p n q before (line_8 x) (line_8 y) = (refl, refl)

-- ---- Both calls

told : (move : Move) (image out : List ℕ) → Told move image out (calling move image out)
told onward image out = go (is_dated image) refl (verdict_of image) refl (TableLaws.verdict_told image)
  where
    go : (b : Bool) → is_dated image ≡ b → (v : Verdict) → verdict_of image ≡ v → TableLaws.VerdictTold image v → Told onward image out (dating image out)
    go true e v f h = told_other onward image out ((tells_dated image).0 e) (date_other image out e)
    go false e (Err r) f (TableLaws.table_refused h l) =
        told_table onward image out ((fails_law (tells_dated image)).0 e) r h l (date_refused image out r e f)
    go false e (Ok tt) f (TableLaws.table_accepted no_line) =
        told_room onward image out ((fails_law (tells_dated image)).0 e) f (λ at m x. let z : ◌≡◌ {A = ℕ} 0 1 = cc in omega arith) (date_moves image out e f)
told back image out = go (is_dated image) refl (verdict_of image) refl (TableLaws.verdict_told image) (first_dated image) refl
  where
    go : (b : Bool) → is_dated image ≡ b → (v : Verdict) → verdict_of image ≡ v → TableLaws.VerdictTold image v → (o : Option ℕ) → first_dated image ≡ o
        → Told back image out (undating image out)
    go false e v f h o d = told_other back image out ((fails_law (tells_dated image)).0 e) (undate_other image out e)
    go true e (Err r) f (TableLaws.table_refused h l) o d =
        told_table back image out (λ other. other ((tells_dated image).0 e)) r h l (undate_refused image out r e f)
    go true e (Ok tt) f (TableLaws.table_accepted no_line) (some k) d =
        told_dated back image out (λ other. other ((tells_dated image).0 e)) f k refl d (undate_dated image out k e f d)
    go true e (Ok tt) f (TableLaws.table_accepted no_line) none d =
        told_room back image out (λ other. other ((tells_dated image).0 e)) f (λ at m x. none_dated_first image d x) (undate_moves image out e f d)

module _ (move : Move) (image out : List ℕ) where
  abbrev outcome : Outcome
  outcome = calling move image out

  told_number : {o : Outcome} → Told move image out o → First.Told (Line move image out) (number o.answer) (place o.answer)
  unfolding refused done
  told_number (told_refused r h e f) =
      subst (λ (o : Outcome). First.Told (Line move image out) (number o.answer) (place o.answer)) (sym e) (First.told_refused h f)
  told_number (told_done e no_line) =
      subst (λ (o : Outcome). First.Told (Line move image out) (number o.answer) (place o.answer)) (sym e) (First.told_done refl no_line)

  abbrev Answers : ℕ → ℕ → Type 0
  Answers n p = (number outcome.answer ≡ n) × (place outcome.answer ≡ p)

  -- each refusal is given exactly when its line holds and no earlier one does
  pub refused_exactly_when : (n p : ℕ) → 0 < n → Answers n p ↔ FirstLine (Line move image out) n p
  refused_exactly_when n p h = First.refused_exactly_when (Line move image out) (one_line move image out) (told_number (told move image out)) n p h

  -- a call is done exactly when no line holds
  pub done_exactly_when : (number outcome.answer ≡ number_done) ↔ ((t n p : ℕ) → Line move image out t n p → ⊥)
  done_exactly_when = First.done_exactly_when (Line move image out) (told_number (told move image out))

  -- a refused call leaves the output as lent
  pub refused_keeps_output : 0 < number outcome.answer → outcome.output ≡ out
  unfolding refused done
  refused_keeps_output h = go (told move image out)
    where
      go : Told move image out outcome → outcome.output ≡ out
      go (told_refused r pos e f) = ap (λ (o : Outcome). o.output) e
      go (told_done e f) = let g = ap (λ (o : Outcome). number o.answer) e in absurd (omega arith)

  -- a done call writes the moved image at the front, and leaves everything beyond it as lent
  pub done_writes : number outcome.answer ≡ number_done → outcome ≡ done out (moved_by move image)
  unfolding refused done
  done_writes h = go (told move image out)
    where
      go : Told move image out outcome → outcome ≡ done out (moved_by move image)
      go (told_refused r pos e f) = let g = ap (λ (o : Outcome). number o.answer) e in absurd (omega arith)
      go (told_done e f) = e

  pub done_keeps_beyond : number outcome.answer ≡ number_done → drop (written outcome.answer) outcome.output ≡ drop (written outcome.answer) out
  unfolding done
  done_keeps_beyond h = rw (done_writes h) (drop-append_seam (moved_by move image) (drop (length (moved_by move image)) out))
