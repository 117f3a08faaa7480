-- 'Each refusal is given exactly when its line holds and no earlier one does', for the answers about a table. The idea: where its line holds a check
-- refuses, at the line's place, and otherwise the verdict is the next check's. Whether a line holds can be told, so the verdict tells the line that holds
-- first, or that none does.
use Prim.Native.Nat.{ℕ, ◌+◌, ◌≤◌, ◌<◌}
use mathlib.Core.List.{List}
use mathlib.Core.Logic.Dec
use mathlib.Core.Logic.{◌↔◌, ◌⊎◌, inl, inr, ⊎_elim}
use mathlib.Core.Option.{Option, none, some}
use mathlib.Core.Path.{◌≡◌, refl, sym, ◌∙◌, ap, subst}
use native.Mathlib.Omega.{arith}
use Rattle.table.specs.Numbers.{blank, number_done}
use Rattle.table.specs.Answers.{refusal_number, refusal_place}
use Rattle.table.specs.FirstLine.{FirstLine}
use Rattle.table.specs.Sections.{sections_in}
use Rattle.table.specs.Records.{SectionName, alphabet, contractions, contexts, transitions, decisions, Wrong, first_wrong}
use Rattle.table.specs.Grouping.{first_break}
use Rattle.table.specs.Grouped.{Grouped}
use Rattle.table.specs.Verdict.{refusal_in, grouping_verdict, blank_verdict, records_verdict, verdict_of}
use Rattle.table.specs.Refusals.{verdict_number, verdict_place, FrameRight, InAlphabet, RecordsRight, sections_before, WrongAt, strings_in, Refusal1, Refusal3, Refusal4, table_lines, Line, line_1, line_2, line_11, line_12, line_13, line_14, line_3, line_4}
use Rattle.table.specs.declared.Sections.{Sections}
use Rattle.table.specs.declared.Refusal.{Refusal}
use Rattle.table.specs.declared.Refusal.TheVariants.{Frame, NoBlank, Grouping}
use Rattle.table.specs.Answers.{Verdict}
use Rattle.std.specs.Prelude.{Ok, Err}
use Rattle.table.proofs.Tests.{decided_by, fails_law}
use Rattle.table.proofs.Frame.{frame_right_lem}
use Rattle.table.proofs.RightRecords.{tells_in_alphabet}
use Rattle.table.proofs.FirstLine.{NoneBefore, OneLine, Told, told_refused, told_done, refused_exactly_when, done_exactly_when}
use Rattle.table.proofs.FirstWrong.{first_wrong_lem, right_of_none, wrong_record, none_of_right, no_earlier_section, one_first_wrong, first_wrong_is}
use Rattle.table.proofs.Grouping.{first_to_break, first_break_is, grouped_of_none, none_of_grouped}

module _ (image : List ℕ) where
  abbrev s : Sections
  s = sections_in image

  -- ---- Where a line doesn't hold

  pub no_refusal_1 : (Refusal1 image → ⊥) ↔ FrameRight image
  no_refusal_1 = Dec.not-not (decided_by (frame_right_lem image))

  -- a byte is the first wrong one, or all records are right
  told_records : ((name : SectionName) × (at : ℕ) × WrongAt image name at) ⊎ RecordsRight image s
  told_records = go (first_wrong image s) refl
    where
      go : (o : Option Wrong) → first_wrong image s ≡ o → ((name : SectionName) × (at : ℕ) × WrongAt image name at) ⊎ RecordsRight image s
      go none e = inr (right_of_none image s e)
      go (some w) e =
          inl (w.section, _, record { index = w.index; byte = w.byte; first_wrong_lem = first_wrong_lem image s w e; place = refl })

  -- no line of a section holds
  abbrev NoneWrong : Type 0
  NoneWrong = (name : SectionName) (at : ℕ) → WrongAt image name at → ⊥

  pub no_wrong_record : NoneWrong ↔ RecordsRight image s
  no_wrong_record = (
    λ h. ⊎_elim (λ r. absurd (h r.0 r.1 r.2)) (λ right. right) told_records,
    λ right name at r. wrong_record image s r.first_wrong_lem (right name r.index r.first_wrong_lem.there),
  )

  pub no_refusal_3 : (Refusal3 image → ⊥) ↔ InAlphabet image s blank
  no_refusal_3 = Dec.not-not (decided_by (tells_in_alphabet image s blank))

  -- a record breaks the grouping first, or the table is grouped
  told_4 : ((at : ℕ) × Refusal4 image at) ⊎ Grouped (strings_in image)
  told_4 = go (first_break (strings_in image)) refl
    where
      go : (o : Option ℕ) → first_break (strings_in image) ≡ o → ((at : ℕ) × Refusal4 image at) ⊎ Grouped (strings_in image)
      go none e = inr (grouped_of_none (strings_in image) e)
      go (some r) e = inl (_, record { index = r; first_to_break = first_to_break (strings_in image) r e; place = refl })

  pub no_refusal_4 : ((at : ℕ) → Refusal4 image at → ⊥) ↔ Grouped (strings_in image)
  no_refusal_4 = (
    λ h. ⊎_elim (λ r. absurd (h r.0 r.1)) (λ g. g) told_4,
    λ g at r.
        let v = r.first_to_break.breaks.violated in
        v.differ (g r.first_to_break.breaks.earlier v.m r.index v.p v.after v.before r.first_to_break.there v.agree),
  )

  -- ---- Each check: where its line holds it refuses, and otherwise it hands on to the next

  frame_refused : Refusal1 image → verdict_of image ≡ Err Frame
  unfolding verdict_of
  frame_refused h = rw ((fails_law (frame_right_lem image)).1 h, verdict_of)

  frame_passed : (Refusal1 image → ⊥) → verdict_of image ≡ records_verdict image s
  unfolding verdict_of
  frame_passed h = rw ((frame_right_lem image).1 (no_refusal_1.0 h), verdict_of)

  record_refused : (name : SectionName) (at : ℕ) → WrongAt image name at → records_verdict image s ≡ Err (refusal_in name at)
  unfolding records_verdict
  record_refused name at r =
      rw (first_wrong_is image s name r.index r.byte r.first_wrong_lem, records_verdict) (ap (λ (p : ℕ). Err (refusal_in name p)) (sym r.place))

  records_passed : NoneWrong → records_verdict image s ≡ blank_verdict image s
  unfolding records_verdict
  records_passed h = rw (none_of_right image s (no_wrong_record.0 h), records_verdict)

  blank_refused : Refusal3 image → blank_verdict image s ≡ Err NoBlank
  unfolding blank_verdict
  blank_refused h = rw ((fails_law (tells_in_alphabet image s blank)).1 h, blank_verdict)

  blank_passed : (Refusal3 image → ⊥) → blank_verdict image s ≡ grouping_verdict image s
  unfolding blank_verdict
  blank_passed h = rw ((tells_in_alphabet image s blank).1 (no_refusal_3.0 h), blank_verdict)

  grouping_refused : (at : ℕ) → Refusal4 image at → grouping_verdict image s ≡ Err (Grouping at)
  unfolding grouping_verdict
  grouping_refused at r = rw (first_break_is (strings_in image) r.index r.first_to_break, grouping_verdict) (cc r.place)

  grouping_passed : ((at : ℕ) → Refusal4 image at → ⊥) → grouping_verdict image s ≡ (Ok tt)
  unfolding grouping_verdict
  grouping_passed h = rw (none_of_grouped (strings_in image) (no_refusal_4.0 h), grouping_verdict)

  -- ---- The lines, in their turns

  -- the line of a section, in its turn
  turn_of : SectionName → ℕ
  turn_of name = 2 + sections_before name

  record_line : (name : SectionName) {at : ℕ} → WrongAt image name at → Line image (turn_of name) (refusal_number (refusal_in name at)) (refusal_place (refusal_in name at))
  unfolding turn_of
  record_line alphabet r = line_2 r
  record_line contractions r = line_11 r
  record_line contexts r = line_12 r
  record_line transitions r = line_13 r
  record_line decisions r = line_14 r

  -- the lines are the eight
  pub within_table : {t n p : ℕ} → Line image t n p → t ≤ table_lines
  within_table (line_1 x) = omega arith
  within_table (line_2 x) = omega arith
  within_table (line_11 x) = omega arith
  within_table (line_12 x) = omega arith
  within_table (line_13 x) = omega arith
  within_table (line_14 x) = omega arith
  within_table (line_3 x) = omega arith
  within_table (line_4 x) = omega arith

  -- what a line of the table is: of the frame, of a section in its turn, of the blank or of the grouping
  data Kind (t : ℕ) : Type 0 where
    of_frame : t ≡ 1 → Refusal1 image → Kind t
    of_section : {name : SectionName} {at : ℕ} → t ≡ turn_of name → WrongAt image name at → Kind t
    of_blank : t ≡ 7 → Refusal3 image → Kind t
    of_grouping : {at : ℕ} → t ≡ 8 → Refusal4 image at → Kind t

  kind_of : {t n p : ℕ} → Line image t n p → Kind t
  unfolding turn_of
  kind_of (line_1 x) = of_frame refl x
  kind_of (line_2 x) = of_section refl x
  kind_of (line_11 x) = of_section refl x
  kind_of (line_12 x) = of_section refl x
  kind_of (line_13 x) = of_section refl x
  kind_of (line_14 x) = of_section refl x
  kind_of (line_3 x) = of_blank refl x
  kind_of (line_4 x) = of_grouping refl x

  five_sections : (name : SectionName) → turn_of name < 7
  unfolding turn_of
  five_sections alphabet = omega arith
  five_sections contractions = omega arith
  five_sections contexts = omega arith
  five_sections transitions = omega arith
  five_sections decisions = omega arith

  after_the_frame : (name : SectionName) → 1 < turn_of name
  unfolding turn_of
  after_the_frame name = omega arith

  none_before_frame : NoneBefore (Line image) 1
  none_before_frame t n p h l = go (kind_of l)
    where
      go : Kind t → ⊥
      go (of_frame e x) = omega arith
      go (of_section {name} e x) = let u = after_the_frame name in omega arith
      go (of_blank e x) = omega arith
      go (of_grouping e x) = omega arith

  none_before_record : (Refusal1 image → ⊥) → {name : SectionName} {at : ℕ} → WrongAt image name at → NoneBefore (Line image) (turn_of name)
  unfolding turn_of
  none_before_record f {name} r t n p h l = go (kind_of l)
    where
      go : Kind t → ⊥
      go (of_frame e x) = f x
      go (of_section {name = other} e x) = no_earlier_section image s x.first_wrong_lem r.first_wrong_lem (omega arith)
      go (of_blank e x) = let u = five_sections name in omega arith
      go (of_grouping e x) = let u = five_sections name in omega arith

  none_before_blank : (Refusal1 image → ⊥) → NoneWrong → NoneBefore (Line image) 7
  none_before_blank f r t n p h l = go (kind_of l)
    where
      go : Kind t → ⊥
      go (of_frame e x) = f x
      go (of_section {name} {at} e x) = r name at x
      go (of_blank e x) = omega arith
      go (of_grouping e x) = omega arith

  none_before_grouping : (Refusal1 image → ⊥) → NoneWrong → (Refusal3 image → ⊥) → NoneBefore (Line image) 8
  none_before_grouping f r b t n p h l = go (kind_of l)
    where
      go : Kind t → ⊥
      go (of_frame e x) = f x
      go (of_section {name} {at} e x) = r name at x
      go (of_blank e x) = b x
      go (of_grouping e x) = omega arith

  none_at_all : (Refusal1 image → ⊥) → NoneWrong → (Refusal3 image → ⊥) → ((p : ℕ) → Refusal4 image p → ⊥) → (t n p : ℕ) → Line image t n p → ⊥
  none_at_all f r b g t n p l = go (kind_of l)
    where
      go : Kind t → ⊥
      go (of_frame e x) = f x
      go (of_section {name} {at} e x) = r name at x
      go (of_blank e x) = b x
      go (of_grouping {at} e x) = g at x

  -- ---- The verdict

  -- what a verdict tells: the line that holds first, or that none does
  pub data VerdictTold : Verdict → Type 0 where
    table_refused : {r : Refusal} → 0 < refusal_number r → FirstLine (Line image) (refusal_number r) (refusal_place r) → VerdictTold (Err r)
    table_accepted : ((t n p : ℕ) → Line image t n p → ⊥) → VerdictTold (Ok tt)

  record_number : (name : SectionName) (at : ℕ) → 0 < refusal_number (refusal_in name at)
  record_number alphabet at = omega arith
  record_number contractions at = omega arith
  record_number contexts at = omega arith
  record_number transitions at = omega arith
  record_number decisions at = omega arith

  pub verdict_told : VerdictTold (verdict_of image)
  verdict_told = go (decided_by (frame_right_lem image)) told_records (decided_by (tells_in_alphabet image s blank)) told_4
    where
      by : {v : Verdict} → verdict_of image ≡ v → VerdictTold v → VerdictTold (verdict_of image)
      by e t = subst VerdictTold (sym e) t

      go : Dec (FrameRight image) → ((name : SectionName) × (at : ℕ) × WrongAt image name at) ⊎ RecordsRight image s → Dec (InAlphabet image s blank)
          → ((at : ℕ) × Refusal4 image at) ⊎ Grouped (strings_in image) → VerdictTold (verdict_of image)
      go (no f) r b g =
          by (frame_refused f) (table_refused {r = Frame} (omega arith) (record { turn = 1; line = line_1 f; none_before = none_before_frame }))
      go (yes f) (inl r) b g =
          let passed = no_refusal_1.1 f in
          by (frame_passed passed ∙ record_refused r.0 r.1 r.2)
          (table_refused {r = refusal_in r.0 r.1} (record_number r.0 r.1)
          (record { turn = turn_of r.0; line = record_line r.0 r.2; none_before = none_before_record passed r.2 }))
      go (yes f) (inr r) (no b) g =
          let passed = no_refusal_1.1 f in
          let right = no_wrong_record.1 r in
          by (frame_passed passed ∙ records_passed right ∙ blank_refused b)
          (table_refused {r = NoBlank} (omega arith) (record { turn = 7; line = line_3 b; none_before = none_before_blank passed right }))
      go (yes f) (inr r) (yes b) (inl g) =
          let passed = no_refusal_1.1 f in
          let right = no_wrong_record.1 r in
          let there = no_refusal_3.1 b in
          by (frame_passed passed ∙ records_passed right ∙ blank_passed there ∙ grouping_refused g.0 g.1)
          (table_refused {r = Grouping g.0} (omega arith)
          (record { turn = 8; line = line_4 g.1; none_before = none_before_grouping passed right there }))
      go (yes f) (inr r) (yes b) (inr g) =
          let passed = no_refusal_1.1 f in
          let right = no_wrong_record.1 r in
          let there = no_refusal_3.1 b in
          let grouped = no_refusal_4.1 g in
          by (frame_passed passed ∙ records_passed right ∙ blank_passed there ∙ grouping_passed grouped)
          (table_accepted (none_at_all passed right there grouped))

  -- the table is accepted exactly where no line holds
  pub accepted_exactly_when : (verdict_of image ≡ (Ok tt)) ↔ ((t n p : ℕ) → Line image t n p → ⊥)
  accepted_exactly_when = (λ e. forth (subst VerdictTold e verdict_told), λ no_line. back (verdict_of image) refl verdict_told no_line)
    where
      forth : VerdictTold (Ok tt) → (t n p : ℕ) → Line image t n p → ⊥
      forth (table_accepted no_line) = no_line

      back : (v : Verdict) → verdict_of image ≡ v → VerdictTold v → ((t n p : ℕ) → Line image t n p → ⊥) → verdict_of image ≡ (Ok tt)
      back (Err r) e (table_refused h f) no_line = absurd (no_line f.turn _ _ f.line)
      back (Ok tt) e (table_accepted no_line) none_holds = e

  -- and exactly where it is right in every way
  pub accepted :
      (verdict_of image ≡ (Ok tt)) ↔ (FrameRight image × RecordsRight image s × InAlphabet image s blank × Grouped (strings_in image))
  accepted = (
    λ e.
        let none_holds = accepted_exactly_when.0 e in (
          no_refusal_1.0 (λ x. none_holds _ _ _ (line_1 x)),
          no_wrong_record.0 (λ name at x. none_holds _ _ _ (record_line name x)),
          no_refusal_3.0 (λ x. none_holds _ _ _ (line_3 x)),
          no_refusal_4.0 (λ p x. none_holds _ _ _ (line_4 x)),
        ),
    λ h.
        accepted_exactly_when.1
        (none_at_all (no_refusal_1.1 h.0) (no_wrong_record.1 h.1) (no_refusal_3.1 h.2) (no_refusal_4.1 h.3)),
  )

  -- in one section the first wrong byte has one place
  one_place : {name : SectionName} {p q : ℕ} → WrongAt image name p → WrongAt image name q → p ≡ q
  one_place x y =
      let one = one_first_wrong image s x.first_wrong_lem y.first_wrong_lem in
      cc (x.place, y.place, one.0, one.1)

  one_break : {p q : ℕ} → Refusal4 image p → Refusal4 image q → p ≡ q
  one_break x y =
      let a = first_break_is (strings_in image) x.index x.first_to_break in
      let b = first_break_is (strings_in image) y.index y.first_to_break in
      cc (x.place, y.place, a, b)

  pub one_line : OneLine (Line image)
  one_line t m p n q before (line_1 x) (line_1 y) = (refl, refl)
  one_line t m p n q before (line_2 x) (line_2 y) = (refl, one_place x y)
  one_line t m p n q before (line_11 x) (line_11 y) = (refl, one_place x y)
  one_line t m p n q before (line_12 x) (line_12 y) = (refl, one_place x y)
  one_line t m p n q before (line_13 x) (line_13 y) = (refl, one_place x y)
  one_line t m p n q before (line_14 x) (line_14 y) = (refl, one_place x y)
  one_line t m p n q before (line_3 x) (line_3 y) = (refl, refl)
  one_line t m p n q before (line_4 x) (line_4 y) = (refl, one_break x y)

  told_number : {v : Verdict} → VerdictTold v → Told (Line image) (verdict_number v) (verdict_place v)
  told_number (table_refused h f) = told_refused h f
  told_number (table_accepted no_line) = told_done refl no_line

-- the check of a table answers with this number and this place
abbrev pub Answers : List ℕ → ℕ → ℕ → Type 0
Answers image number place = (verdict_number (verdict_of image) ≡ number) × (verdict_place (verdict_of image) ≡ place)

pub answer_exactly_when : (image : List ℕ) (n p : ℕ) → 0 < n → Answers image n p ↔ FirstLine (Line image) n p
answer_exactly_when image n p h = refused_exactly_when (Line image) (one_line image) (told_number image (verdict_told image)) n p h

pub answer_0_exactly_when : (image : List ℕ) → (verdict_number (verdict_of image) ≡ number_done) ↔ ((t n p : ℕ) → Line image t n p → ⊥)
answer_0_exactly_when image = done_exactly_when (Line image) (told_number image (verdict_told image))
