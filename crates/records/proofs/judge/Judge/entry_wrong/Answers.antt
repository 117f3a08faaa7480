-- `Judge::entry_wrong` meets its contract: each way out is a test that fails after those before it passed, and the last that all pass.
use Rattle.std.proofs.Common.{◌≡◌, ◌∙◌, sym, ap, arith}
use Rattle.std.proofs.lemmas.Grind.{common_steps}
use Rattle.std.proofs.lemmas.Bool.Decides.{nat_tests}
use Rattle.std.proofs.Math.Option.{none}
use Rattle.table.specs.inside.Found.{found}
use Rattle.table.proofs.Search.{first_found, found_at, found_nothing}
use Rattle.records.proofs.RuleTests.{string_wrong, signs_wrong, length_wrong, string_wrong_lem, StringRight, context_byte_wrong, class_byte_wrong, shift_byte_wrong, ShiftRight, sign_byte_wrong, years_wrong, entry_passes}
use Rattle.records.proofs.judge.Judge.entry_wrong.Goals as goal
use Rattle.records.proofs.judge.Judge.entry_wrong.Goals.{After-string_wrong, In_default, After-signs_wrong, In_default-signs_wrong}

-- the search of the string is the definition's
string_told : (c : After-string_wrong) → found (string_wrong c.args.self.now.image.now c.args.self.now.sections c.args.k) ≡ c.string_wrong.result
string_told c = rw (← c.record_byte-len.ensures.is) (sym c.string_wrong.ensures)

-- the length and the string are right
string_right : (c : In_default) → StringRight c.args.self.now.image.now c.args.self.now.sections c.args.k
string_right c =
    let judge = c.args.self.now in
    record {
      length_passes = grind (arith, common_steps, nat_tests);
      string_passes = found_nothing (string_wrong judge.image.now judge.sections c.args.k) (rw (← c.record_byte-len.ensures.is) (sym c.string_wrong.ensures ∙ c.in_default.is));
    }

-- and what follows up to the shift
shift_right : (c : After-signs_wrong) → StringRight c.args.self.now.image.now c.args.self.now.sections c.args.k → ShiftRight c.args.self.now.image.now c.args.self.now.sections c.args.k
shift_right c before =
    record {
      string_right = before;
      context_passes = grind (arith, common_steps);
      class_passes = grind (arith, common_steps);
      shift_passes = grind (arith, common_steps, nat_tests);
    }

signs_right : (c : In_default-signs_wrong) → signs_wrong c.args.self.now.image.now c.args.self.now.sections c.args.k ≡ none
signs_right c =
    let judge = c.args.self.now in
    found_nothing (signs_wrong judge.image.now judge.sections c.args.k) (sym c.signs_wrong.ensures ∙ c.in_default-signs_wrong.is)

pub returns-then-not-contains : goal.returns-then-not-contains
returns-then-not-contains c =
    let judge = c.args.self.now in
    sym (ap found (length_wrong judge.image.now judge.sections c.args.k (grind (arith, common_steps, nat_tests))))

pub overflow_add-result : goal.overflow_add-result
overflow_add-result c =
    let judge = c.args.self.now in
    let e = found_at (string_wrong judge.image.now judge.sections c.args.k) c.in-Some.i (string_told (goal.at.overflow_add-result c).After-string_wrong ∙ c.in-Some.is) in
    omega (arith, (first_found _ 0 _ c.in-Some.i e).high)

pub returns-in-Some : goal.returns-in-Some
returns-in-Some c =
    let judge = c.args.self.now in
    let e = found_at (string_wrong judge.image.now judge.sections c.args.k) c.in-Some.i (string_told (goal.at.returns-in-Some c).After-string_wrong ∙ c.in-Some.is) in
    sym (ap found (string_wrong_lem judge.image.now judge.sections c.args.k c.in-Some.i (grind (arith, common_steps, nat_tests)) e))

pub returns-then-not-context_right : goal.returns-then-not-context_right
returns-then-not-context_right c =
    let judge = c.args.self.now in
    sym (ap found (context_byte_wrong judge.image.now judge.sections c.args.k (string_right (goal.at.returns-then-not-context_right c).In_default) (grind (arith, common_steps))))

pub returns-then-not-class_right : goal.returns-then-not-class_right
returns-then-not-class_right c =
    let judge = c.args.self.now in
    sym
    (ap found
    (class_byte_wrong judge.image.now judge.sections c.args.k (string_right (goal.at.returns-then-not-class_right c).In_default) (grind (arith, common_steps)) (grind (arith, common_steps))))

pub returns-then-not-contains-2 : goal.returns-then-not-contains-2
returns-then-not-contains-2 c =
    let judge = c.args.self.now in
    sym
    (ap found
    (shift_byte_wrong judge.image.now judge.sections c.args.k (string_right (goal.at.returns-then-not-contains-2 c).In_default) (grind (arith, common_steps)) (grind (arith, common_steps))
    (grind (arith, common_steps, nat_tests))))

pub overflow_add-result-in-Some-signs_wrong : goal.overflow_add-result-in-Some-signs_wrong
overflow_add-result-in-Some-signs_wrong c =
    let judge = c.args.self.now in
    let e = found_at (signs_wrong judge.image.now judge.sections c.args.k) c.in-Some-signs_wrong.i (sym c.signs_wrong.ensures ∙ c.in-Some-signs_wrong.is) in
    omega (arith, (first_found _ 0 _ c.in-Some-signs_wrong.i e).high)

pub returns-in-Some-signs_wrong : goal.returns-in-Some-signs_wrong
returns-in-Some-signs_wrong c =
    let judge = c.args.self.now in
    let at = goal.at.returns-in-Some-signs_wrong c in
    let e = found_at (signs_wrong judge.image.now judge.sections c.args.k) c.in-Some-signs_wrong.i (sym c.signs_wrong.ensures ∙ c.in-Some-signs_wrong.is) in
    sym (ap found (sign_byte_wrong judge.image.now judge.sections c.args.k c.in-Some-signs_wrong.i (shift_right at.After-signs_wrong (string_right at.In_default)) e))

pub returns-then-years : goal.returns-then-years
returns-then-years c =
    let judge = c.args.self.now in
    let at = goal.at.returns-then-years c in
    sym (ap found (years_wrong judge.image.now judge.sections c.args.k (shift_right at.After-signs_wrong (string_right at.In_default)) (signs_right at.In_default-signs_wrong) (grind (arith, common_steps, nat_tests))))

pub returns : goal.returns
returns c =
    let judge = c.args.self.now in
    let at = goal.at.returns c in
    sym (ap found (entry_passes judge.image.now judge.sections c.args.k (shift_right at.After-signs_wrong (string_right at.In_default)) (signs_right at.In_default-signs_wrong) (grind (arith, common_steps, nat_tests))))
