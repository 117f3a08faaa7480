-- `Judge::decision_wrong` meets its contract: the walk finds the first byte that is wrong, among those of the classes or past them.
use Rattle.std.proofs.Common.{ℕ, ◌+◌, ◌<◌, Bool, true, false, not, ◌≡◌, ◌∙◌, sym, ap, arith, rules}
use Rattle.std.proofs.lemmas.Grind.{common_steps}
use Rattle.std.proofs.lemmas.Iterator.{first_from_Range}
use Rattle.table.specs.inside.Found.{found}
use Rattle.records.proofs.RuleTests.{column_test, decision_wrong}
use Rattle.records.proofs.JudgedSteps.{few_numbers}
use Rattle.records.proofs.Walks.{first_passing}
use Rattle.records.proofs.judge.Judge.decision_wrong.Goals as goal

pub overflow_add-s : goal.overflow_add-s
overflow_add-s c =
    let judge = c.args.self.now in
    let few : judge.sections.classes + judge.sections.variables < 65536 = rw judge.located (few_numbers judge.image.now) in
    record { fits = omega arith }

pub returns : goal.returns
returns c =
    let judge = c.args.self.now in
    let test : ℕ → Bool = λ j. not (column_test judge.image.now judge.sections c.args.k j) in
    first_passing test (judge.sections.classes + judge.sections.variables) c.find.result
    (first_from_Range _ _ _ c.find.result (λ j. test j ≡ true) (λ j. test j ≡ false) c.find.ensures.ran
    (λ x q h. grind (arith, common_steps))
    (λ x q h. search rules))
    ∙ ap found (sym (decision_wrong judge.image.now judge.sections c.args.k))
