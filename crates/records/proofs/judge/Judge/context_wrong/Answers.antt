-- `Judge::context_wrong` meets its contract: the walk finds the first class that is wrong.
use Rattle.std.proofs.Common.{ℕ, Bool, true, false, not, ◌≡◌, ◌∙◌, sym, ap, arith, rules}
use Rattle.std.proofs.lemmas.Grind.{common_steps}
use Rattle.std.proofs.lemmas.Iterator.{first_from_Range}
use Rattle.table.specs.Sections.{record_byte}
use Rattle.table.specs.Numbers.{context_size}
use Rattle.table.specs.Records.{right_class}
use Rattle.table.specs.inside.Found.{found}
use Rattle.records.proofs.RuleTests.{context_wrong}
use Rattle.records.proofs.Walks.{first_passing}
use Rattle.records.proofs.judge.Judge.context_wrong.Goals as goal

pub returns : goal.returns
returns c =
    let judge = c.args.self.now in
    let test : ℕ → Bool = λ j. not (right_class judge.sections (record_byte judge.image.now judge.sections.contexts c.args.k j)) in
    first_passing test context_size c.find.result
    (first_from_Range _ _ _ c.find.result (λ j. test j ≡ true) (λ j. test j ≡ false) c.find.ensures.ran
    (λ x q h. grind (arith, common_steps))
    (λ x q h. search rules))
    ∙ ap found (sym (context_wrong judge.image.now judge.sections c.args.k))
