-- `Judge::string_wrong` meets its contract: the walk finds the first string byte that is wrong.
use Rattle.std.proofs.Common.{ℕ, ◌+◌, Bool, true, false, not, ◌≡◌, arith, rules}
use Rattle.std.proofs.lemmas.Grind.{common_steps}
use Rattle.std.proofs.lemmas.Iterator.{first_from_Range}
use Rattle.table.specs.Numbers.{string_byte, most_length}
use Rattle.table.specs.Sections.{record_byte}
use Rattle.table.specs.Records.{symbols, right_string_byte}
use Rattle.records.proofs.Walks.{first_passing}
use Rattle.records.proofs.judge.Judge.string_wrong.Goals as goal

pub returns : goal.returns
returns c =
    let judge = c.args.self.now in
    let test : ℕ → Bool = λ i. not (right_string_byte (symbols judge.image.now judge.sections) c.args.len i (record_byte judge.image.now judge.sections.contractions c.args.k (string_byte + i))) in
    first_passing test most_length c.find.result
    (first_from_Range _ _ _ c.find.result (λ j. test j ≡ true) (λ j. test j ≡ false) c.find.ensures.ran
    (λ x q h. grind (arith, common_steps))
    (λ x q h. search rules))
