-- `Judge::letter_wrong` meets its contract: the rule is three tests, and a symbol is new where its number is the record's own.
use Rattle.std.proofs.Common.{◌<◌, sym, ap, arith}
use Rattle.std.proofs.lemmas.Grind.{common_steps}
use Rattle.std.proofs.lemmas.Bool.Decides.{nat_tests}
use Rattle.table.specs.inside.Found.{found}
use Rattle.records.proofs.LetterNumbers.{symbol_told}
use Rattle.records.proofs.JudgedSteps.{few_letters}
use Rattle.records.proofs.RuleTests.{symbol_wrong, letter_class_wrong, letter_sign_wrong, letter_passes}
use Rattle.records.proofs.judge.Judge.letter_wrong.Goals as goal

pub overflow_add-new : goal.overflow_add-new
overflow_add-new c =
    let judge = c.args.self.now in
    let few : judge.sections.alphabet.records < 65535 = rw judge.located (few_letters judge.image.now) in
    record { fits = omega arith }

pub returns-then-not-new : goal.returns-then-not-new
returns-then-not-new c =
    let judge = c.args.self.now in
    let t = symbol_told judge.image.now judge.sections c.args.k judge.letters.now judge.gathered c.requires c.record_byte-symbol.result c.record_byte-symbol.ensures.is (omega arith) in
    sym (ap found (symbol_wrong judge.image.now judge.sections c.args.k (grind (arith, common_steps, nat_tests))))

pub returns-then-not-class_right : goal.returns-then-not-class_right
returns-then-not-class_right c =
    let judge = c.args.self.now in
    let t = symbol_told judge.image.now judge.sections c.args.k judge.letters.now judge.gathered c.requires c.record_byte-symbol.result c.record_byte-symbol.ensures.is (omega arith) in
    sym (ap found (letter_class_wrong judge.image.now judge.sections c.args.k (grind (arith, common_steps, nat_tests)) (grind (arith, common_steps))))

pub returns-then-not-letter_sign_right : goal.returns-then-not-letter_sign_right
returns-then-not-letter_sign_right c =
    let judge = c.args.self.now in
    let t = symbol_told judge.image.now judge.sections c.args.k judge.letters.now judge.gathered c.requires c.record_byte-symbol.result c.record_byte-symbol.ensures.is (omega arith) in
    sym (ap found (letter_sign_wrong judge.image.now judge.sections c.args.k (grind (arith, common_steps, nat_tests)) (grind (arith, common_steps)) (grind (arith, common_steps))))

pub returns : goal.returns
returns c =
    let judge = c.args.self.now in
    let t = symbol_told judge.image.now judge.sections c.args.k judge.letters.now judge.gathered c.requires c.record_byte-symbol.result c.record_byte-symbol.ensures.is (omega arith) in
    sym (ap found (letter_passes judge.image.now judge.sections c.args.k (grind (arith, common_steps, nat_tests)) (grind (arith, common_steps)) (grind (arith, common_steps))))
