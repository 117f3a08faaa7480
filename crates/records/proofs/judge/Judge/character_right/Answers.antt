-- `Judge::character_right` meets its contract: the branch is the definition's, and a character is in the alphabet where it has a number.
use Rattle.std.proofs.Common.{arith}
use Rattle.std.proofs.lemmas.Grind.{common_steps}
use Rattle.std.proofs.lemmas.Bool.Decides.{nat_tests}
use Rattle.table.specs.Records.{right_string_byte}
use Rattle.records.proofs.LetterNumbers.{character_told}
use Rattle.records.proofs.judge.Judge.character_right.Goals as goal

pub returns-then-i-from : goal.returns-then-i-from
unfolding right_string_byte
returns-then-i-from c =
    let judge = c.args.self.now in
    let t = character_told judge.image.now judge.sections c.args.c judge.letters.now judge.gathered c.ranges.c.fits in
    grind (arith, common_steps, nat_tests)

pub returns-else-i-from : goal.returns-else-i-from
unfolding right_string_byte
returns-else-i-from c = grind (arith, common_steps, nat_tests)
