-- `Translator::rule` meets its contract: the column's record lies within the image.
use native.Mathlib.Omega.{arith}
use Rattle.translation.proofs.Accepted.{opened}
use Rattle.translation.proofs.translator.Translator.rule.Goals as goal

pub byte_of_class-requires : goal.byte_of_class-requires
byte_of_class-requires c =
    let lies = (opened c.args.self.now).laid.decisions_laid.lies c.args.k c.requires in
    omega arith
