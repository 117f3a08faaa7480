-- `translation::translating::translate` meets its contract: the array that is lent has 65,536 bytes, as many as a text can have signs.
use Rattle.translation.specs.Handed.{translation}
use Rattle.translation.proofs.translating.translate.Goals as goal

pub returns : goal.returns
unfolding translation
returns c =
    let ends = c.translate_on.ensures in
    record { answers = ends.answers; leaves = ends.leaves }
