-- `Translator::by_letter` meets its contract: one character, with the class and the sign of its record.
use mathlib.Core.Path.{refl}
use Rattle.translation.specs.Letters.{class_of}
use Rattle.translation.proofs.translator.Translator.by_letter.Goals as goal

pub returns : goal.returns
unfolding class_of
returns c =
    record { shift_is = refl; class_is = c.letter_for-letter.ensures.class; wrote = rw (← c.letter_for-letter.ensures.sign) c.print.ensures }
