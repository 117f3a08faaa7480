-- `Translator::letter_for` meets its contract: the class and the sign are read in the symbol's record, where there is one.
use mathlib.Core.Path.{sym, ◌∙◌, ap}
use Rattle.table.specs.Table.{Letter, letter_at}
use Rattle.translation.specs.Letters.{class_of}
use Rattle.table.proofs.Search.{found_at, found_nothing}
use Rattle.translation.proofs.Records.{letter_for_found, letter_for_missing}
use Rattle.translation.proofs.translator.Translator.letter_for.Goals as goal

pub returns-in-Some : goal.returns-in-Some
unfolding letter_at class_of
returns-in-Some c =
    let t = c.args.self.now in
    let is = letter_for_found t.image.now t.sections c.args.c _ (found_at _ _ (sym c.letter_of.ensures ∙ c.in-Some.is)) in
    record {
      class = c.record_byte.ensures.is ∙ sym (ap (λ (x : Letter). x.class) is);
      sign = c.record_byte-in-Some.ensures.is ∙ sym (ap (λ (x : Letter). x.sign) is);
    }

pub returns-in-None : goal.returns-in-None
unfolding class_of
returns-in-None c =
    let t = c.args.self.now in
    let is = letter_for_missing t.image.now t.sections c.args.c (found_nothing _ (sym c.letter_of.ensures ∙ c.in-None.is)) in
    record { class = sym (ap (λ (x : Letter). x.class) is); sign = sym (ap (λ (x : Letter). x.sign) is) }
