-- `Translator::class_after` meets its contract: past the end of the rest the library's reader answers the symbol that follows.
use mathlib.Core.Path.{◌∙◌, ap}
use native.Mathlib.Omega.{arith}
use Rattle.translation.specs.Letters.{class_of}
use Rattle.translation.specs.Choose.{class_after}
use Rattle.translation.specs.inside.Tables.{table_by}
use Rattle.translation.proofs.translator.Translator.class_after.Goals as goal

pub returns : goal.returns
unfolding class_after
returns c =
    let t = c.args.self.now in
    c.letter_for.ensures.class
    ∙ ap (class_of (table_by t).letters) (rw (c.unwrap_or-c.ensures, c.copied.ensures) (c.get.ensures.lookup.4 (omega arith) t.setting.following))
