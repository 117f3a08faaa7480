-- `Translator::first_unknown` meets its contract: the place that the library's search finds is the definition's.
use mathlib.Core.Path.{◌∙◌}
use Rattle.std.proofs.Common.{rules, tests}
use Rattle.std.proofs.lemmas.Iterator.{YieldsList-from_slice}
use Rattle.std.proofs.lemmas.Iterator.Search.{position_from_yields_List}
use Rattle.translation.specs.Letters.{is_unknown, first_unknown}
use Rattle.translation.specs.inside.Tables.{table_by}
use Rattle.translation.proofs.Library.{position_first}
use Rattle.translation.proofs.translator.Translator.first_unknown.Goals as goal

pub returns : goal.returns
unfolding first_unknown
returns c =
    position_from_yields_List (is_unknown (table_by c.args.self.now).letters) _ _ _ c.position.ensures.ran
    (YieldsList-from_slice c.args.text.now c.iter.ensures.rest) (λ x b q k. search (rules, tests))
    ∙ position_first (is_unknown (table_by c.args.self.now).letters) c.args.text.now
