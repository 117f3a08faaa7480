-- `Translator::is_known` meets its contract: a symbol is known where the search for its record finds one.
use mathlib.Core.Path.{◌≡◌, refl, ◌∙◌, ap}
use mathlib.Core.Option.{Option, none, some}
use Prim.Native.Nat.{ℕ}
use Rattle.std.specs.Prelude.{is_some}
use Rattle.table.specs.Search.{is_there}
use Rattle.translation.specs.Letters.{is_known}
use Rattle.table.specs.inside.Found.{found}
use Rattle.translation.proofs.translator.Translator.is_known.Goals as goal

found_there : (o : Option ℕ) → is_some (found o) ≡ is_there o
found_there none = refl
found_there (some k) = refl

pub returns : goal.returns
unfolding is_known
returns c = c.is_some.ensures ∙ ap is_some c.letter_of.ensures ∙ found_there _
