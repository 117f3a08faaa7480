-- `files::charting::character` meets its contract: the characters of the cells are the chart.
use Rattle.std.proofs.Common.{[], ◌∷◌, sym, arith}
use Rattle.std.proofs.lemmas.List.{get_or_append_left}
use Rattle.translation.specs.Numbers.{line_feed}
use Rattle.embosser.specs.Numbers.{form_feed}
use Rattle.embosser.specs.Chart.{chart, characters, character_of}
use Rattle.files.proofs.charting.character.Goals as goal

pub returns-in_default : goal.returns-in_default
unfolding character_of characters
returns-in_default c = rw c.from.ensures (sym (get_or_append_left chart (line_feed ∷ form_feed ∷ []) 0 c.args.byte (omega arith)))
