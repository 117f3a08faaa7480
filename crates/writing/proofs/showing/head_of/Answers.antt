-- `writing::showing::head_of` meets its contract: the draft of the definition, field by field.
use mathlib.Core.Path.{refl}
use Rattle.form.specs.Showing.{head_of}
use Rattle.writing.proofs.showing.head_of.Goals as goal

pub returns : goal.returns
unfolding head_of
returns c = refl
