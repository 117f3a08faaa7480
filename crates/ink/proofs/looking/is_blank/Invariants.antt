-- `ink::looking::is_blank` meets its contract. The loop's invariant: what is left of the text is blank where the whole is.
use mathlib.Core.Path.{◌≡◌}
use lib.ListN.{length}
use Rattle.inkprint.specs.Characters.{characters_of}
use Rattle.inkprint.specs.Marks.{is_blank}
use Rattle.ink.proofs.looking.is_blank.Given as goal

abbrev pub invariant-loop-c : goal.invariant-loop-c
invariant-loop-c l = is_blank (characters_of l.left) ≡ is_blank (characters_of l.text)

abbrev pub decreases-loop-c : goal.decreases-loop-c
decreases-loop-c l = length l.left
