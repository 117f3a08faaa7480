-- `ink::looking::capitals_on` meets its contract. The loop's invariant: the word that goes on from here has capitals alone where the whole has.
use mathlib.Core.Path.{◌≡◌}
use lib.ListN.{length}
use Rattle.inkprint.specs.Characters.{characters_of}
use Rattle.inkprint.specs.Marks.{capitals_on}
use Rattle.ink.proofs.looking.capitals_on.Given as goal

abbrev pub invariant-loop-c : goal.invariant-loop-c
invariant-loop-c l = capitals_on (characters_of l.left) ≡ capitals_on (characters_of l.text)

abbrev pub decreases-loop-c : goal.decreases-loop-c
decreases-loop-c l = length l.left
