-- The alphabet record of a character, and the first character of the text as lent that has none (refusal 7).
use Rattle.std.specs.Prelude.{ℕ, Bool, not, ◌&&◌, List, length, get_or, eqb}
use Rattle.std.proofs.Math.Option.{Option, none, some}
use Rattle.table.specs.Numbers.{bar, no_cell}
use Rattle.table.specs.Search.{first, is_there}
use Rattle.table.specs.Table.{Letter}
use Rattle.translation.specs.Collapse.{unfed}

-- what stands for the record of a character that has none
abbrev pub no_letter : Letter
no_letter = record { symbol = 0; class = 0; sign = no_cell }

abbrev pub letter : List Letter → ℕ → Letter
letter letters k = get_or letters k no_letter

-- which record of the alphabet has the symbol
unfoldable pub letter_of : List Letter → ℕ → Option ℕ
letter_of letters c = first (λ k. eqb (letter letters k).symbol c) (length letters)

unfoldable pub letter_for : List Letter → ℕ → Letter
letter_for letters c = elim (letter_of letters c) [ none ↦ no_letter | some k ↦ letter letters k ]

unfoldable pub class_of : List Letter → ℕ → ℕ
class_of letters c = (letter_for letters c).class

-- the symbol that follows the end is looked up as it is: no alphabet has a line feed or a bar
unfoldable pub is_known : List Letter → ℕ → Bool
is_known letters c = is_there (letter_of letters c)

-- every remaining character needs an alphabet record: a bar doesn't remain, and a line feed is a blank
unfoldable pub is_unknown : List Letter → ℕ → Bool
is_unknown letters c = not (eqb c bar) && not (is_there (letter_of letters (unfed c)))

-- the first unknown character, in the text as lent
unfoldable pub first_unknown : List Letter → List ℕ → Option ℕ
first_unknown letters text = first (λ i. is_unknown letters (get_or text i 0)) (length text)
