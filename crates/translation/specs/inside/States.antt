-- The states and the rulings of the code, as the definitions have them.
use Rattle.std.specs.Prelude.{Bool, true, false, take, Option, Some, None}
use Rattle.table.specs.declared.Sections.{Sections}
use Rattle.translation.specs.Decide.{States, Ruling, accept, reject, next}
use Rattle.translation.specs.declared.variables.States.{States as Held}

-- the states of the variables that a table has: those that have a transition
unfoldable pub states_in : Sections → Held → States
states_in s held = take s.transitions.records held.yes

-- what a column says: that the class is accepted, that it isn't, or nothing
abbrev pub said : Option Bool → Ruling
said (Some true) = accept
said (Some false) = reject
said None = next
