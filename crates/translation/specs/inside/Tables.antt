-- What a translator translates by, in the definitions' words: the table that lies in its image, by its sections, with an entry and a column of it, and the
-- states of the table's variables.
use Rattle.std.specs.Prelude.{ℕ}
use Rattle.table.specs.Table.{Table, Entry, Column, table_in, entry_at, column_at}
use Rattle.translation.specs.Decide.{States}
use Rattle.translation.specs.inside.States.{states_in}
use Rattle.translation.specs.declared.translator.Translator.{Translator}
use Rattle.translation.specs.declared.variables.States.{States as Held}

abbrev pub table_by : Translator → Table
table_by t = table_in t.image.now t.sections

abbrev pub entry_by : Translator → ℕ → Entry
entry_by t k = entry_at t.image.now t.sections k

abbrev pub column_by : Translator → ℕ → Column
column_by t k = column_at t.image.now t.sections k

abbrev pub states_by : Translator → Held → States
states_by t held = states_in t.sections held
