-- The strings of the table that lies in an image, by its sections. No heading of document 01.
use Rattle.std.specs.Prelude.{ℕ, List}
use Rattle.table.specs.Table.{table_in}
use Rattle.table.specs.Verdict.{strings}
use Rattle.judge.specs.declared.groups.Strings.{Strings}

abbrev pub strings_by : Strings → List (List ℕ)
strings_by t = strings (table_in t.image.now t.sections)
