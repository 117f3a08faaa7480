-- The refusal of what is wrong with the records. No heading of document 01.
use Rattle.std.specs.Prelude.{◌+◌}
use Rattle.table.specs.Sections.{offset}
use Rattle.table.specs.Records.{section_named}
use Rattle.table.specs.Verdict.{refusal_in}
use Rattle.table.specs.declared.Sections.{Sections}
use Rattle.table.specs.declared.Refusal.{Refusal}
use Rattle.table.specs.declared.Refusal.TheVariants as why
use Rattle.records.specs.declared.Fault.{Fault}
use Rattle.records.specs.declared.Fault.TheVariants.{Wrong, NoBlank}

abbrev pub refusal_of : Sections → Fault → Refusal
refusal_of s (Wrong name k j) = refusal_in name (offset (section_named s name) k + j)
refusal_of s NoBlank = why.NoBlank
