-- What is wrong with the records of an image, as `judge_records` answers it: the first wrong byte of the first wrong record, and where there is none that the
-- blank is missing, by the definitions of `table`. No heading of document 01.
use Rattle.std.specs.Prelude.{true, false, List, ℕ, Result, Ok, Err}
use Rattle.std.proofs.Math.Option.{none, some}
use Rattle.table.specs.Numbers.{blank}
use Rattle.table.specs.Search.{member}
use Rattle.table.specs.Records.{symbols, first_wrong}
use Rattle.table.specs.declared.Sections.{Sections}
use Rattle.records.specs.declared.Fault.{Fault}
use Rattle.records.specs.declared.Fault.TheVariants.{Wrong, NoBlank}

-- what a judgement of records answers: that all is right, or what is wrong
abbrev pub Judged : Type 0
Judged = Result (Unit {0}) Fault

-- no alphabet record for blank
unfoldable pub blank_judged : List ℕ → Sections → Judged
blank_judged image s = elim (member blank (symbols image s)) [ true ↦ Ok tt | false ↦ Err NoBlank ]

-- a wrong record, by its section, its number there and its first wrong byte
unfoldable pub records_judged : List ℕ → Sections → Judged
records_judged image s = elim (first_wrong image s) [ none ↦ blank_judged image s | some w ↦ Err (Wrong w.section w.index w.byte) ]
