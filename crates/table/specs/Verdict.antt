-- 'What comes back', the answers about a table: the verdict on an image. The checks are made in the paper's order: the frame, the records of each section,
-- the blank, the grouping.
use Rattle.std.specs.Prelude.{ℕ, ◌+◌, true, false, List, map, Ok, Err}
use Rattle.std.proofs.Math.Option.{none, some}
use Rattle.table.specs.Numbers.{blank}
use Rattle.table.specs.Search.{member}
use Rattle.table.specs.Sections.{frame_right, sections_in, offset}
use Rattle.table.specs.Records.{symbols, SectionName, alphabet, contractions, contexts, transitions, decisions, first_wrong, section_named}
use Rattle.table.specs.Table.{Table, Entry, table_in}
use Rattle.table.specs.Grouping.{first_break}
use Rattle.table.specs.Answers.{Verdict}
use Rattle.table.specs.declared.Sections.{Sections}
use Rattle.table.specs.declared.Refusal.{Refusal}
use Rattle.table.specs.declared.Refusal.TheVariants.{Frame, Alphabet, Contraction, Context, Transition, Decision, NoBlank, Grouping}

unfoldable pub strings : Table → List (List ℕ)
strings table = map (λ (e : Entry). e.string) table.entries

-- grouping broken: at the offset of the first record that breaks it
unfoldable pub grouping_verdict : List ℕ → Sections → Verdict
grouping_verdict image s =
    elim (first_break (strings (table_in image s))) [ none ↦ Ok tt | some r ↦ Err (Grouping (offset s.contractions r)) ]

-- no alphabet record for blank
unfoldable pub blank_verdict : List ℕ → Sections → Verdict
blank_verdict image s = elim (member blank (symbols image s)) [ true ↦ grouping_verdict image s | false ↦ Err NoBlank ]

-- a wrong record is refused by its section
abbrev pub refusal_in : SectionName → ℕ → Refusal
refusal_in alphabet at = Alphabet at
refusal_in contractions at = Contraction at
refusal_in contexts at = Context at
refusal_in transitions at = Transition at
refusal_in decisions at = Decision at

-- wrong record: at the first wrong byte of the first one, in image order
unfoldable pub records_verdict : List ℕ → Sections → Verdict
records_verdict image s =
    elim (first_wrong image s) [
      | none ↦ blank_verdict image s
      | some w ↦ Err (refusal_in w.section (offset (section_named s w.section) w.index + w.byte))
    ]

unfoldable pub verdict_of : List ℕ → Verdict
verdict_of image = elim (frame_right image) [ true ↦ records_verdict image (sections_in image) | false ↦ Err Frame ]
