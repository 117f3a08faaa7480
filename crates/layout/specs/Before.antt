-- The call as it was before the caller said what follows: past the end of text stands the blank, and nobody asks whether it is in the alphabet.
-- proofs/Following.antt shows that with a blank following the call answers so still, whatever the table and the year; and where the table is in the form that
-- document 01 has, as it did before there were years.
use Rattle.std.specs.Prelude.{ℕ, true, false, List, leb, length, Ok, Err}
use Rattle.std.proofs.Math.Option.{none, some}
use Rattle.table.specs.Numbers.{blank, most_text}
use Rattle.table.specs.Table.{Table, table_of}
use Rattle.table.specs.Answers.{Verdict}
use Rattle.table.specs.Verdict.{verdict_of}
use Rattle.table.specs.declared.Refusal.TheVariants.{LongText, Unknown}
use Rattle.translation.specs.Letters.{first_unknown}
use Rattle.translation.specs.Pieces.{pieces_of}
use Rattle.translation.specs.Translate.{Result, made, refused}
use Rattle.translation.specs.declared.Setting.{Setting}
use Rattle.pages.specs.Volume.{sheet_verdict}
use Rattle.pages.specs.declared.Sheet.{Sheet}
use Rattle.layout.specs.Emboss.{Outcome, laid}

-- a blank follows
abbrev pub blank_in : ℕ → Setting
blank_in year = record { following = blank; year = year }

-- 6: text over 16,384 bytes. 7: character without alphabet record
unfoldable pub made_before : ℕ → Table → List ℕ → Result
made_before year table text =
    elim (leb (length text) most_text) [
      | true ↦ elim (first_unknown table.letters text) [ none ↦ made (pieces_of table (blank_in year) text) | some at ↦ refused (Unknown at) ]
      | false ↦ refused LongText
    ]

-- the refusals of a table, then W and P
unfoldable pub on_before : ℕ → Verdict → List ℕ → List ℕ → Result
on_before year also image text =
    elim (verdict_of image) [
      | Ok accepted ↦ elim also [ Ok allowed ↦ made_before year (table_of image) text | Err r ↦ refused r ]
      | Err r ↦ refused r
    ]

unfoldable pub embossed_before : ℕ → List ℕ → List ℕ → Sheet → List ℕ → Outcome
embossed_before year image text sheet out = laid sheet out (on_before year (sheet_verdict sheet) image text)
