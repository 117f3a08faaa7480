-- 'What comes back', as far as translation goes: the refusals of a table, then the caller's own, then 6, 7 and 15, or the pieces.
use Rattle.std.specs.Prelude.{ℕ, true, false, List, length, leb, Ok, Err}
use Rattle.std.proofs.Math.Option.{none, some}
use Rattle.table.specs.Numbers.{most_text}
use Rattle.table.specs.Table.{Table, table_of}
use Rattle.table.specs.Verdict.{verdict_of}
use Rattle.table.specs.declared.Refusal.{Refusal}
use Rattle.table.specs.declared.Refusal.TheVariants.{LongText, Unknown, Following}
use Rattle.translation.specs.Letters.{is_known, first_unknown}
use Rattle.translation.specs.Pieces.{Piece, pieces_of}
use Rattle.translation.specs.declared.Setting.{Setting}
use Rattle.translation.specs.declared.Terms.{Terms}

-- what a text comes to: its pieces, or the refusal
pub data Result : Type 0 where
  made : List Piece → Result
  refused : Refusal → Result

-- 15: following symbol not in the alphabet
unfoldable pub translate_followed : Table → Setting → List ℕ → Result
translate_followed table setting text =
    elim (is_known table.letters setting.following) [ true ↦ made (pieces_of table setting text) | false ↦ refused Following ]

-- 6: text over 16,384 bytes. 7: character without alphabet record
unfoldable pub translate_by : Table → Setting → List ℕ → Result
translate_by table setting text =
    elim (leb (length text) most_text) [
      | true ↦ elim (first_unknown table.letters text) [ none ↦ translate_followed table setting text | some at ↦ refused (Unknown at) ]
      | false ↦ refused LongText
    ]

-- the refusals of a table: the verdict on the image. What the caller's own checks say comes next
unfoldable pub translate_on : Terms → List ℕ → List ℕ → Result
translate_on terms image text =
    elim (verdict_of image) [
      | Ok accepted ↦ elim terms.also [ Ok allowed ↦ translate_by (table_of image) terms.setting text | Err r ↦ refused r ]
      | Err r ↦ refused r
    ]
