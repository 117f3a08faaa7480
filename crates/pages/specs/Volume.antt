-- 'Lines and pages' of signs: the sheet's limits (refusal 5), the bytes of the whole volume, and the place at its end.
use Rattle.std.specs.Prelude.{ℕ, Bool, cond, ◌&&◌, List, Ok, Err}
use Rattle.table.specs.Search.{within}
use Rattle.table.specs.Answers.{Verdict}
use Rattle.table.specs.declared.Refusal.TheVariants.{Size}
use Rattle.pages.specs.Numbers.{least_width, most_width, least_length, most_length}
use Rattle.pages.specs.Words.{items_of}
use Rattle.pages.specs.Place.{volume_end, volume}
use Rattle.pages.specs.declared.Place.{Place}
use Rattle.pages.specs.declared.Sheet.{Sheet}

-- W and P within their limits
unfoldable pub sheet_right : Sheet → Bool
sheet_right sheet = within least_width most_width sheet.width && within least_length most_length sheet.length

-- 5: W or P outside its limits
unfoldable pub sheet_verdict : Sheet → Verdict
sheet_verdict sheet = cond (sheet_right sheet) (Ok tt) (Err Size)

-- the bytes of signs, and the place at their end
unfoldable pub bytes_of : Sheet → List ℕ → List ℕ
bytes_of sheet signs = volume sheet (items_of sheet.width signs)

unfoldable pub end_of : Sheet → List ℕ → Place
end_of sheet signs = volume_end sheet (items_of sheet.width signs)
