-- The answer of laying out, with the count of pieces: the answer of the whole call.
use Rattle.std.specs.Prelude.{ℕ, Result, Ok, Err}
use Rattle.table.specs.declared.Refusal.{Refusal}
use Rattle.pages.specs.declared.Filled.{Filled}
use Rattle.layout.specs.Emboss.{Answer}

abbrev pub with_pieces : ℕ → Result Filled Refusal → Answer
with_pieces n (Ok f) = Ok (record { written = f.written; pieces = n; lines = f.lines; pages = f.pages })
with_pieces n (Err r) = Err r
