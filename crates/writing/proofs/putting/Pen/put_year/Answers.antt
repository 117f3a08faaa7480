-- `writing::putting::Pen::put_year` meets its contract: nothing, or the word and the year after it.
use native.Mathlib.Omega.{arith}
use Rattle.writing.proofs.Puts.{pens_none, pens_then, pens_as}
use Rattle.writing.proofs.Shown.{year_unsaid, year_said}
use Rattle.writing.proofs.putting.Pen.put_year.Goals as goal

pub returns-then-year-unsaid : goal.returns-then-year-unsaid
returns-then-year-unsaid c =
    let a = c.args in
    (pens_as (year_said a.word.now a.unsaid a.year c.if-year-unsaid.true) (pens_then c.put_word.ensures.0 c.put_number.ensures.0), omega (arith, c.put_word.ensures.1, c.put_number.ensures.1))

pub returns-else-year-unsaid : goal.returns-else-year-unsaid
returns-else-year-unsaid c =
    let a = c.args in
    (pens_as (year_unsaid a.word.now a.unsaid a.year c.if-year-unsaid.false) (pens_none _), omega arith)
