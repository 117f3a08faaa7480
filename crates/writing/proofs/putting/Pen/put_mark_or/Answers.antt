-- `writing::putting::Pen::put_mark_or` meets its contract: the mark for its value, and else the number.
use mathlib.Core.Path.{sym}
use native.Mathlib.Omega.{arith}
use Rattle.writing.proofs.Puts.{pens_as, mark_same, mark_other}
use Rattle.writing.proofs.putting.Pen.put_mark_or.Goals as goal

pub returns-then-n-value : goal.returns-then-n-value
returns-then-n-value c =
    let a = c.args in
    (pens_as (sym (mark_same a.width a.mark a.value a.n c.if-n-value.true)) c.put_word.ensures.0, c.put_word.ensures.1)

pub returns-else-n-value : goal.returns-else-n-value
returns-else-n-value c =
    let a = c.args in
    let put = rw c.from.ensures at c.put_number.ensures in
    (pens_as (sym (mark_other a.width a.mark a.value a.n c.if-n-value.false)) put.0, omega (arith, put.1))
