-- `writing::putting::Pen::put_tail` meets its contract: the signs, and in a dated table the years past those that are missing.
use native.Mathlib.Omega.{arith}
use Rattle.writing.proofs.Puts.{pens_then, pens_as}
use Rattle.writing.proofs.Shown.{tail_dated, tail_undated}
use Rattle.writing.proofs.putting.Pen.put_tail.Goals as goal

pub returns-then-dated : goal.returns-then-dated
returns-then-dated c =
    let a = c.args in
    let shown =
    tail_dated a.dated a.bytes.now a.from _ _ _ c.if-dated.true c.signs_before-missing.ensures.0 c.number_at.ensures
    c.number_at-then-dated.ensures in
    (pens_as shown (pens_then c.put_signs.ensures.0 c.put_years.ensures.0), omega (arith, c.put_signs.ensures.1, c.put_years.ensures.1))

pub returns-else-dated : goal.returns-else-dated
returns-else-dated c =
    let a = c.args in
    (pens_as (tail_undated a.dated a.bytes.now a.from c.if-dated.false) c.put_signs.ensures.0, omega (arith, c.put_signs.ensures.1))
