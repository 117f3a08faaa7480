-- The proof of the cycle of calls {put_decimal}: the tenth in decimal, and then the last digit. The measure is the number.
use mathlib.Core.Path.{sym}
use native.Mathlib.Omega.{arith}
use Rattle.writing.proofs.Puts.{pens_then, pens_as, decimal_one, decimal_more, decimal_few}
use Rattle.writing.proofs.putting.Pen.+put_decimal.Goals as goal

pub returns-then-n-lt10 : goal.returns-then-n-lt10
returns-then-n-lt10 t c =
    let goes = c.put.ensures.puts.goes in
    (pens_as (sym (decimal_one c.args.n c.if-n-lt10.true)) c.put.ensures, omega arith)

pub returns-else-n-lt10 : goal.returns-else-n-lt10
returns-else-n-lt10 t c =
    let whole = pens_as (sym (decimal_more c.args.n c.if-n-lt10.false c.ranges.n.fits)) (pens_then c.put_decimal.ensures.0 c.put-else-n-lt10.ensures) in
    let goes = whole.puts.goes in
    let few = decimal_few c.args.n in
    (whole, omega arith)
