-- The proof of the cycle of calls {digit_count}: a number of more digits than one has one more than its tenth. The measure is the number.
use Prim.Native.Nat.{ℕ, ◌+◌, ◌/◌, ◌%◌}
use mathlib.Core.List.{[], ◌∷◌}
use mathlib.Core.Path.{sym, ap}
use native.Mathlib.Omega.{arith}
use lib.ListN.{length, length-append}
use Rattle.form.specs.Numbers.{zero_digit}
use Rattle.form.specs.Showing.{decimal}
use Rattle.writing.proofs.Puts.{decimal_one, decimal_more, decimal_few}
use Rattle.writing.proofs.putting.+digit_count.Goals as goal

pub returns-then-n-lt10 : goal.returns-then-n-lt10
returns-then-n-lt10 t c =
    let one = ap length (decimal_one c.args.n c.if-n-lt10.true) in
    (sym one, omega arith)

pub returns-else-n-lt10 : goal.returns-else-n-lt10
returns-else-n-lt10 t c =
    let n : ℕ = c.args.n in
    let more = ap length (decimal_more n c.if-n-lt10.false c.ranges.n.fits) in
    let apart = length-append (decimal (n / 10)) ((zero_digit + n % 10) ∷ []) in
    let rest = c.digit_count.ensures.0 in
    let few = decimal_few n in
    (omega arith, omega arith)
