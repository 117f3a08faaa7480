-- `writing::putting::Pen::put_number` meets its contract: as many blanks as the column leaves, and then the number.
use Prim.Native.Nat.{ℕ, suc, ◌+◌, ◌-◌}
use mathlib.Core.Path.{◌≡◌}
use native.Mathlib.Omega.{arith}
use lib.ListN.{length, length-replicate}
use Rattle.form.specs.Showing.{decimal, shown_number}
use Rattle.writing.proofs.Puts.{pens_rightward}
use Rattle.writing.proofs.putting.Pen.put_number.Goals as goal

pub returns : goal.returns
unfolding shown_number
returns c =
    let blanks : 1 + c.saturating_sub.result ≡ suc (c.args.width - length (decimal c.args.n)) = omega arith in
    let goes = c.put_same.ensures.puts.goes in
    let long = length-replicate {A = ℕ} (1 + c.saturating_sub.result) 32 in
    (pens_rightward c.args.width (decimal c.args.n) blanks c.put_same.ensures c.put_decimal.ensures.0, omega arith)
