-- `writing::putting::Pen::put_years` meets its contract: nothing, or the blanks of the missing signs and the two years.
use Prim.Native.Nat.{ℕ, ◌*◌}
use native.Mathlib.Omega.{arith}
use lib.ListN.{length-replicate}
use Rattle.writing.proofs.Puts.{pens_none, pens_then, pens_as}
use Rattle.writing.proofs.Shown.{years_always, years_said}
use Rattle.writing.proofs.putting.Pen.put_years.Goals as goal

pub returns-then-last-eq65535 : goal.returns-then-last-eq65535
returns-then-last-eq65535 c =
    let a = c.args in
    (pens_as (years_always a.missing a.first a.last c.if-first-eq0.true c.if-last-eq65535.true) (pens_none _), omega arith)

pub returns : goal.returns
returns c =
    let a = c.args in
    let long = length-replicate {A = ℕ} (3 * a.missing) 32 in
    let goes = c.put_same.ensures.puts.goes in
    let shown = years_said a.missing a.first a.last c.else-first-eq0.either in
    (pens_as shown (pens_then (pens_then c.put_same.ensures c.put_year.ensures.0) c.put_year-2.ensures.0), omega (arith, c.put_year.ensures.1, c.put_year-2.ensures.1))
