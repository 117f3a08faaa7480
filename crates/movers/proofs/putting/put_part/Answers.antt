-- `movers::putting::put_part` meets its contract. The loop's invariant: the bytes passed are stored.
use mathlib.Core.List.{List}
use mathlib.Core.Path.{◌≡◌, refl, ◌∙◌, ap}
use native.Mathlib.Omega.{arith}
use lib.ListN.{length, get_or, set, length-set}
use lib.Seq.{sets, take_all}
use Prim.Native.Nat.{ℕ, ◌+◌, ◌<◌}
use Rattle.table.proofs.Wrote.{run_more}
use Rattle.movers.proofs.putting.put_part.Goals as goal

pub loop-j-preserved : goal.loop-j-preserved
loop-j-preserved c =
    let a = c.args in
    let l = c.loop-j in
    let v = l.invariant in
    let there : l.j < length a.bytes.now = omega arith in
    let s = length-set l.out (a.at + l.j) (get_or a.bytes.now l.j 0) in (
      s ∙ v.0,
      ap (λ (o : List ℕ). set o (a.at + l.j) (get_or a.bytes.now l.j 0)) v.1 ∙ run_more a.out.now a.at a.bytes.now l.j there,
    )

pub returns : goal.returns
returns c =
    let a = c.args in
    let v = c.loop-j.invariant in
    let all : c.loop-j.j ≡ length a.bytes.now = omega arith in
    record { leaves = v.1 ∙ ap (λ (r : List ℕ). sets a.out.now a.at r) (take_all c.loop-j.j a.bytes.now (omega arith)) }
