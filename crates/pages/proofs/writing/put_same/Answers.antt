-- `pages::writing::put_same` meets its contract: the part of the output is filled, which is a run of that byte.
use Prim.Native.Nat.{ℕ, ◌+◌, ◌-◌}
use mathlib.Core.Path.{◌≡◌, refl, ◌∙◌, ap}
use native.Mathlib.Omega.{arith}
use lib.ListN.{length, take, drop, replicate, length-replicate}
use Rattle.std.proofs.lemmas.List.Edits.{length-between}
use Rattle.table.proofs.Wrote.{run_written}
use Rattle.pages.proofs.writing.put_same.Goals as goal

pub returns : goal.returns
returns c =
    let a = c.args in
    let n = length-replicate a.n a.byte in
    let k : length (take (a.at + a.n - a.at) (drop a.at a.out.now)) ≡ a.n = length-between a.out.now a.at (a.at + a.n) (omega arith) ∙ omega arith in (
      refl,
      run_written a.out.now c.fill.new.self a.at (a.at + a.n) (replicate a.n a.byte)
          (c.fill.ensures.after (λ y e. e) ∙ ap (λ (m : ℕ). replicate m a.byte) k)
          (omega arith) (omega arith),
    )
