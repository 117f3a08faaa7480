-- `files::filing::put_turned` meets its contract. The loop's invariant: the bytes passed are turned and stored.
use mathlib.Core.List.{List, ◌++◌}
use mathlib.Core.Path.{◌≡◌, sym, ◌∙◌, ap}
use native.Mathlib.Nat.{zero-add}
use native.Mathlib.Omega.{arith}
use lib.ListN.{length, get_or, set, take, drop}
use lib.Seq.{sets, sets-eq, take_all}
use Prim.Native.Nat.{ℕ, ◌+◌, ◌≤◌, ◌<◌}
use Rattle.table.proofs.Wrote.{run_more}
use Rattle.embosser.specs.Chart.{turned}
use Rattle.embosser.specs.Filing.{turned_bytes}
use Rattle.embosser.specs.declared.Kind.{Kind}
use Rattle.embosser.proofs.Outcomes.{turned_length, turned_at}
use Rattle.files.proofs.filing.put_turned.Goals as goal

module _ (kind : Kind) (bytes before : List ℕ) {after : List ℕ} (i : ℕ) where
  put_more : {byte : ℕ} → i < length bytes → after ≡ sets before 0 (take i (turned_bytes kind bytes)) → byte ≡ turned kind (get_or bytes i 0)
      → set after i byte ≡ sets before 0 (take (i + 1) (turned_bytes kind bytes))
  put_more {byte} there so_far is =
      let stored : byte ≡ get_or (turned_bytes kind bytes) i 0 = is ∙ sym (turned_at kind bytes i there) in
      rw (so_far, stored) (rw (zero-add i) at (run_more before 0 (turned_bytes kind bytes) i (rw (turned_length kind bytes) there)))

  put_all : length bytes ≤ i → length bytes ≤ length before → after ≡ sets before 0 (take i (turned_bytes kind bytes))
      → after ≡ turned_bytes kind bytes ++ drop (length bytes) before
  put_all over room so_far =
      let size = turned_length kind bytes in
      so_far
      ∙ ap (λ (r : List ℕ). sets before 0 r) (take_all i (turned_bytes kind bytes) (rw size over))
      ∙ sets-eq (turned_bytes kind bytes) before 0 (omega arith)
      ∙ ap (λ (n : ℕ). turned_bytes kind bytes ++ drop n before) (zero-add _ ∙ size)

pub loop-i-preserved : goal.loop-i-preserved
loop-i-preserved c =
    let a = c.args in
    let turned_to = c.turned_by-table.ensures.values c.from.result (omega arith) ∙ ap (turned a.kind) c.from.ensures in
    put_more a.kind a.bytes.now a.out.now c.loop-i.i (omega arith) c.loop-i.invariant turned_to

pub returns : goal.returns
returns c =
    let a = c.args in put_all a.kind a.bytes.now a.out.now c.loop-i.i (omega arith) (omega arith) c.loop-i.invariant
