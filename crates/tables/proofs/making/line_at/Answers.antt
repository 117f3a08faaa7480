-- `tables::making::line_at` meets its contract. The loop's invariant: `n` is the line of the place so far, and no more than one more than it.
use Prim.Native.Nat.{ℕ, suc, ◌+◌}
use mathlib.Core.List.{List}
use mathlib.Core.Path.{sym, ◌∙◌, ap}
use native.Mathlib.Omega.{arith}
use lib.ListN.{take}
use lib.Seq.{take_all}
use Rattle.table.specs.Search.{count}
use Rattle.form.specs.Numbers.{line_feed}
use Rattle.form.specs.Reading.{line_at}
use Rattle.tables.proofs.Places.{front, line_first, line_feed_lem, line_other}
use Rattle.tables.proofs.making.line_at.Goals as goal
use Rattle.tables.proofs.making.line_at.Goals.{then-c-eq10, else-c-eq10}

pub loop-c-init : goal.loop-c-init
loop-c-init c = (omega arith, sym (line_first (take c.min.result c.args.text.now)))

pub loop-c-preserved : goal.loop-c-preserved
loop-c-preserved c =
    let l = c.loop-c in
    let part = take c.min.result c.args.text.now in
    elim c.if-c-eq10.branch [
      | then-c-eq10 w ↦ (omega (arith, w.n-is, l.invariant.0), w.n-is ∙ ap (λ (k : ℕ). k + 1) l.invariant.1 ∙ sym (line_feed_lem part l.c-index c.loop-c-test.true w.if-c-eq10.true))
      | else-c-eq10 w ↦ (omega (arith, w.n-is, l.invariant.0), w.n-is ∙ l.invariant.1 ∙ sym (line_other part l.c-index c.loop-c-test.true w.if-c-eq10.false))
    ]

pub returns : goal.returns
unfolding line_at
returns c =
    let l = c.loop-c in
    let part = take c.min.result c.args.text.now in
    l.invariant.1
    ∙ ap (λ (xs : List ℕ). suc (count line_feed xs)) (take_all l.c-index part (omega arith) ∙ front c.args.text.now c.args.at c.min.result c.min.ensures)
