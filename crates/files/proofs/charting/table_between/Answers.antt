-- `files::charting::table_between` meets its contract. The loop's invariant: the bytes that the output bytes passed are written as have theirs, and the
-- others `nothing`.
use mathlib.Core.Path.{sym, ◌∙◌, ap}
use native.Mathlib.Omega.{arith}
use Rattle.embosser.specs.Chart.{written_as, stands_for}
use Rattle.embosser.proofs.Judged.{stands_written, written_stands}
use Rattle.embosser.proofs.Tables.{filled_none, filled_more}
use Rattle.files.proofs.charting.table_between.Goals as goal

pub loop-byte-init : goal.loop-byte-init
loop-byte-init c = filled_none

pub loop-byte-preserved : goal.loop-byte-preserved
loop-byte-preserved c =
    let a = c.args in
    let l = c.loop-byte in
    let has = c.from.ensures ∙ c.written_as-c.ensures in
    let its = ap (stands_for a.kind) has ∙ stands_written a.kind l.byte (omega arith) in
    filled_more c.from.result _ (omega arith) its
    (λ b e. sym (written_stands a.kind b (omega arith)) ∙ ap (written_as a.kind) e ∙ sym has)
    (c.written_as.ensures ∙ ap (written_as a.to) (sym its)) l.invariant
