-- `pages::writing::write` meets its contract. The loop's invariant is `Going`: what is written, joined to what the rest still yields, is the whole.
use mathlib.Core.Path.{◌∙◌, ap}
use native.Mathlib.Omega.{arith}
use Rattle.table.specs.Numbers.{sign_page_end}
use Rattle.pages.specs.inside.Gather.{after_flush}
use Rattle.pages.proofs.Going.{going_first, sign_room, going_more, flush_room, page_end_room, whole_written}
use Rattle.pages.proofs.Bytes as Bytes
use Rattle.pages.proofs.Steps.{flush_moved}
use Rattle.pages.proofs.Gather.{ends_as_73}
use Rattle.pages.proofs.writing.write.Goals as goal

pub loop-sign-init : goal.loop-sign-init
loop-sign-init c = rw (c.first-p.ensures, c.new-word.ensures) (going_first c.requires)

pub put_sign-p-requires : goal.put_sign-p-requires
put_sign-p-requires c =
    let z = c.requires in
    let v = c.loop-sign.invariant in
    (sign_room z v (omega arith), v.below, z.fillable.wide, z.fillable.narrow)

pub loop-sign-preserved : goal.loop-sign-preserved
loop-sign-preserved c = going_more c.requires c.loop-sign.invariant (omega arith) c.put_sign-p.ensures

pub put_move-q-requires : goal.put_move-q-requires
put_move-q-requires c =
    let a = c.args in
    let p = c.loop-sign.p in
    let m = c.flushed.ensures ∙ ap (after_flush a.sheet p) c.len.ensures.all in
    rw (m, c.cells.ensures.all) (Bytes.goes_flush a.sheet p _, (flush_room c.requires c.loop-sign.invariant c.loop-sign-test.false).room)

pub page_end-requires : goal.page_end-requires
page_end-requires c =
    let f = flush_moved c.args.sheet c.loop-sign.p c.flushed.ensures c.len.ensures.all c.cells.ensures.all c.put_move-q.ensures in
    (page_end_room c.requires c.loop-sign.invariant c.loop-sign-test.false f).modest

pub put_move-requires : goal.put_move-requires
put_move-requires c =
    let a = c.args in
    let z = c.requires in
    let f = flush_moved a.sheet c.loop-sign.p c.flushed.ensures c.len.ensures.all c.cells.ensures.all c.put_move-q.ensures in
    let e = c.page_end.ensures ∙ ends_as_73 a.sheet z.fillable.wide c.put_move-q.result in
    rw e (Bytes.goes_format a.sheet c.put_move-q.result sign_page_end, (page_end_room z c.loop-sign.invariant c.loop-sign-test.false f).room)

pub returns : goal.returns
returns c =
    let a = c.args in
    let z = c.requires in
    let f = flush_moved a.sheet c.loop-sign.p c.flushed.ensures c.len.ensures.all c.cells.ensures.all c.put_move-q.ensures in
    let e = c.page_end.ensures ∙ ends_as_73 a.sheet z.fillable.wide c.put_move-q.result in
    record { leaves = whole_written z c.loop-sign.invariant c.loop-sign-test.false f (rw e at c.put_move.ensures) }
