-- `files::judging::first_wrong` meets its contract. The loop's invariant: the spot keeps to the sheet, and the bytes that are left, judged from here on, are
-- wrong where the whole is.
use mathlib.Core.Bool.{cond}
use mathlib.Core.Path.{◌≡◌, sym, ◌∙◌, ap}
use native.Mathlib.Omega.{arith}
use lib.ListN.{length}
use Rattle.std.specs.Prelude.{None, Some}
use Rattle.embosser.specs.Judging.{at_start, wrong_at}
use Rattle.embosser.specs.Chart.{stands_for}
use Rattle.embosser.proofs.Steps.{start_fits, steps_told, step_fits, walk_starts, walk_on, walk_wrong, walk_ends}
use Rattle.files.proofs.judging.first_wrong.Goals as goal

pub loop-i-init : goal.loop-i-init
loop-i-init c = record { fits = start_fits _; walked = walk_starts _ _ _ }

pub returns-in_default : goal.returns-in_default
returns-in_default c =
    let reads = c.stands_for-table.ensures.values c.from.result (omega arith) ∙ ap (stands_for c.args.kind) c.from.ensures in
    sym (walk_wrong _ _ _ c.loop-i.spot _ _ (omega arith) reads (sym c.step.ensures ∙ c.in_default.is) c.loop-i.invariant.walked)

pub loop-i-preserved : goal.loop-i-preserved
loop-i-preserved c =
    let reads = c.stands_for-table.ensures.values c.from.result (omega arith) ∙ ap (stands_for c.args.kind) c.from.ensures in
    let went = sym c.step.ensures ∙ c.in-Some.is in
    record {
      fits = step_fits _ (steps_told _ c.loop-i.spot _ _ went);
      walked = walk_on _ _ _ c.loop-i.spot _ _ _ (omega arith) reads went c.loop-i.invariant.walked;
    }

pub returns-then-spot : goal.returns-then-spot
unfolding at_start
returns-then-spot c =
    let a = c.args in
    let ended : wrong_at a.kind a.sheet a.bytes.now ≡ cond (at_start c.loop-i.spot) None (Some (length a.bytes.now)) =
    walk_ends _ _ _ c.loop-i.spot _ (omega arith) (rw (let all : length a.bytes.now ≡ c.loop-i.i = omega arith in all) c.loop-i.invariant.walked) in
    sym (rw c.if-spot.true at ended)

pub returns : goal.returns
unfolding at_start
returns c =
    let a = c.args in
    let ended : wrong_at a.kind a.sheet a.bytes.now ≡ cond (at_start c.loop-i.spot) None (Some (length a.bytes.now)) =
    walk_ends _ _ _ c.loop-i.spot _ (omega arith) (rw (let all : length a.bytes.now ≡ c.loop-i.i = omega arith in all) c.loop-i.invariant.walked) in
    sym (rw c.if-spot.false at ended)
