-- `tables::walking::walk` meets its contract. The loop's invariant: the bytes so far are written at the front where there is room, and the text reads as the
-- lines from `at` on do, from the draft so far and these bytes. The measure is what is left of the text.
use Prim.Native.Nat.{◌-◌}
use mathlib.Core.Path.{refl, sym, ◌∙◌, ap}
use lib.ListN.{take, drop}
use Rattle.tables.specs.inside.Steps.{walked_to}
use Rattle.tables.proofs.Walk.{line_part, walk_starts, walk_small, walk_on, walk_wrong, walk_good, walk_lacks, never_drafted}
use Rattle.tables.proofs.walking.walk.Goals as goal

pub loop-at-init : goal.loop-at-init
loop-at-init c = (walk_starts _ _ _ c.first-so_far.ensures, refl)

pub take_line-requires : goal.take_line-requires
take_line-requires c = walk_small c.loop-at.invariant.0

pub loop-at-preserved : goal.loop-at-preserved
loop-at-preserved c =
    let text = c.args.text.now in
    let l = c.loop-at in
    let end = c.line_end-end in
    let took = c.take_line in (
      rw end.ensures.2
          (walk_on l.invariant.0 c.loop-at-test.true (take (end.result - l.at) (drop l.at text)) (line_part text l.at end.result end.ensures.2)
          c.in-Ok.ensures.0 c.in-Ok.ensures.1),
      took.auto.out ∙ l.invariant.1,
    )

pub returns-in-Err : goal.returns-in-Err
returns-in-Err c =
    let text = c.args.text.now in
    let l = c.loop-at in
    let end = c.line_end-end in
    let told = c.in-Err.ensures.0 in
    let wrong = walk_wrong l.invariant.0 c.loop-at-test.true (take (end.result - l.at) (drop l.at text)) (line_part text l.at end.result end.ensures.2) told in
    (sym (ap walked_to wrong), λ d drafted room. absurd (never_drafted wrong drafted))

pub returns-in-None : goal.returns-in-None
returns-in-None c =
    let w = c.loop-at.invariant.0 in
    let reads = walk_good w c.loop-at-test.false c.in-None.ensures in
    (sym (ap walked_to reads), λ d drafted room. rw reads (w.wrote (rw reads at room)))

pub returns-in-Some : goal.returns-in-Some
returns-in-Some c =
    let reads = walk_lacks c.loop-at.invariant.0 c.loop-at-test.false c.in-Some.ensures in
    (sym (ap walked_to reads), λ d drafted room. absurd (never_drafted reads drafted))
