-- `ink::marking::walk` meets its contract: each step adds the bytes of one character's mark.
use mathlib.Core.Path.{refl, sym, ◌∙◌, ap}
use native.Mathlib.Omega.{arith}
use Rattle.inkprint.specs.inside.Steps.{walked_to}
use Rattle.inkprint.proofs.Walk.{walk_starts, walk_on, walk_stops, walk_comes, never_marked, walk_wrote}
use Rattle.ink.proofs.marking.walk.Goals as goal

pub loop-c-init : goal.loop-c-init
loop-c-init c = (refl, walk_starts _ _)

pub returns-then-not-is_marked-clause-comes : goal.returns-then-not-is_marked-clause-comes
returns-then-not-is_marked-clause-comes c =
    sym (ap walked_to (walk_stops c.in-Some.ensures c.glyph-g.ensures (sym c.is_marked.ensures ∙ c.if-not-is_marked.true) c.loop-c.invariant.1))

pub returns-then-not-is_marked-clause-writes : goal.returns-then-not-is_marked-clause-writes
returns-then-not-is_marked-clause-writes c =
    λ bytes is fits.
    absurd (never_marked _ (walk_stops c.in-Some.ensures c.glyph-g.ensures (sym c.is_marked.ensures ∙ c.if-not-is_marked.true) c.loop-c.invariant.1) is)

pub overflow_add-to : goal.overflow_add-to
overflow_add-to c =
    let w = c.loop-c.invariant.1 in
    let most = w.most in
    let few = c.requires in
    let small = c.step_of-stepped.ensures.small.count in
    record { fits = omega arith }

pub loop-c-preserved : goal.loop-c-preserved
loop-c-preserved c = (
  c.put.auto.out ∙ c.loop-c.invariant.0,
  walk_on c.in-Some.ensures c.glyph-g.ensures (sym c.is_marked.ensures ∙ c.if-not-is_marked.false) c.step_of-stepped.ensures.is c.loop-c.invariant.0 c.put.ensures c.loop-c.invariant.1,
)

pub returns-clause-comes : goal.returns-clause-comes
returns-clause-comes c = walk_comes c.in_default.ensures c.loop-c.invariant.1

pub returns-clause-writes : goal.returns-clause-writes
returns-clause-writes c = λ bytes is fits. walk_wrote c.in_default.ensures c.loop-c.invariant.1 is fits
