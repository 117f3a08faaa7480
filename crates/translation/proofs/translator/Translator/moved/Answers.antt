-- `Translator::moved` meets its contract: each transition lies within the image, and there is a state for each.
use borrow.Author.Rules.{rules}
use mathlib.Core.Path.{◌≡◌}
use native.Mathlib.Omega.{arith}
use lib.ListN.{length}
use Rattle.translation.proofs.Accepted.{opened}
use Rattle.translation.proofs.Moving.{moving_starts, moving_goes_on, moving_ends}
use Rattle.translation.proofs.translator.Translator.moved.Goals as goal

pub loop-v-init : goal.loop-v-init
loop-v-init c =
    let long : length c.args.states.yes ≡ 15 = search rules in
    let laid = (opened c.args.self.now).laid in
    let most = laid.variables_right in
    let each = laid.transitions_laid.number_right in
    moving_starts _ _ _ (omega arith)

pub byte_of_class-b-requires : goal.byte_of_class-b-requires
byte_of_class-b-requires c = (opened c.args.self.now).laid.transitions_laid.lies c.loop-v.v (search rules)

pub bounds-yes-i : goal.bounds-yes-i
bounds-yes-i c =
    let laid = (opened c.args.self.now).laid in
    let most = laid.variables_right in
    let each = laid.transitions_laid.number_right in
    omega (arith, c.from-i.ensures)

pub bounds-yes-i-in-loop-v : goal.bounds-yes-i-in-loop-v
bounds-yes-i-in-loop-v c =
    let laid = (opened c.args.self.now).laid in
    let most = laid.variables_right in
    let each = laid.transitions_laid.number_right in
    omega (arith, c.from-i.ensures)

pub loop-v-preserved : goal.loop-v-preserved
loop-v-preserved c =
    let l = c.loop-v in
    rw (c.turned.ensures, c.byte_of_class-b.ensures, c.from-i.ensures) (moving_goes_on _ _ _ l.yes l.v l.invariant (search rules))

pub returns : goal.returns
returns c =
    let t = c.args.self.now in
    moving_ends t.image.now t.sections c.args.c c.args.states _ c.loop-v.v c.loop-v.invariant (search rules)
