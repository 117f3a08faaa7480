-- `Translator::conditions_hold` meets its contract: the conditions stand behind the bytes of the classes, one for each state.
use borrow.Author.Rules.{rules}
use Prim.Native.Nat.{◌+◌, ◌≤◌}
use mathlib.Core.Path.{◌≡◌, ◌∙◌}
use native.Mathlib.Omega.{arith}
use lib.ListN.{length}
use Rattle.table.specs.Sections.{offset}
use Rattle.table.specs.Table.{column_at}
use Rattle.table.proofs.Reading.{part_long, part_within_lem}
use Rattle.translation.specs.Decide.{condition_holds, conditions_hold}
use Rattle.translation.specs.inside.States.{states_in}
use Rattle.translation.proofs.Accepted.{opened}
use Rattle.translation.proofs.Library.{all_every}
use Rattle.translation.proofs.translator.Translator.conditions_hold.Goals as goal

pub returns : goal.returns
unfolding column_at conditions_hold states_in
returns c =
    let t = c.args.self.now in
    let s = t.sections in
    let o = opened t in
    let lies = o.laid.decisions_laid.lies c.args.k c.requires in
    let inside : offset s.decisions c.args.k + s.classes + s.variables ≤ length t.image.now = omega arith in
    let long = part_long t.image.now s.decisions c.args.k s.classes s.variables inside in
    let most = o.laid.variables_right in
    let each = o.laid.transitions_laid.number_right in
    let fifteen : length c.args.states.now.yes ≡ 15 = search rules in
    c.all_meet.ensures
    ∙ rw (c.record_part-conditions.ensures.is, part_within_lem t.image.now s.decisions c.args.k s.classes s.variables inside)
    (all_every condition_holds _ _ _ _ s.transitions.records (omega arith) (omega arith))
