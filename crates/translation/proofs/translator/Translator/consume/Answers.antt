-- `Translator::consume` meets its contract: each piece takes a character at least, and there is room for its signs.
use borrow.Author.Rules.{rules}
use Prim.Native.Nat.{ℕ, ◌+◌, ◌-◌, ◌<◌}
use mathlib.Core.List.{List}
use mathlib.Core.Path.{◌≡◌, sym, subst}
use native.Mathlib.Omega.{arith}
use lib.ListN.{length, take, drop, length-drop}
use borrow.Rule.Slice.PartMut.{put_mid}
use Rattle.translation.specs.declared.Counts.{Counts}
use Rattle.translation.proofs.Accepted.{opened}
use Rattle.translation.proofs.Moving.{start_held}
use Rattle.translation.proofs.Writing.{rest_lent}
use Rattle.translation.proofs.Cursor.{Piecing, takes, piecing_starts, piecing_goes_on, piecing_ends}
use Rattle.translation.proofs.translator.Translator.consume.Goals as goal

pub loop-rest-init : goal.loop-rest-init
loop-rest-init c =
    let t = c.args.self.now in
    let laid = (opened t).laid in
    let most = laid.variables_right in
    let each = laid.transitions_laid.number_right in
    piecing_starts t.image.now t.sections t.setting c.args.text.now c.args.signs.now c.start-states.result
    (start_held t.image.now t.sections c.start-states.result c.start-states.ensures (omega arith))

-- a piece takes no more characters than there are
pub slice_bounds-rest-count : goal.slice_bounds-rest-count
slice_bounds-rest-count c =
    let some : 0 < length c.loop-rest.rest.now = search rules in
    (takes _ _ _ _ _ c.loop-rest.invariant (opened c.args.self.now) some c.front_piece-made.ensures).most

pub slice_bounds-rest-start : goal.slice_bounds-rest-start
slice_bounds-rest-start c =
    let some : 0 < length c.loop-rest.rest.now = search rules in
    (takes _ _ _ _ _ c.loop-rest.invariant (opened c.args.self.now) some c.front_piece-made.ensures).most

pub loop-rest-smaller : goal.loop-rest-smaller
loop-rest-smaller c =
    let rest = c.loop-rest.rest.now in
    let shift = c.front_piece-made.result.shift in
    let some : 0 < length rest = search rules in
    let t = takes _ _ _ _ _ c.loop-rest.invariant (opened c.args.self.now) some c.front_piece-made.ensures in
    let least = t.least in
    let fewer : length (take (length rest - shift) (drop shift rest)) < length rest = rw (rest_lent rest shift, length-drop shift rest) (omega arith) in
    fewer

pub loop-rest-preserved : goal.loop-rest-preserved
loop-rest-preserved c =
    let t = c.args.self.now in
    let some : 0 < length c.loop-rest.rest.now = search rules in
    let n = c.loop-rest.counts.signs in
    let written = put_mid n (length c.loop-rest.signs - n) c.loop-rest.signs c.front_piece-made.new.signs in
    let counts : Counts = record { pieces = c.loop-rest.counts.pieces + 1; signs = n + c.front_piece-made.result.signs } in
    subst
    (λ (rest : List ℕ). Piecing t.image.now t.sections t.setting c.args.text.now c.args.signs.now written c.moved-states.result rest counts)
    (sym (rest_lent c.loop-rest.rest.now c.front_piece-made.result.shift))
    (piecing_goes_on t.image.now t.sections t.setting c.args.text.now c.args.signs.now c.loop-rest.invariant (opened t) some c.front_piece-made.ensures
    c.moved-states.ensures)

pub returns : goal.returns
returns c =
    let t = c.args.self.now in
    let none : length c.loop-rest.rest.now ≡ 0 = search rules in
    piecing_ends t.image.now t.sections t.setting c.args.text.now c.args.signs.now c.loop-rest.invariant none
