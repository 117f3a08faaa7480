-- `fields::cursor::Cursor::signs` meets its contract. The loop's invariant: the signs from here on, after those that were read, read as all of them do from `at` on,
-- and the bytes of those that are missing are 99.
use Prim.Native.Nat.{ℕ, ◌+◌, ◌-◌, ◌<◌}
use mathlib.Core.List.{List}
use mathlib.Core.Path.{sym, ◌∙◌, ap}
use native.Mathlib.Numerals.{add-one}
use native.Mathlib.Omega.{arith}
use lib.ListN.{length, set, take}
use lib.Seq.{take-suc-set}
use Rattle.std.proofs.lemmas.List.{set-get_or}
use Rattle.std.proofs.lemmas.Result.{err_from_is_err_and}
use Rattle.form.specs.Fields.{signs_from}
use Rattle.fields.specs.inside.Cursors.{rest_at}
use Rattle.fields.proofs.Fields.{wrong_on, signs_more, signs_wrong_lem, signs_stop, signs_full, signs_off, signs_left, signs_stand}
use Rattle.fields.proofs.cursor.Cursor.signs.Goals as goal

pub returns-then-not-starts_number : goal.returns-then-not-starts_number
returns-then-not-starts_number c =
    let l = c.loop-byte in
    let starts = sym (rw c.after_gap-start.ensures.rest at c.starts_number.ensures) ∙ c.if-not-starts_number.true in
    let read = sym l.invariant.2 ∙ signs_stop l.byte-index _ _ (omega arith) starts in
    rw (set-get_or l.byte-items l.byte-index 0) (signs_stand l.byte-items l.byte-index _ (omega arith) (omega arith) l.invariant.1 read, l.invariant.0)

pub returns-in_err-sign : goal.returns-in_err-sign
returns-in_err-sign c =
    let l = c.loop-byte in
    let starts = sym (rw c.after_gap-start.ensures.rest at c.starts_number.ensures) ∙ c.if-not-starts_number.false in
    let wrong = sym (rw c.after_gap-start.ensures.rest at c.in_err-sign.ensures.0) in
    let p = err_from_is_err_and c.from_residual.result c.from_residual.ensures.1 in
    rw (p.1, p.2)
    (wrong_on (c.after_gap-start.ensures.line ∙ l.invariant.0) (sym (signs_off _ (sym l.invariant.2 ∙ signs_wrong_lem l.byte-index _ _ (omega arith) starts wrong))) c.in_err-sign.ensures.1)

pub loop-byte-preserved : goal.loop-byte-preserved
loop-byte-preserved c =
    let l = c.loop-byte in
    let starts = sym (rw c.after_gap-start.ensures.rest at c.starts_number.ensures) ∙ c.if-not-starts_number.false in
    let read = sym (rw c.after_gap-start.ensures.rest at c.in_ok-sign.ensures.0) in
    let room : l.byte-index < length l.byte-items = omega arith in (
      c.in_ok-sign.ensures.1.1 ∙ c.after_gap-start.ensures.line ∙ l.invariant.0,
      signs_left l.byte-items l.byte-index c.in_ok-sign.sign (omega arith) l.invariant.1,
      ap (λ (k : ℕ). signs_from (4 - (l.byte-index + 1)) (take k (set l.byte-items l.byte-index c.in_ok-sign.sign)) (rest_at c.in_ok-sign.end)) (add-one l.byte-index)
          ∙ ap (λ (r : List ℕ). signs_from (4 - (l.byte-index + 1)) r (rest_at c.in_ok-sign.end)) (take-suc-set l.byte-items l.byte-index c.in_ok-sign.sign room)
          ∙ sym (signs_more l.byte-index _ _ (omega arith) starts read)
          ∙ l.invariant.2,
    )

pub returns : goal.returns
returns c =
    let l = c.loop-byte in
    let read = sym l.invariant.2 ∙ signs_full l.byte-index _ _ (omega arith) in
    (signs_stand l.byte-items l.byte-index _ (omega arith) (omega arith) l.invariant.1 read, l.invariant.0)
