-- `writing::putting::Pen::put_signs` meets its contract. The loop's invariant: the signs so far are put, each with at most 16 bytes.
use Prim.Native.Nat.{ℕ}
use mathlib.Core.List.{◌++◌}
use mathlib.Core.Path.{◌≡◌, ◌∙◌, ap}
use native.Mathlib.Omega.{arith}
use Rattle.form.specs.Numbers.{colon}
use Rattle.form.specs.Showing.{rightward, shown_number, shown_numbers, shown_signs}
use Rattle.writing.proofs.Puts.{pens_none, pens_then, pens_as, part_get, part_length}
use Rattle.writing.proofs.Shown.{numbers_more}
use Rattle.writing.proofs.putting.Pen.put_signs.Goals as goal

pub loop-sign-init : goal.loop-sign-init
unfolding shown_numbers
loop-sign-init c = (pens_none _, omega arith)

pub loop-sign-preserved : goal.loop-sign-preserved
loop-sign-preserved c =
    let a = c.args in
    let l = c.loop-sign in
    let many = part_length a.bytes.now a.from c.signs_before.result (omega (arith, c.signs_before.ensures.1)) in
    let sign = c.from.ensures ∙ part_get a.bytes.now a.from c.signs_before.result l.sign-index (omega arith) in
    let put = pens_as (ap (shown_number 2) sign) c.put_number.ensures.0 in
    (pens_as (numbers_more a.bytes.now a.from l.sign-index) (pens_then l.invariant.0 put), omega (arith, l.invariant.1, c.put_number.ensures.1))

pub returns : goal.returns
unfolding shown_signs
returns c =
    let a = c.args in
    let at = c.loop-sign in
    let many = part_length a.bytes.now a.from c.signs_before.result (omega (arith, c.signs_before.ensures.1)) in
    let same : at.sign-index ≡ c.signs_before.result = omega arith in
    let short = c.put_word.ensures.1 in
    let here = at.invariant.1 in
    let few = c.signs_before.ensures.1 in
    let all = ap (λ (n : ℕ). rightward 0 colon ++ shown_numbers a.bytes.now a.from n) (same ∙ c.signs_before.ensures.0) in
    (pens_as all (pens_then c.put_word.ensures.0 at.invariant.0), omega arith)
