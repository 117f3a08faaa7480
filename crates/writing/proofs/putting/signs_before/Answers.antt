-- `writing::putting::signs_before` meets its contract. The loop's invariant: none of the first j signs is 99, and the rest is counted from there.
use Prim.Native.Nat.{ℕ, ◌+◌, ◌-◌, ◌<◌}
use mathlib.Core.Path.{◌≡◌, sym, ◌∙◌, ap}
use native.Mathlib.Nat.{add-zero}
use native.Mathlib.Omega.{arith}
use Rattle.form.specs.Showing.{signs_before}
use Rattle.writing.proofs.Puts.{part_get, part_length}
use Rattle.writing.proofs.Shown.{signs_stop, signs_on}
use Rattle.writing.proofs.putting.signs_before.Goals as goal

pub loop-j-init : goal.loop-j-init
loop-j-init c =
    let here = ap (λ (n : ℕ). signs_before c.args.bytes.now n 4) (add-zero c.args.from) in
    omega arith

pub returns-then-sign-eq99 : goal.returns-then-sign-eq99
returns-then-sign-eq99 c =
    let a = c.args in
    let j = c.loop-j.j in
    let four = part_length a.bytes.now a.from 4 c.requires in
    let here = sym (part_get a.bytes.now a.from 4 j (omega arith)) ∙ c.if-sign-eq99.true in
    let none = signs_stop a.bytes.now (a.from + j) (4 - j) here in
    let counted = c.loop-j.invariant in
    (omega arith, omega arith)

pub loop-j-preserved : goal.loop-j-preserved
loop-j-preserved c =
    let a = c.args in
    let j = c.loop-j.j in
    let four = part_length a.bytes.now a.from 4 c.requires in
    let few : j < 4 = omega arith in
    let more = signs_on a.bytes.now a.from j few (λ e. c.if-sign-eq99.false (part_get a.bytes.now a.from 4 j few ∙ e)) in
    let counted = c.loop-j.invariant in
    omega arith

pub returns : goal.returns
unfolding signs_before
returns c =
    let a = c.args in
    let four = part_length a.bytes.now a.from 4 c.requires in
    let all : c.loop-j.j ≡ 4 = omega arith in
    let none : signs_before a.bytes.now (a.from + c.loop-j.j) (4 - c.loop-j.j) ≡ 0 = ap (λ (n : ℕ). signs_before a.bytes.now (a.from + c.loop-j.j) (4 - n)) all in
    let counted = c.loop-j.invariant in
    (omega arith, omega arith)
