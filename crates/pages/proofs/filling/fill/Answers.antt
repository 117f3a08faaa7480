-- `pages::filling::fill` meets its contract: a refused sheet is the answer, and on an accepted one the signs at the front are laid out.
use Prim.Native.Nat.{ℕ, min}
use borrow.Author.Rules.{rules}
use mathlib.Core.Path.{◌≡◌, sym, ◌∙◌, ap}
use native.Mathlib.Omega.{arith}
use lib.ListN.{length, take, length-take}
use Rattle.std.proofs.lemmas.List.{take_min}
use Rattle.std.proofs.lemmas.Result.{err_from_is_err_and}
use Rattle.pages.specs.Fill.{refused, filling}
use Rattle.pages.proofs.Sizes.{sizes_of_accepted}
use Rattle.pages.proofs.filling.fill.Goals as goal

pub fill_accepted-requires : goal.fill_accepted-requires
fill_accepted-requires c =
    let a = c.args in
    let w = (sizes_of_accepted a.sheet (sym c.in_ok-verdict.ensures.is)).0 in
    let n = length-take c.min.result a.signs.now in
    record { most = omega arith; wide = omega arith; narrow = w.high }

pub returns : goal.returns
unfolding filling
returns c =
    let a = c.args in
    let e = sym c.in_ok-verdict.ensures.is in
    let l : length a.signs.now ≡ 65536 = search rules in
    let front : take c.min.result a.signs.now ≡ take a.n a.signs.now =
    ap (λ (k : ℕ). take k a.signs.now) (c.min.ensures ∙ ap (λ (k : ℕ). min a.n k) (sym l)) ∙ take_min a.n a.signs.now in
    let ends = rw front at c.fill_accepted.ensures in
    record { answers = rw (e, filling) ends.answers; leaves = rw (e, filling) ends.leaves }

pub returns-in_err-verdict : goal.returns-in_err-verdict
unfolding filling refused
returns-in_err-verdict c =
    let p = err_from_is_err_and c.from_residual.result c.from_residual.ensures.1 in
    let e = sym c.in_err-verdict.ensures.is in
    record { answers = rw (e, filling) (rw (p.1, p.2)); leaves = rw (e, filling) }
