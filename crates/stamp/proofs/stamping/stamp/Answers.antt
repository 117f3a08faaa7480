-- `stamp::stamping::stamp` meets its contract. The invariant: the two numbers so far, grown by the bytes that are left, are those of the whole image.
use Rattle.std.proofs.Common.{sym, ◌∙◌, refl}
use Rattle.std.proofs.lemmas.Result.{err_from_is_err_and}
use Rattle.stamp.specs.Sums.{grown}
use Rattle.stamp.proofs.Outcomes.{stamp_refused, walk_starts, walk_on, walk_ends}
use Rattle.stamp.proofs.stamping.stamp.Goals as goal

pub returns-in_err-check : goal.returns-in_err-check
returns-in_err-check c =
    let p = err_from_is_err_and c.from_residual.result c.from_residual.ensures.1 in
    record { is = rw (p.1, p.2) (sym (stamp_refused _ _ (sym c.check.ensures.is ∙ c.in_err-check.was))) }

pub loop-byte-init : goal.loop-byte-init
loop-byte-init c = walk_starts _

pub loop-byte-preserved : goal.loop-byte-preserved
unfolding grown
loop-byte-preserved c =
    walk_on _ c.loop-byte.first c.loop-byte.second c.loop-byte.byte-index _ _ c.from-first.result c.loop-byte-test.true c.from-first.ensures refl refl
    c.loop-byte.invariant

pub returns : goal.returns
returns c = walk_ends _ _ _ (sym c.check.ensures.is ∙ c.in_ok-check.was) c.loop-byte-test.false c.loop-byte.invariant
