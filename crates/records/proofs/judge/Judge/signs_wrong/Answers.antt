-- `Judge::signs_wrong` meets its contract. The loop's invariant: the signs passed are right, and the last of them is the one before.
use Rattle.std.proofs.Common.{◌∙◌, sym, ap, arith, add-one, below_more}
use Rattle.std.proofs.lemmas.Grind.{common_steps}
use Rattle.table.specs.Numbers.{entry_signs}
use Rattle.table.specs.inside.Found.{found}
use Rattle.table.proofs.Search.{found_first, found_none}
use Rattle.records.specs.inside.Judging.{sign_before}
use Rattle.records.proofs.judge.Judge.signs_wrong.Invariants.{fails}
use Rattle.records.proofs.judge.Judge.signs_wrong.Goals as goal

pub returns-then-not-sign_after_right : goal.returns-then-not-sign_after_right
returns-then-not-sign_after_right c =
    let judge = c.args.self.now in
    sym (ap found (found_first (fails judge.image.now judge.sections.contractions c.args.k) entry_signs c.loop-i.i c.loop-i.invariant.passed (omega arith) (grind (arith, common_steps))))

pub loop-i-preserved : goal.loop-i-preserved
loop-i-preserved c = record {
  last = c.record_byte-sign.ensures.is ∙ ap (sign_before c.args.self.now.image.now c.args.self.now.sections.contractions c.args.k) (sym (add-one c.loop-i.i));
  passed = below_more _ _ c.loop-i.invariant.passed (grind (arith, common_steps));
}

pub returns : goal.returns
returns c =
    let judge = c.args.self.now in
    sym (ap found (found_none (fails judge.image.now judge.sections.contractions c.args.k) entry_signs c.loop-i.i c.loop-i.invariant.passed (omega arith)))
