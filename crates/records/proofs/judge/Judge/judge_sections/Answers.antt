-- `Judge::judge_sections` meets its contract. The loop's invariant: the search goes on from a section as it went from the first.
use Rattle.std.proofs.Common.{◌≡◌, ◌∙◌, sym, ap, refl, arith}
use Rattle.std.proofs.lemmas.Result.{err_from_is_err_and}
use Rattle.table.specs.Records.{first_wrong, first_wrong_of}
use Rattle.records.proofs.SectionSearch.{fault_from, wrong_here, right_here}
use Rattle.records.proofs.judge.Judge.judge_sections.Goals as goal

pub loop-name-init : goal.loop-name-init
unfolding first_wrong
loop-name-init c = refl

pub loop-name-preserved : goal.loop-name-preserved
loop-name-preserved c =
    c.loop-name.invariant ∙ right_here c.args.self.now.image.now c.args.self.now.sections c.loop-name.name-index _ (omega arith) (sym c.judge_section.ensures ∙ c.in_ok-judge_section.was)

pub returns-in_err-judge_section : goal.returns-in_err-judge_section
returns-in_err-judge_section c =
    let p = err_from_is_err_and c.from_residual.result c.from_residual.ensures.1 in
    rw (p.1, p.2)
    (sym
    (c.loop-name.invariant
    ∙ wrong_here c.args.self.now.image.now c.args.self.now.sections c.loop-name.name-index _ _ (omega arith) (sym c.judge_section.ensures ∙ c.in_err-judge_section.was)))

pub returns : goal.returns
unfolding first_wrong_of
returns c =
    let over : c.loop-name.name-index ≡ 5 = omega arith in
    sym (c.loop-name.invariant ∙ ap (fault_from c.args.self.now.image.now c.args.self.now.sections) over)
