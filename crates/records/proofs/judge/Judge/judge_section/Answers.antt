-- `Judge::judge_section` meets its contract. The loop's invariant: the records passed are right.
use Rattle.std.proofs.Common.{◌∙◌, sym, ap, arith, below_more}
use Rattle.table.specs.Records.{wrong_byte, rule_of}
use Rattle.table.specs.declared.Section.{Section}
use Rattle.table.proofs.Search.{found_at, found_nothing}
use Rattle.records.proofs.SectionSearch.{right_without, found_in, none_in}
use Rattle.records.proofs.judge.Judge.judge_section.Goals as goal

pub returns-in-Some : goal.returns-in-Some
returns-in-Some c =
    let judge = c.args.self.now in
    let counted = ap (λ (x : Section). x.records) c.section_named-k-end.ensures.is in
    sym
    (found_in judge.image.now judge.sections c.args.name c.loop-k.k c.in-Some.j c.loop-k.invariant (omega arith)
    (found_at (wrong_byte (rule_of judge.image.now judge.sections c.args.name c.loop-k.k)) c.in-Some.j (sym c.record_wrong.ensures ∙ c.in-Some.is)))

pub loop-k-preserved : goal.loop-k-preserved
loop-k-preserved c =
    let judge = c.args.self.now in
    below_more _ _ c.loop-k.invariant
    (right_without judge.image.now judge.sections c.args.name c.loop-k.k (found_nothing (wrong_byte (rule_of judge.image.now judge.sections c.args.name c.loop-k.k)) (sym c.record_wrong.ensures ∙ c.in_default.is)))

pub returns : goal.returns
returns c =
    let judge = c.args.self.now in
    let counted = ap (λ (x : Section). x.records) c.section_named-k-end.ensures.is in
    sym (none_in judge.image.now judge.sections c.args.name c.loop-k.k c.loop-k.invariant (omega arith))
