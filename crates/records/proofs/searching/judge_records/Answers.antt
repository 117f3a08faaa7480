-- `records::searching::judge_records` meets its contract: each way out is the first thing that is wrong, or that nothing is.
use Rattle.std.proofs.Common.{sym, ◌∙◌, ap, arith}
use Rattle.std.proofs.lemmas.Result.{err_from_is_err_and}
use Rattle.table.specs.Numbers.{blank}
use Rattle.records.specs.Judged.{records_judged}
use Rattle.records.proofs.JudgedSteps.{wrong_judged, records_right, no_blank_judged, blank_there}
use Rattle.records.proofs.searching.judge_records.Goals as goal

pub returns-in_err-judge_sections : goal.returns-in_err-judge_sections
returns-in_err-judge_sections c =
    let p = err_from_is_err_and c.from_residual.result c.from_residual.ensures.1 in
    record {
      is = rw (p.1, p.2)
          (sym (wrong_judged c.args.image.now c.locate-sections.result _ (sym c.judge_sections.ensures ∙ c.in_err-judge_sections.was))
          ∙ ap (records_judged c.args.image.now) c.locate-sections.ensures.is);
    }

pub returns-then-letters-eq0 : goal.returns-then-letters-eq0
returns-then-letters-eq0 c =
    let image = c.args.image.now in
    let s = c.locate-sections.result in
    let number = c.letters_by_symbol-letters.ensures.numbers blank (omega arith) in
    let passed = records_right image s (sym c.judge_sections.ensures ∙ c.in_ok-judge_sections.was) in
    record { is = sym (passed ∙ no_blank_judged image s (sym number ∙ c.if-letters-eq0.true)) ∙ ap (records_judged image) c.locate-sections.ensures.is }

pub returns : goal.returns
returns c =
    let image = c.args.image.now in
    let s = c.locate-sections.result in
    let number = c.letters_by_symbol-letters.ensures.numbers blank (omega arith) in
    let passed = records_right image s (sym c.judge_sections.ensures ∙ c.in_ok-judge_sections.was) in
    record { is = sym (passed ∙ blank_there image s (λ none. c.if-letters-eq0.false (number ∙ none))) ∙ ap (records_judged image) c.locate-sections.ensures.is }
