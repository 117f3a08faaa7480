-- `translation::translating::translate_read` meets its contract: the verdict's refusal is the answer, then the caller's own, and an accepted image with its
-- sections makes a translator.
use mathlib.Core.Path.{sym, ◌∙◌}
use Rattle.std.proofs.lemmas.Result.{err_from_is_err_and}
use Rattle.table.specs.Table.{table_of}
use Rattle.translation.proofs.Outcomes.{table_refused, also_refused, goes_on, ends_refused, ends_as}
use Rattle.translation.proofs.translating.translate_read.Goals as goal

pub returns-in_err-r : goal.returns-in_err-r
returns-in_err-r c =
    let p = err_from_is_err_and c.from_residual.result c.from_residual.ensures.1 in
    rw (p.1, p.2) (ends_refused (table_refused _ _ _ _ (sym c.requires.reads.checked.is ∙ c.in_err-r.was)))

pub returns-in_err-terms : goal.returns-in_err-terms
returns-in_err-terms c =
    let p = err_from_is_err_and c.from_residual-in_err-terms.result c.from_residual-in_err-terms.ensures.1 in
    rw (p.1, p.2) (ends_refused (also_refused _ _ _ _ (sym c.requires.reads.checked.is ∙ c.in_ok-r.was) c.in_err-terms.was))

pub returns : goal.returns
unfolding table_of
returns c =
    let verdict = sym c.requires.reads.checked.is ∙ c.in_ok-r.was in
    ends_as _ (goes_on _ _ _ verdict c.in_ok-terms.was) (rw c.requires.reads.located.is at c.translate.ensures)
