-- `layout::embossing::emboss` meets its contract: each answer of the translation is a case of the whole call.
use Rattle.std.proofs.lemmas.Result.{err_from_is_err_and}
use Rattle.layout.proofs.WholeCall.{whole_translated}
use Rattle.layout.proofs.embossing.emboss.Goals as goal

pub returns-in_err-pieces : goal.returns-in_err-pieces
returns-in_err-pieces c =
    let p = err_from_is_err_and c.from_residual.result c.from_residual.ensures.1 in
    rw (p.1, p.2) (whole_translated _ _ _ _ _ _ c.verdict-also.ensures.is c.translate.ensures c.in_err-pieces.was)

pub returns-in_err-written : goal.returns-in_err-written
returns-in_err-written c =
    let p = err_from_is_err_and c.from_residual-in_err-written.result c.from_residual-in_err-written.ensures.1 in
    let case = whole_translated _ _ _ _ _ _ c.verdict-also.ensures.is c.translate.ensures c.in_ok-pieces.was in
    rw (p.1, p.2) (rw c.in_err-written.was at (case _ _ c.fill.ensures))

pub returns : goal.returns
returns c =
    let case = whole_translated _ _ _ _ _ _ c.verdict-also.ensures.is c.translate.ensures c.in_ok-pieces.was in
    rw c.in_ok-written.was at (case _ _ c.fill.ensures)
