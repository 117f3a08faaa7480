-- `files::filing::convert` meets its contract: each answer is a case of the call.
use mathlib.Core.Path.{◌≡◌, sym, ◌∙◌}
use native.Mathlib.Omega.{arith}
use Rattle.std.specs.Prelude.{None}
use Rattle.std.proofs.lemmas.Result.{err_from_is_err_and}
use Rattle.pages.proofs.Sizes.{sizes_of_accepted}
use Rattle.embosser.specs.Judging.{wrong_at}
use Rattle.embosser.proofs.Outcomes.{filing_refused, filing_wrong, filing_short, filing_done, files_refused, files_done}
use Rattle.files.proofs.filing.convert.Goals as goal

pub returns-in_err-verdict : goal.returns-in_err-verdict
returns-in_err-verdict c =
    let p = err_from_is_err_and c.from_residual.result c.from_residual.ensures.1 in
    rw (p.1, p.2) (files_refused _ _ _ _ _ (filing_refused _ _ _ _ _ (sym c.in_err-verdict.ensures.is)))

pub first_wrong-requires : goal.first_wrong-requires
first_wrong-requires c =
    let sizes = sizes_of_accepted _ (sym c.in_ok-verdict.ensures.is) in record { width = sizes.0.high; length = sizes.1.high }

pub returns-in-Some : goal.returns-in-Some
returns-in-Some c =
    files_refused _ _ _ _ _ (filing_wrong _ _ _ _ (sym c.in_ok-verdict.ensures.is) _ (sym c.first_wrong.ensures ∙ c.in-Some.is))

pub returns-then-out-needed : goal.returns-then-out-needed
returns-then-out-needed c =
    let right : let a = c.args in wrong_at a.kind a.sheet a.bytes.now ≡ None = sym c.first_wrong.ensures ∙ c.in_default.is in
    files_refused _ _ _ _ _ (filing_short _ _ _ _ (sym c.in_ok-verdict.ensures.is) right (omega arith))

pub returns : goal.returns
returns c =
    let right : let a = c.args in wrong_at a.kind a.sheet a.bytes.now ≡ None = sym c.first_wrong.ensures ∙ c.in_default.is in
    files_done _ _ _ _ _ (filing_done _ _ _ _ (sym c.in_ok-verdict.ensures.is) right (omega arith)) c.put_turned.ensures
