-- `writing::showing::show` meets its contract: each answer is a case of the call, and what is measured is the length of what is written.
use mathlib.Core.Path.{◌≡◌, sym}
use native.Mathlib.Omega.{arith}
use Rattle.std.specs.Prelude.{Ok}
use Rattle.std.proofs.lemmas.Result.{err_from_is_err_and}
use Rattle.table.specs.Sections.{sections_of}
use Rattle.table.specs.Verdict.{verdict_of}
use Rattle.form.specs.Showing.{head_of}
use Rattle.writing.proofs.Showable.{showable_by}
use Rattle.writing.proofs.Shown.{show_unaccepted, ends_refused, show_short, show_done}
use Rattle.writing.proofs.showing.show.Goals as goal
use Rattle.writing.proofs.showing.show.Goals.{After-head_of-draft}

pub returns-in_err-check : goal.returns-in_err-check
returns-in_err-check c =
    let a = c.args in
    let p = err_from_is_err_and c.from_residual.result c.from_residual.ensures.1 in
    rw (p.1, p.2) (ends_refused _ a.out.now _ (show_unaccepted a.image.now a.out.now _ (sym c.in_err-check.ensures.is)))

-- an accepted image, its sections and what its first lines say
known : (c : After-head_of-draft) → (c.locate-s.result ≡ sections_of c.args.image.now) × (c.head_of-draft.result ≡ head_of c.locate-s.result) × (verdict_of c.args.image.now ≡ Ok tt)
known c = (c.locate-s.ensures.is, c.head_of-draft.ensures, sym c.in_ok-check.ensures.is)

pub put_all-needed-requires : goal.put_all-needed-requires
put_all-needed-requires c = let k = known (goal.at.put_all-needed-requires c).After-head_of-draft in showable_by _ _ _ k.0 k.1 k.2

pub returns-then-out-needed : goal.returns-then-out-needed
returns-then-out-needed c =
    let a = c.args in
    let k = known (goal.at.returns-then-out-needed c).After-head_of-draft in
    show_short a.image.now a.out.now _ _ k.0 k.1 k.2 _ c.put_all-needed.ensures.goes (omega arith)

pub put_all-requires : goal.put_all-requires
put_all-requires c = let k = known (goal.at.put_all-requires c).After-head_of-draft in showable_by _ _ _ k.0 k.1 k.2

pub returns : goal.returns
returns c =
    let a = c.args in
    let k = known (goal.at.returns c).After-head_of-draft in
    show_done a.image.now a.out.now _ _ k.0 k.1 k.2 _ c.put_all.ensures.goes _ _ (omega (arith, c.put_all.ensures.goes, c.put_all-needed.ensures.goes)) c.put_all.ensures
