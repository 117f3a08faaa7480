-- `ink::marking::mark_measured` meets its contract: each answer is a case of the call.
use Rattle.std.proofs.lemmas.Result.{err_from_is_err_and}
use Rattle.inkprint.proofs.Calls.{inks_walked, inks_short, inks_measured}
use Rattle.ink.proofs.marking.mark_measured.Goals as goal

pub returns-in_err-needed : goal.returns-in_err-needed
returns-in_err-needed c =
    let p = err_from_is_err_and c.from_residual.result c.from_residual.ensures.1 in
    rw (p.1, p.2) (inks_walked _ c.requires c.in_err-needed.ensures.comes)

pub returns-then-out-needed : goal.returns-then-out-needed
returns-then-out-needed c = inks_short _ c.requires c.in_ok-needed.ensures.comes c.if-out-needed.true

pub returns : goal.returns
returns c = inks_measured _ c.requires c.walk-2.ensures.comes c.walk-2.ensures.writes c.in_ok-needed.ensures.comes c.if-out-needed.false
