-- `ink::marking::mark_roomy` meets its contract: where each character has a mark, the marked text has at most four bytes for each of the text, and so there is room.
use Rattle.std.proofs.lemmas.Result.{err_from_is_err_and}
use Rattle.inkprint.proofs.Calls.{inks_judged, inks_judged_fine}
use Rattle.ink.proofs.marking.mark_roomy.Goals as goal

pub returns-in_err-judge : goal.returns-in_err-judge
returns-in_err-judge c =
    let p = err_from_is_err_and c.from_residual.result c.from_residual.ensures.1 in
    rw (p.1, p.2) (inks_judged _ c.requires.long c.in_err-judge.ensures)

pub returns : goal.returns
returns c = inks_judged_fine _ c.requires.long c.walk.ensures.comes c.walk.ensures.writes c.in_ok-judge.ensures c.requires.room
