-- `pages::Place::line_end` meets its contract: by whether the line holds a cell.
use mathlib.Core.Path.{sym, ◌∙◌}
use native.Mathlib.Omega.{arith}
use Rattle.pages.proofs.Moves as Moves
use Rattle.pages.proofs.Place.line_end.Goals as goal

pub returns-then-self-gt0 : goal.returns-then-self-gt0
returns-then-self-gt0 c =
    let a = c.args in
    c.line_done.ensures ∙ sym (Moves.line_end_held a.sheet a.self c.if-self-gt0.true)

pub returns-else-self-gt0 : goal.returns-else-self-gt0
returns-else-self-gt0 c =
    let a = c.args in
    sym (Moves.line_end_empty a.sheet a.self (omega arith))
