-- `pages::Place::line_done` meets its contract: by whether one more line fills the page.
use mathlib.Core.Path.{sym}
use Prim.Native.Nat.{◌+◌}
use borrow.Author.Tests.{ne_eqb}
use Rattle.pages.specs.Place.{after_line, fills_page}
use Rattle.pages.proofs.Moves as Moves
use Rattle.pages.proofs.Place.line_done.Goals as goal

pub returns-then-self-sheet : goal.returns-then-self-sheet
returns-then-self-sheet c =
    let a = c.args in
    sym (Moves.line_fills a.sheet a.self c.if-self-sheet.true)

pub returns-else-self-sheet : goal.returns-else-self-sheet
unfolding after_line fills_page
returns-else-self-sheet c =
    let a = c.args in
    rw (ne_eqb (a.self.line + 1) a.sheet.length c.if-self-sheet.false)
