-- `pages::Place::opening_blanks` meets its contract: the test is the definition's.
use native.Mathlib.Omega.{arith}
use Rattle.std.proofs.lemmas.Bool.Decides.{nat_tests}
use Rattle.pages.specs.Place.{opening_blanks}
use Rattle.pages.proofs.Place.opening_blanks.Goals as goal
use Rattle.pages.proofs.Place.opening_blanks.Goals.{else-self-via-then-self+else-n-sheet, else-self-via-else-self}

pub returns-then-n-sheet : goal.returns-then-n-sheet
unfolding opening_blanks
returns-then-n-sheet c = grind (arith, nat_tests, c.if-self.true, c.if-n-sheet.true)

pub returns-else-self : goal.returns-else-self
unfolding opening_blanks
returns-else-self c =
    elim c.else-self.branch [
      | else-self-via-then-self+else-n-sheet w ↦ grind (arith, nat_tests, w.if-self.true, w.if-n-sheet.false)
      | else-self-via-else-self w ↦ grind (arith, nat_tests, w.if-self.false)
    ]
