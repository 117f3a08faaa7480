-- `pages::Sheet::verdict` meets its contract: the test is the definition's.
use native.Mathlib.Omega.{arith}
use Rattle.std.proofs.lemmas.Bool.Decides.{nat_tests}
use Rattle.pages.specs.Volume.{sheet_right, sheet_verdict}
use Rattle.pages.proofs.Sheet.verdict.Goals as goal
use Rattle.pages.proofs.Sheet.verdict.Goals.{else-contains-via-then-contains+else-contains-2, else-contains-via-else-contains}

pub returns-then-contains-2 : goal.returns-then-contains-2
unfolding sheet_verdict sheet_right
returns-then-contains-2 c = record { is = grind (arith, nat_tests, c.if-contains.ensures.cases, c.if-contains-2.ensures.cases) }

pub returns-else-contains : goal.returns-else-contains
unfolding sheet_verdict sheet_right
returns-else-contains c =
    elim c.else-contains.branch [
      | else-contains-via-then-contains+else-contains-2 w ↦ record { is = grind (arith, nat_tests, w.if-contains.ensures.cases, w.if-contains-2.ensures.cases) }
      | else-contains-via-else-contains w ↦ record { is = grind (arith, nat_tests, w.if-contains.ensures.cases) }
    ]
