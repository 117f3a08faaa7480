-- `translation::collapsing::thin` meets its contract: a bar, and a blank where none is kept any more, are passed over, and any other character is
-- written, in the four cases of the definitions.
use mathlib.Core.Logic.{◌≢◌}
use mathlib.Core.Path.{◌≡◌, sym, ◌∙◌}
use native.Mathlib.Omega.{arith}
use Rattle.translation.proofs.Thinned.{bar_goes, blank_goes, blank_stays, other_stays}
use Rattle.translation.proofs.collapsing.thin.Goals as goal

pub returns-then-c-eq124 : goal.returns-then-c-eq124
returns-then-c-eq124 c = record { whole = λ text. sym (bar_goes _ _ text c.if-c-eq124.true) }

pub returns-in_err-kept : goal.returns-in_err-kept
returns-in_err-kept c =
    let e = c.unfed-c.ensures in
    let none : c.args.kept.now ≡ 0 = omega (arith, c.in_err-kept.ensures) in
    rw c.from_residual.ensures
    (record { whole = λ text. sym (blank_goes _ _ text c.if-c-eq124.false (sym e ∙ c.if-c-eq32.true) none) })

pub returns-in_ok-kept : goal.returns-in_ok-kept
returns-in_ok-kept c =
    let e = c.unfed-c.ensures in
    let one_less = c.in_ok-kept.ensures in
    let some : c.args.kept.now ≢ 0 = omega arith in
    record {
      whole =
          λ text.
          sym (rw (one_less.1, e) (blank_stays _ _ text c.if-c-eq124.false (sym e ∙ c.if-c-eq32.true) some));
    }

pub returns-else-c-eq32 : goal.returns-else-c-eq32
returns-else-c-eq32 c =
    let e = c.unfed-c.ensures in
    record {
      whole =
          λ text.
          sym (rw (c.kept_after.ensures, e) (other_stays _ _ text c.if-c-eq124.false (λ b. c.if-c-eq32.false (e ∙ b))));
    }
