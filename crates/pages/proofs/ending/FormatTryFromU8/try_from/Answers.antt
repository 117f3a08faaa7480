-- `pages::ending::Format::try_from` meets its contract: the four signs are the definition's, and any other is none.
use native.Mathlib.Omega.{arith}
use borrow.Author.Tests.{ne_eqb}
use Rattle.pages.specs.Words.{format_of}
use Rattle.pages.proofs.ending.FormatTryFromU8.try_from.Goals as goal

pub returns-in-70 : goal.returns-in-70
unfolding format_of
returns-in-70 c = rw c.in-70.is

pub returns-in-71 : goal.returns-in-71
unfolding format_of
returns-in-71 c = rw c.in-71.is

pub returns-in-72 : goal.returns-in-72
unfolding format_of
returns-in-72 c = rw c.in-72.is

pub returns-in-73 : goal.returns-in-73
unfolding format_of
returns-in-73 c = rw c.in-73.is

pub returns-in_default : goal.returns-in_default
unfolding format_of
returns-in_default c =
    let g = c.args.sign in
    rw (ne_eqb g 70 (λ e. omega arith), ne_eqb g 71 (λ e. omega arith), ne_eqb g 72 (λ e. omega arith), ne_eqb g 73 (λ e. omega arith))
