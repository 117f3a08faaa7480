-- `pages::ending::ends_word` meets its contract: the blank, or a sign that names a format sign.
use Prim.Native.Nat.{ℕ}
use mathlib.Core.Path.{◌≡◌, ◌∙◌}
use borrow.Author.Tests.{eq-eqb, ne_eqb}
use Rattle.std.specs.Prelude.{Result, Ok, Err}
use Rattle.std.specs.Result.{is_ok}
use Rattle.table.specs.Search.{is_there}
use Rattle.pages.specs.Words.{format_of}
use Rattle.pages.specs.Signs.{ends_word}
use Rattle.pages.specs.inside.Formats.{Names}
use Rattle.pages.specs.declared.ending.Format.{Format}
use Rattle.pages.specs.declared.ending.NoFormat.{NoFormat}
use Rattle.pages.proofs.ending.ends_word.Goals as goal

named : (g : ℕ) (r : Result Format NoFormat) → Names g r → is_ok r ≡ is_there (format_of g)
named g (Ok f) e = rw e
named g (Err n) e = rw e

pub returns-then-sign-eq-BLANK : goal.returns-then-sign-eq-BLANK
unfolding ends_word
returns-then-sign-eq-BLANK c = rw (eq-eqb _ _ c.if-sign-eq-BLANK.true)

pub returns-else-sign-eq-BLANK : goal.returns-else-sign-eq-BLANK
unfolding ends_word
returns-else-sign-eq-BLANK c =
    rw (ne_eqb _ _ c.if-sign-eq-BLANK.false) (c.is_ok.ensures.value ∙ named c.args.sign c.try_from.result c.try_from.ensures)
