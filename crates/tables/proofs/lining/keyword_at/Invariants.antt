-- `tables::lining::keyword_at` meets its contract. The loop's invariant: the words that are left are tried after those that don't stand there.
use mathlib.Core.Path.{◌≡◌}
use lib.ListN.{drop}
use Rattle.form.specs.Reading.{keyword_in, keywords}
use Rattle.tables.proofs.lining.keyword_at.Given as goal

abbrev pub invariant-loop-keyword : goal.invariant-loop-keyword
invariant-loop-keyword l = keyword_in (drop l.at l.line) (drop l.keyword-index keywords) ≡ keyword_in (drop l.at l.line) keywords
