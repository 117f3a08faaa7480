-- `tables::lining::keyword_at` meets its contract. The loop's invariant: the words that are left are tried after those that don't stand there.
use mathlib.Core.Path.{sym, ◌∙◌}
use native.Mathlib.Omega.{arith}
use Rattle.form.specs.Reading.{keywords}
use Rattle.form.specs.declared.Keyword.TheVariants.{Dated}
use Rattle.tables.proofs.OneLine.{word_stands, word_other, word_none}
use Rattle.tables.proofs.lining.keyword_at.Goals as goal

pub returns-then-is_word : goal.returns-then-is_word
returns-then-is_word c =
    let is = sym (rw c.word.ensures at c.is_word.ensures) ∙ c.if-is_word.true in
    word_stands _ keywords c.loop-keyword.keyword-index Dated (omega arith) is ∙ c.loop-keyword.invariant

pub loop-keyword-preserved : goal.loop-keyword-preserved
loop-keyword-preserved c =
    let other = sym (rw c.word.ensures at c.is_word.ensures) ∙ c.if-is_word.false in
    word_other _ keywords c.loop-keyword.keyword-index Dated (omega arith) other ∙ c.loop-keyword.invariant

pub returns : goal.returns
returns c = word_none _ keywords c.loop-keyword.keyword-index (omega arith) ∙ c.loop-keyword.invariant
