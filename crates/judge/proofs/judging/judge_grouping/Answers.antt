-- `judge::judging::judge_grouping` meets its contract: the first record that breaks the grouping is the definition's.
use Rattle.std.proofs.Common.{◌∙◌, sym}
use Rattle.table.specs.Table.{table_in}
use Rattle.table.specs.Grouping.{first_break}
use Rattle.table.specs.Verdict.{strings, grouping_verdict}
use Rattle.table.proofs.Search.{found_at, found_nothing}
use Rattle.judge.proofs.judging.judge_grouping.Goals as goal

pub returns-in-Some : goal.returns-in-Some
unfolding grouping_verdict
returns-in-Some c =
    rw (c.offset_of.ensures.is, found_at (first_break (strings (table_in c.args.image.now c.args.s))) c.in-Some.r (sym c.first_break.ensures ∙ c.in-Some.is), grouping_verdict)

pub returns-in-None : goal.returns-in-None
unfolding grouping_verdict
returns-in-None c =
    rw (found_nothing (first_break (strings (table_in c.args.image.now c.args.s))) (sym c.first_break.ensures ∙ c.in-None.is), grouping_verdict)
