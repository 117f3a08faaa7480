-- `tables::modest::ModestDraft::read_line` meets its contract: the tests are those of the definition, in its order, at the place after the gap.
use mathlib.Core.Path.{sym, ◌∙◌}
use Rattle.std.proofs.lemmas.Result.{err_from_is_err_and}
use Rattle.form.specs.Reading.{keywords}
use Rattle.tables.proofs.OneLine.{keyword_stands, reads_nothing, reads_word, reads_none}
use Rattle.tables.proofs.modest.ModestDraft.read_line.Goals as goal

pub returns-then-ends_line : goal.returns-then-ends_line
returns-then-ends_line c =
    let ends = sym c.ends_line.ensures ∙ c.if-ends_line.true in
    (sym (reads_nothing _ _ _ c.gap_end-at.ensures.0 ends), tt)

pub returns-in_default : goal.returns-in_default
returns-in_default c =
    let ends = sym c.ends_line.ensures ∙ c.if-ends_line.false in
    (sym (reads_none _ _ _ c.gap_end-at.ensures.0 ends (sym c.in_default.ensures)), c.gap_end-at.ensures.1)

pub line_of-requires : goal.line_of-requires
line_of-requires c = (c.gap_end-at.ensures.1, keyword_stands _ _ keywords (sym c.in-Some.ensures))

pub returns-in_err-line_of : goal.returns-in_err-line_of
returns-in_err-line_of c =
    let ends = sym c.ends_line.ensures ∙ c.if-ends_line.false in
    let p = err_from_is_err_and c.from_residual.result c.from_residual.ensures.1 in
    rw (p.1, p.2) (c.in_err-line_of.ensures.0 ∙ sym (reads_word _ _ _ c.gap_end-at.ensures.0 _ ends (sym c.in-Some.ensures)), c.in_err-line_of.ensures.1)

pub returns : goal.returns
returns c =
    let ends = sym c.ends_line.ensures ∙ c.if-ends_line.false in
    (c.in_ok-line_of.ensures.0 ∙ sym (reads_word _ _ _ c.gap_end-at.ensures.0 _ ends (sym c.in-Some.ensures)), tt)
