-- `fields::cursor::Cursor::year` meets its contract: the year stands after its word, or isn't said.
use mathlib.Core.Path.{refl, sym, ◌∙◌, ap}
use native.Mathlib.Omega.{arith}
use lib.ListN.{length, drop}
use lib.Seq.{drop-drop}
use Rattle.fields.proofs.Fields.{rest_is, value_on, word_fits, year_said, year_unsaid}
use Rattle.fields.proofs.cursor.Cursor.year.Goals as goal

pub returns-then-not-is_word : goal.returns-then-not-is_word
returns-then-not-is_word c =
    let a = c.args in
    let is = sym (rw c.after_gap-start.ensures.rest at c.is_word.ensures) ∙ c.if-not-is_word.true in
    (sym (year_unsaid a.word.now _ a.unsaid is), (omega arith, refl))

pub returns : goal.returns
returns c =
    let a = c.args in
    let is = sym (rw c.after_gap-start.ensures.rest at c.is_word.ensures) ∙ c.if-not-is_word.false in
    let later =
    rest_is c.to.result c.to.ensures.place c.to.ensures.line
    ∙ sym (drop-drop (length a.word.now) c.after_gap-start.result.at c.after_gap-start.result.line.now)
    ∙ ap (drop (length a.word.now)) c.after_gap-start.ensures.rest in
    let at = rw later at c.after_gap.ensures.rest in
    let same = c.after_gap.ensures.line ∙ c.to.ensures.line ∙ c.after_gap-start.ensures.line in
    value_on same 65535 c.number.result (rw at at c.number.ensures.0 ∙ sym (year_said a.word.now _ a.unsaid is)) c.number.ensures.1

pub to-requires : goal.to-requires
to-requires c =
    word_fits c.args.word.now c.after_gap-start.result.line.now c.after_gap-start.result.at c.after_gap-start.result.within (sym c.is_word.ensures ∙ c.if-not-is_word.false)
