-- `fields::cursor::Cursor::number` meets its contract: each answer is a case of the definition, given what the digits read as.
use mathlib.Core.Path.{sym, ◌∙◌}
use Rattle.std.proofs.lemmas.Result.{err_from_is_err_and}
use Rattle.form.proofs.Words.{number_none, number_wrong, number_few, number_joined, number_whole}
use Rattle.fields.proofs.Fields.{wrong_on}
use Rattle.fields.proofs.cursor.Cursor.number.Goals as goal

pub returns-then-not-starts_number : goal.returns-then-not-starts_number
returns-then-not-starts_number c =
    let a = c.args in
    rw c.unlike.ensures (sym (number_none a.least a.most _ (sym c.starts_number.ensures ∙ c.if-not-starts_number.true)), a.self.within)

pub returns-in_err-n : goal.returns-in_err-n
returns-in_err-n c =
    let a = c.args in
    let starts = sym c.starts_number.ensures ∙ c.if-not-starts_number.false in
    let p = err_from_is_err_and c.from_residual.result c.from_residual.ensures.1 in
    rw (p.1, p.2) (sym (number_wrong a.least a.most _ starts c.in_err-n.ensures.0), c.in_err-n.ensures.1)

pub returns-then-n-least : goal.returns-then-n-least
returns-then-n-least c =
    let a = c.args in
    let starts = sym c.starts_number.ensures ∙ c.if-not-starts_number.false in
    rw c.unlike-then-n-least.ensures
    (wrong_on c.in_ok-n.ensures.1.1 (sym (number_few a.least a.most _ starts c.in_ok-n.ensures.0 c.if-n-least.true)) c.in_ok-n.next.within)

pub returns-in_err-whole_word : goal.returns-in_err-whole_word
returns-in_err-whole_word c =
    let a = c.args in
    let starts = sym c.starts_number.ensures ∙ c.if-not-starts_number.false in
    let p = err_from_is_err_and c.from_residual-in_err-whole_word.result c.from_residual-in_err-whole_word.ensures.1 in
    let joined = c.in_err-whole_word.ensures in
    rw (p.1, p.2, joined.1)
    (wrong_on c.in_ok-n.ensures.1.1 (sym (number_joined a.least a.most _ starts c.in_ok-n.ensures.0 c.if-n-least.false joined.0)) c.in_ok-n.next.within)

pub returns : goal.returns
returns c =
    let a = c.args in
    let starts = sym c.starts_number.ensures ∙ c.if-not-starts_number.false in
    (sym (number_whole a.least a.most _ starts c.in_ok-n.ensures.0 c.if-n-least.false c.in_ok-whole_word.ensures), c.in_ok-n.ensures.1)
