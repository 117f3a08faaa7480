-- `form::wording::is_word` meets its contract: the word is there just where the rest begins with it and then ends.
use mathlib.Core.Path.{sym, ◌∙◌}
use Rattle.form.proofs.Words.{word_begins, word_other}
use Rattle.form.proofs.wording.is_word.Goals as goal

pub returns-then-starts_with : goal.returns-then-starts_with
returns-then-starts_with c =
    let a = c.args in
    c.ends_word.ensures ∙ sym (word_begins a.word.now a.line.now a.at c.min-at.result c.min-at.ensures (sym c.starts_with.ensures.value ∙ c.if-starts_with.true))

pub returns-else-starts_with : goal.returns-else-starts_with
returns-else-starts_with c =
    let a = c.args in
    c.if-starts_with.false ∙ sym (word_other a.word.now a.line.now a.at c.min-at.result c.min-at.ensures (sym c.starts_with.ensures.value ∙ c.if-starts_with.false))
