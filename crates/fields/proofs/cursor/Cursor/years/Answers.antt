-- `fields::cursor::Cursor::years` meets its contract: the years of the two words, each in two bytes.
use mathlib.Core.Path.{sym, ◌∙◌}
use Rattle.std.proofs.lemmas.Result.{err_from_is_err_and}
use Rattle.form.specs.Fields.{number_bytes}
use Rattle.fields.proofs.Fields.{wrong_on, year_bytes, years_wrong, years_off, years_read_lem}
use Rattle.fields.proofs.cursor.Cursor.years.Goals as goal

pub returns-in_err-first : goal.returns-in_err-first
returns-in_err-first c =
    let p = err_from_is_err_and c.from_residual.result c.from_residual.ensures.1 in
    rw (p.1, p.2) (sym (years_wrong _ (sym c.in_err-first.ensures.0)), c.in_err-first.ensures.1)

pub returns-in_err-last : goal.returns-in_err-last
returns-in_err-last c =
    let p = err_from_is_err_and c.from_residual-in_err-last.result c.from_residual-in_err-last.ensures.1 in
    rw (p.1, p.2) (wrong_on c.in_ok-first.ensures.1.1 (sym (years_off _ (sym c.in_ok-first.ensures.0) (sym c.in_err-last.ensures.0))) c.in_err-last.ensures.1)

pub returns : goal.returns
unfolding number_bytes
returns c =
    let first = c.copy_from_slice.ensures.after ∙ c.to_le_bytes.ensures ∙ year_bytes _ c.in_ok-first.ensures.1.0 in
    let last = c.copy_from_slice-2.ensures.after ∙ c.to_le_bytes-2.ensures ∙ year_bytes _ c.in_ok-last.ensures.1.0 in
    rw (first, last) (sym (years_read_lem _ (sym c.in_ok-first.ensures.0) (sym c.in_ok-last.ensures.0)), c.in_ok-last.ensures.1.1 ∙ c.in_ok-first.ensures.1.1)
