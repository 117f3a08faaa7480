-- `fields::cursor::Cursor::classed` meets its contract: the class is read first, and its byte stands after that of the context.
use Prim.Native.Nat.{ℕ}
use mathlib.Core.List.{List}
use mathlib.Core.Path.{sym, ◌∙◌, ap}
use Rattle.form.specs.Words.{got}
use Rattle.std.proofs.lemmas.Result.{err_from_is_err_and}
use Rattle.fields.specs.inside.Cursors.{rest_at}
use Rattle.fields.proofs.Fields.{wrong_on, two_written, classed_wrong, classed_off, classed_read}
use Rattle.fields.proofs.cursor.Cursor.classed.Goals as goal

pub returns-in_err-class : goal.returns-in_err-class
returns-in_err-class c =
    let p = err_from_is_err_and c.from_residual.result c.from_residual.ensures.1 in
    rw (p.1, p.2) (sym (classed_wrong _ (sym c.in_err-class.ensures.0)), c.in_err-class.ensures.1)

pub returns-in_err-context : goal.returns-in_err-context
returns-in_err-context c =
    let p = err_from_is_err_and c.from_residual-in_err-context.result c.from_residual-in_err-context.ensures.1 in
    let context = rw c.after_gap.ensures.rest at c.in_err-context.ensures.0 in
    rw (p.1, p.2) (wrong_on (c.after_gap.ensures.line ∙ c.in_ok-class.ensures.1.1) (sym (classed_off _ (sym c.in_ok-class.ensures.0) (sym context))) c.in_err-context.ensures.1)

pub returns : goal.returns
returns c =
    let context = rw c.after_gap.ensures.rest at c.in_ok-context.ensures.0 in
    (ap (λ (r : List ℕ). got r (rest_at c.in_ok-context.next)) (two_written c.args.bytes.now _ _ c.requires) ∙ sym (classed_read _ (sym c.in_ok-class.ensures.0) (sym context)), c.in_ok-context.ensures.1.1 ∙ c.after_gap.ensures.line ∙ c.in_ok-class.ensures.1.1)
