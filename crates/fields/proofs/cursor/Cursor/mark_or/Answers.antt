-- `fields::cursor::Cursor::mark_or` meets its contract: the mark is a whole word, and where it isn't there the number is read.
use Prim.Native.Nat.{◌≤◌, ◌<◌}
use mathlib.Core.Path.{◌≡◌, sym, ◌∙◌, ap}
use native.Mathlib.Omega.{arith}
use borrow.Author.Tests.{ltb-false}
use lib.ListN.{length, get_or, drop}
use Rattle.std.proofs.lemmas.Result.{err_from_is_err_and}
use mathlib.Core.List.{[], ◌∷◌}
use Rattle.form.specs.Words.{number, mark_or, got}
use Rattle.form.proofs.Words.{whole_ends, whole_joined, mark_here, mark_other, mark_over}
use Rattle.fields.proofs.Fields.{rest_is}
use Rattle.fields.proofs.cursor.Cursor.mark_or.Goals as goal
use Rattle.fields.proofs.cursor.Cursor.mark_or.Goals.{in_default-via-in-Some+else-c-mark, in_default-via-in_default}

pub returns-in_err-whole_word-in-Some : goal.returns-in_err-whole_word-in-Some
returns-in_err-whole_word-in-Some c =
    let a = c.args in
    let at : a.self.at < length a.self.line.now = c.in-Some.ensures.lookup.3.0 in
    let here : get_or a.self.line.now a.self.at 0 ≡ a.mark = grind arith in
    let p = err_from_is_err_and c.from_residual.result c.from_residual.ensures.1 in
    let joined = c.in_err-whole_word-in-Some.ensures in
    let next = rest_is c.to-next.result c.to-next.ensures.place c.to-next.ensures.line in
    rw (p.1, p.2, joined.1, c.to-next.ensures.place) (sym (whole_joined _ _ (rw next at joined.0)) ∙ sym (mark_here a.self.line.now a.self.at at a.mark a.value here), omega arith)

pub returns-in_ok-whole_word-in-Some : goal.returns-in_ok-whole_word-in-Some
returns-in_ok-whole_word-in-Some c =
    let a = c.args in
    let at : a.self.at < length a.self.line.now = c.in-Some.ensures.lookup.3.0 in
    let here : get_or a.self.line.now a.self.at 0 ≡ a.mark = grind arith in
    let next = rest_is c.to-next.result c.to-next.ensures.place c.to-next.ensures.line in
    rw c.from.ensures
    (ap (got (a.value ∷ [])) next ∙ sym (whole_ends _ _ (rw next at c.in_ok-whole_word-in-Some.ensures)) ∙ sym (mark_here a.self.line.now a.self.at at a.mark a.value here), (omega arith, c.to-next.ensures.line))

pub returns-in_default : goal.returns-in_default
returns-in_default c =
    let a = c.args in
    let line = a.self.line.now in
    let plain : mark_or a.mark a.value (drop a.self.at line) ≡ number 0 255 (drop a.self.at line) =
    elim c.in_default.branch [
      | in_default-via-in-Some+else-c-mark w ↦
          let at : a.self.at < length line = w.in-Some.ensures.lookup.3.0 in
          mark_other line a.self.at at a.mark a.value (λ e. w.if-c-mark.false (w.in-Some.ensures.lookup.3.1 0 ∙ e))
      | in_default-via-in_default w ↦
          let over : length line ≤ a.self.at = ltb-false a.self.at (length line) (sym w.in_default.ensures.lookup.0) in
          mark_over line a.self.at over a.mark a.value
    ] in
    (c.number.ensures.0 ∙ sym plain, c.number.ensures.1)
