-- `fields::cursor::Cursor::tail` meets its contract: the signs after the colon, and in a dated table the years after them.
use Prim.Native.Nat.{ℕ, ◌+◌}
use mathlib.Core.List.{List, []}
use mathlib.Core.Path.{◌≡◌, sym, ◌∙◌}
use native.Mathlib.Omega.{arith}
use lib.ListN.{drop}
use lib.Seq.{drop-drop}
use Rattle.std.proofs.Common.{append-nil}
use Rattle.std.proofs.lemmas.Result.{err_from_is_err_and}
use Rattle.form.specs.Numbers.{colon}
use Rattle.fields.specs.declared.cursor.Cursor.{Cursor}
use Rattle.fields.specs.inside.Cursors.{rest_at}
use Rattle.fields.proofs.Fields.{rest_is, wrong_on, advance_on, no_bytes, word_fits, tail_least, tail_none, tail_off, tail_undated, tail_joined}
use Rattle.fields.proofs.cursor.Cursor.tail.Goals as goal

past_colon : (next : Cursor) (at : ℕ) {line : List ℕ} → next.at ≡ at + 1 → next.line.now ≡ line → rest_at next ≡ drop 1 (drop at line)
past_colon next at {line} place same = rest_is next place same ∙ sym (drop-drop 1 at line)

pub returns-then-not-is_word : goal.returns-then-not-is_word
returns-then-not-is_word c = rw c.unlike.ensures (sym (tail_none c.args.dated _ (sym c.is_word.ensures ∙ c.if-not-is_word.true)), c.args.self.within)

pub split_at_mut-written-requires : goal.split_at_mut-written-requires
split_at_mut-written-requires c = let h = tail_least c.args.dated in omega arith

pub to-requires : goal.to-requires
to-requires c = word_fits colon c.args.self.line.now c.args.self.at c.args.self.within (sym c.is_word.ensures ∙ c.if-not-is_word.false)

pub returns-in_err-next : goal.returns-in_err-next
returns-in_err-next c =
    let a = c.args in
    let is = sym c.is_word.ensures ∙ c.if-not-is_word.false in
    let wrong = sym (rw (past_colon c.to.result a.self.at c.to.ensures.place c.to.ensures.line) at c.in_err-next.ensures.0) in
    let p = err_from_is_err_and c.from_residual.result c.from_residual.ensures.1 in
    rw (p.1, p.2) (wrong_on c.to.ensures.line (sym (tail_off _ is a.dated wrong)) c.in_err-next.ensures.1)

pub returns-then-dated : goal.returns-then-dated
returns-then-dated c =
    let a = c.args in
    let is = sym c.is_word.ensures ∙ c.if-not-is_word.false in
    let read = sym (rw (past_colon c.to.result a.self.at c.to.ensures.place c.to.ensures.line) at c.in_ok-next.ensures.0) in
    rw c.if-dated.true
    (advance_on (c.in_ok-next.ensures.1 ∙ c.to.ensures.line) _ c.years.result (tail_joined _ c.in_ok-next.next.line.now _ c.years.new.bytes c.years.result is read c.years.ensures.0) c.years.ensures.1)

pub returns-else-dated : goal.returns-else-dated
returns-else-dated c =
    let a = c.args in
    let is = sym c.is_word.ensures ∙ c.if-not-is_word.false in
    let read = sym (rw (past_colon c.to.result a.self.at c.to.ensures.place c.to.ensures.line) at c.in_ok-next.ensures.0) in
    let four = rw c.if-dated.false at c.requires in
    let none : c.split_at_mut-written.result.1.now ≡ [] = no_bytes _ (omega (arith, c.split_at_mut-written.ensures.back_len)) in
    rw (c.if-dated.false, none, append-nil) (sym (tail_undated _ is read), c.in_ok-next.ensures.1 ∙ c.to.ensures.line)
