-- `fields::cursor::Cursor::digits` meets its contract. The loop's invariant: the digits from here on, after the number so far, read as all of them do from `at` on, and
-- the number so far is at most `most`.
use Prim.Native.Nat.{◌≤◌}
use mathlib.Core.List.{[], ◌∷◌}
use mathlib.Core.Path.{sym, ◌∙◌, ap}
use native.Mathlib.Omega.{arith}
use lib.ListN.{length}
use Rattle.form.specs.Words.{is_digit, with_digit, got}
use Rattle.form.proofs.Words.{past, digits_over, digits_stop, digits_more, digits_much}
use Rattle.fields.proofs.Fields.{rest_is}
use Rattle.fields.proofs.cursor.Cursor.digits.Goals as goal

pub returns-then-not-is_ascii_digit : goal.returns-then-not-is_ascii_digit
unfolding is_digit
returns-then-not-is_ascii_digit c =
    let a = c.args in
    let l = c.loop-i in
    let stops = sym c.is_ascii_digit.ensures.value ∙ c.if-not-is_ascii_digit.true in
    (ap (got (l.n ∷ [])) (rest_is c.to.result c.to.ensures.place c.to.ensures.line) ∙ sym (digits_stop a.self.line.now l.i (omega arith) a.least a.most l.n stops) ∙ l.invariant.1, (l.invariant.0, c.to.ensures.line))

pub returns-then-from-m : goal.returns-then-from-m
unfolding is_digit with_digit
returns-then-from-m c =
    let a = c.args in
    let l = c.loop-i in
    let digit = sym c.is_ascii_digit.ensures.value ∙ c.if-not-is_ascii_digit.false in
    let much = rw (c.from.ensures, c.from-in-loop-i.ensures, c.from-in-loop-i-2.ensures) at c.if-from-m.true in
    rw (c.unlike.ensures, c.to-then-from-m.ensures.place) (sym (digits_much a.self.line.now l.i (omega arith) a.least a.most l.n digit much) ∙ l.invariant.1, omega arith)

pub loop-i-preserved : goal.loop-i-preserved
unfolding is_digit with_digit
loop-i-preserved c =
    let a = c.args in
    let l = c.loop-i in
    let digit = sym c.is_ascii_digit.ensures.value ∙ c.if-not-is_ascii_digit.false in
    let fits = rw (c.from.ensures, c.from-in-loop-i.ensures, c.from-in-loop-i-2.ensures) at c.if-from-m.false in
    rw (c.from.ensures, c.from-in-loop-i.ensures)
    (fits, sym (digits_more a.self.line.now l.i (omega arith) a.least a.most l.n digit fits) ∙ l.invariant.1)

pub returns : goal.returns
returns c =
    let a = c.args in
    let l = c.loop-i in
    let over : length a.self.line.now ≤ l.i = omega arith in
    (ap (got (l.n ∷ [])) (rest_is c.to-2.result c.to-2.ensures.place c.to-2.ensures.line ∙ sym (past a.self.line.now l.i over)) ∙ sym (digits_over a.self.line.now l.i over a.least a.most l.n) ∙ l.invariant.1, (l.invariant.0, c.to-2.ensures.line))
