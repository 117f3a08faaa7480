-- `fields::cursor::Cursor::symbols` meets its contract. The loop's invariant: the symbols from here on, after those that were read, read as all of them do from `at` on.
use Prim.Native.Nat.{ℕ, ◌+◌, ◌-◌, ◌<◌}
use mathlib.Core.List.{List}
use mathlib.Core.Path.{◌≡◌, sym, ◌∙◌, ap}
use native.Mathlib.Numerals.{add-one}
use native.Mathlib.Omega.{arith}
use lib.ListN.{length, set, take}
use lib.Seq.{take-set-le, take-suc-set}
use Rattle.std.proofs.lemmas.Result.{err_from_is_err_and}
use Rattle.form.specs.Words.{got}
use Rattle.form.proofs.Words.{symbols_full, symbols_end, symbols_more, symbols_wrong}
use Rattle.fields.specs.inside.Cursors.{rest_at}
use Rattle.fields.proofs.Fields.{rest_is, wrong_on}
use Rattle.fields.proofs.cursor.Cursor.symbols.Goals as goal

pub returns-then-ends_word : goal.returns-then-ends_word
returns-then-ends_word c =
    let l = c.loop-many in
    let ends = sym c.ends_word.ensures ∙ c.if-ends_word.true in (
      ap (λ (bytes : List ℕ). got bytes (rest_at l.next)) (take-set-le l.many l.bytes l.many _ (omega arith)) ∙ sym (symbols_end _ _ _ ends) ∙ l.invariant.1,
      (omega arith, l.invariant.0),
    )

pub returns-in_err-c : goal.returns-in_err-c
returns-in_err-c c =
    let l = c.loop-many in
    let left = length c.args.bytes.now in
    let more = sym c.ends_word.ensures ∙ c.if-ends_word.false in
    let p = err_from_is_err_and c.from_residual.result c.from_residual.ensures.1 in
    rw (p.1, p.2)
    (wrong_on l.invariant.0 (sym (symbols_wrong (left - l.many) (left - (l.many + 1)) _ _ (omega arith) more c.in_err-c.ensures.0) ∙ l.invariant.1) c.in_err-c.ensures.1)

pub loop-many-preserved : goal.loop-many-preserved
loop-many-preserved c =
    let l = c.loop-many in
    let left = length c.args.bytes.now in
    let more = sym c.ends_word.ensures ∙ c.if-ends_word.false in
    let room : l.many < length l.bytes = omega arith in
    let next = rest_is c.to-next.result c.to-next.ensures.place c.to-next.ensures.line in (
      c.to-next.ensures.line ∙ l.invariant.0,
      rw (ap (λ (k : ℕ). take k (set l.bytes l.many c.in_ok-c.c)) (add-one l.many), take-suc-set l.bytes l.many c.in_ok-c.c room, next)
          (sym (symbols_more (left - l.many) (left - (l.many + 1)) _ _ (omega arith) more c.in_ok-c.ensures.0) ∙ l.invariant.1),
    )

pub returns : goal.returns
returns c =
    let l = c.loop-many in
    let left = length c.args.bytes.now in
    let all : l.many ≡ length l.bytes = omega arith in
    (rw (← all) (sym (symbols_full (left - l.many) _ _ (omega arith)) ∙ l.invariant.1), (omega arith, l.invariant.0))
