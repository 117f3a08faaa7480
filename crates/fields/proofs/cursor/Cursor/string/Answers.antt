-- `fields::cursor::Cursor::string` meets its contract: the symbols that were read are a string just where there is one and the word ends, and the record then has
-- their number before them and 0 after them.
use Prim.Native.Nat.{ℕ, ◌-◌}
use mathlib.Core.List.{List, ◌++◌}
use mathlib.Core.Path.{◌≡◌, sym, ◌∙◌, ap}
use native.Mathlib.Omega.{arith}
use lib.ListN.{length, set, take, drop, replicate, length-drop}
use lib.Seq.{length-take-le}
use Rattle.std.proofs.lemmas.Result.{err_from_is_err_and}
use borrow.Rule.Slice.PartMut.{put_mid}
use Rattle.table.specs.Numbers.{padding}
use Rattle.form.specs.Words.{got}
use Rattle.fields.specs.inside.Cursors.{rest_at}
use Rattle.fields.proofs.Fields.{wrong_on, string_empty, string_runs_on, string_read, string_wrong_lem, string_written}
use Rattle.fields.proofs.cursor.Cursor.string.Goals as goal

pub returns-in_err-many : goal.returns-in_err-many
returns-in_err-many c =
    let ten : length c.split_at_mut-length.result.1.now ≡ 10 = omega (arith, c.split_at_mut-length.ensures.back_len) in
    let wrong = rw ten at c.in_err-many.ensures.0 in
    let p = err_from_is_err_and c.from_residual.result c.from_residual.ensures.1 in
    rw (p.1, p.2) (sym (string_wrong_lem _ (sym wrong)), c.in_err-many.ensures.1)

pub returns-then-many-eq0 : goal.returns-then-many-eq0
returns-then-many-eq0 c =
    let ten : length c.split_at_mut-length.result.1.now ≡ 10 = omega (arith, c.split_at_mut-length.ensures.back_len) in
    let read = rw ten at c.in_ok-many.ensures.0 in
    let long = length-take-le c.in_ok-many.many c.symbols.new.bytes (omega arith) in
    rw c.unlike.ensures (wrong_on c.in_ok-many.ensures.1.1 (sym (string_empty _ (sym read) (long ∙ c.if-many-eq0.true))) c.in_ok-many.next.within)

pub returns-in_err-whole_word : goal.returns-in_err-whole_word
returns-in_err-whole_word c =
    let ten : length c.split_at_mut-length.result.1.now ≡ 10 = omega (arith, c.split_at_mut-length.ensures.back_len) in
    let same : length c.symbols.new.bytes ≡ 10 = c.symbols.auto.bytes ∙ ten in
    let read = rw ten at c.in_ok-many.ensures.0 in
    let few = c.in_ok-many.ensures.1.0 in
    let long = length-take-le c.in_ok-many.many c.symbols.new.bytes (omega arith) in
    let p = err_from_is_err_and c.from_residual-in_err-whole_word.result c.from_residual-in_err-whole_word.ensures.1 in
    let joined = c.in_err-whole_word.ensures in
    rw (p.1, p.2, joined.1)
    (wrong_on c.in_ok-many.ensures.1.1 (sym (string_runs_on _ (sym read) (λ e. c.if-many-eq0.false (sym long ∙ e)) joined.0)) c.in_ok-many.next.within)

pub returns : goal.returns
returns c =
    let ten : length c.split_at_mut-length.result.1.now ≡ 10 = omega (arith, c.split_at_mut-length.ensures.back_len) in
    let same : length c.symbols.new.bytes ≡ 10 = c.symbols.auto.bytes ∙ ten in
    let read = rw ten at c.in_ok-many.ensures.0 in
    let few = c.in_ok-many.ensures.1.0 in
    let long = length-take-le c.in_ok-many.many c.symbols.new.bytes (omega arith) in
    let left : length (take (length c.symbols.new.bytes - c.in_ok-many.many) (drop c.in_ok-many.many c.symbols.new.bytes)) ≡ 10 - c.in_ok-many.many =
    let d = length-drop c.in_ok-many.many c.symbols.new.bytes in
    length-take-le (length c.symbols.new.bytes - c.in_ok-many.many) (drop c.in_ok-many.many c.symbols.new.bytes) (omega arith) ∙ omega arith in
    let zeros = c.fill.ensures.after (λ y e. e) ∙ ap (λ (k : ℕ). replicate k padding) left in (
      ap (λ (r : List ℕ). got (set c.split_at_mut-length.result.0.now 0 c.in_ok-many.many ++ put_mid c.in_ok-many.many (length c.symbols.new.bytes - c.in_ok-many.many) c.symbols.new.bytes r) (rest_at c.in_ok-many.next)) zeros
          ∙ ap (λ (r : List ℕ). got r (rest_at c.in_ok-many.next)) (string_written _ c.symbols.new.bytes c.in_ok-many.many c.split_at_mut-length.ensures.front_len same (omega arith))
          ∙ sym (string_read _ (sym read) (λ e. c.if-many-eq0.false (sym long ∙ e)) c.in_ok-whole_word.ensures),
      c.in_ok-many.ensures.1.1,
    )
