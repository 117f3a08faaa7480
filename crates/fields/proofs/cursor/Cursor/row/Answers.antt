-- `fields::cursor::Cursor::row` meets its contract: the symbols that were read are a row just where there are so many and the word ends.
use mathlib.Core.Path.{◌≡◌, sym}
use native.Mathlib.Omega.{arith}
use lib.ListN.{length, take}
use lib.Seq.{take_all, length-take-le}
use Rattle.std.proofs.lemmas.Result.{err_from_is_err_and}
use Rattle.fields.proofs.Fields.{wrong_on, row_short, row_runs_on, row_read, row_wrong}
use Rattle.fields.proofs.cursor.Cursor.row.Goals as goal

pub returns-in_err-many : goal.returns-in_err-many
returns-in_err-many c =
    let p = err_from_is_err_and c.from_residual.result c.from_residual.ensures.1 in
    rw (p.1, p.2) (sym (row_wrong _ _ (sym c.in_err-many.ensures.0)), c.in_err-many.ensures.1)

pub returns-then-many-bytes : goal.returns-then-many-bytes
returns-then-many-bytes c =
    let n = length c.args.bytes.now in
    let same : length c.symbols.new.bytes ≡ n = c.symbols.auto.bytes in
    let long = length-take-le c.in_ok-many.many c.symbols.new.bytes (omega arith) in
    rw (c.unlike.ensures, same)
    (wrong_on c.in_ok-many.ensures.1.1 (sym (row_short n _ (sym c.in_ok-many.ensures.0) (λ e. omega arith))) c.in_ok-many.next.within)

pub returns-in_err-whole_word : goal.returns-in_err-whole_word
returns-in_err-whole_word c =
    let n = length c.args.bytes.now in
    let same : length c.symbols.new.bytes ≡ n = c.symbols.auto.bytes in
    let few = c.in_ok-many.ensures.1.0 in
    let long = length-take-le c.in_ok-many.many c.symbols.new.bytes (omega arith) in
    let all : length (take c.in_ok-many.many c.symbols.new.bytes) ≡ n = omega arith in
    let p = err_from_is_err_and c.from_residual-in_err-whole_word.result c.from_residual-in_err-whole_word.ensures.1 in
    let joined = c.in_err-whole_word.ensures in
    rw (p.1, p.2, joined.1)
    (wrong_on c.in_ok-many.ensures.1.1 (sym (row_runs_on n _ (sym c.in_ok-many.ensures.0) all joined.0)) c.in_ok-many.next.within)

pub returns : goal.returns
returns c =
    let n = length c.args.bytes.now in
    let same : length c.symbols.new.bytes ≡ n = c.symbols.auto.bytes in
    let all : take c.in_ok-many.many c.symbols.new.bytes ≡ c.symbols.new.bytes = take_all c.in_ok-many.many c.symbols.new.bytes (omega arith) in
    let read = rw all at c.in_ok-many.ensures.0 in
    (sym (row_read n _ (sym read) same c.in_ok-whole_word.ensures), c.in_ok-many.ensures.1.1)
