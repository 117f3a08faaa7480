-- `fields::cursor::Cursor::read_field` meets its contract: each arm reads its field.
use mathlib.Core.Path.{◌≡◌, sym, ◌∙◌}
use borrow.Author.Rules.{rules}
use lib.ListN.{get_or}
use Rattle.form.specs.Fields.{read_field}
use Rattle.fields.proofs.Fields.{row_field, byte_field}
use Rattle.fields.proofs.cursor.Cursor.read_field.Goals as goal

pub returns-in-Number : goal.returns-in-Number
unfolding read_field
returns-in-Number c =
    let a = c.args in
    let is = byte_field _ a.self.line.now _ _ c.number.result c.one_byte.result c.one_byte.ensures c.number.ensures.1 in
    rw (c.in-Number.is, ← c.from.ensures, ← c.from-in-Number.ensures) (is.0 ∙ c.number.ensures.0, is.1)

pub returns-in-Symbol : goal.returns-in-Symbol
returns-in-Symbol c =
    let read = rw c.requires.0 at c.row.ensures in
    (read.0 ∙ sym (row_field c.args.field c.args.sofar.now _ c.in-Symbol.is), read.1)

pub returns-in-String : goal.returns-in-String
unfolding read_field
returns-in-String c = rw c.in-String.is c.string.ensures

pub returns-in-Classed : goal.returns-in-Classed
unfolding read_field
returns-in-Classed c = rw c.in-Classed.is c.classed.ensures

pub returns-in-Shift : goal.returns-in-Shift
unfolding read_field
returns-in-Shift c =
    let a = c.args in
    let is = byte_field _ a.self.line.now _ _ c.mark_or.result c.one_byte-in-Shift.result c.one_byte-in-Shift.ensures c.mark_or.ensures.1 in
    let said : c.unwrap_or-length.result ≡ get_or a.sofar.now 0 0 = search rules in
    rw (c.in-Shift.is, ← said) (is.0 ∙ c.mark_or.ensures.0, is.1)

pub returns-in-Tail : goal.returns-in-Tail
unfolding read_field
returns-in-Tail c = rw c.in-Tail.is c.tail.ensures
