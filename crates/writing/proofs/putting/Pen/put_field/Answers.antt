-- `writing::putting::Pen::put_field` meets its contract: each arm puts what the field is shown as.
use Prim.Native.Nat.{◌+◌, ◌≤◌}
use mathlib.Core.Path.{sym, ◌∙◌, ap}
use native.Mathlib.Omega.{arith}
use lib.ListN.{length, get_or}
use Rattle.table.specs.Numbers.{most_length}
use Rattle.form.specs.Showing.{leftward, shown_field}
use Rattle.form.specs.declared.Field.{Field}
use Rattle.writing.proofs.Puts.{pens_then, pens_as, symbols_of_part}
use Rattle.writing.proofs.putting.Pen.put_field.Goals as goal

pub returns-in-Number : goal.returns-in-Number
unfolding shown_field
returns-in-Number c =
    let a = c.args in
    let put = rw c.from.ensures at c.put_number.ensures in
    (pens_as (ap (λ (f : Field). shown_field f a.bytes.now a.from) (sym c.in-Number.is)) put.0, omega (arith, put.1))

pub returns-in-Symbol : goal.returns-in-Symbol
unfolding shown_field
returns-in-Symbol c =
    let a = c.args in
    let room : a.from + 1 ≤ length a.bytes.now = rw c.in-Symbol.is at c.requires.2 in
    let part = ap (leftward 2) (symbols_of_part a.bytes.now a.from 1 room) in
    (pens_as (part ∙ ap (λ (f : Field). shown_field f a.bytes.now a.from) (sym c.in-Symbol.is)) c.put_symbols.ensures.0, omega (arith, c.put_symbols.ensures.1))

pub returns-in-Row : goal.returns-in-Row
unfolding shown_field
returns-in-Row c =
    let a = c.args in
    let n = c.in-Row.n in
    let room : a.from + n ≤ length a.bytes.now = rw c.in-Row.is at c.requires.2 in
    let put = rw c.from-in-Row.ensures at c.put_symbols-in-Row.ensures in
    let part = ap (leftward 0) (symbols_of_part a.bytes.now a.from n room) in
    (pens_as (part ∙ ap (λ (f : Field). shown_field f a.bytes.now a.from) (sym c.in-Row.is)) put.0, omega (arith, put.1))

pub returns-in-String : goal.returns-in-String
unfolding shown_field
returns-in-String c =
    let a = c.args in
    let n = get_or a.bytes.now a.from 0 in
    let room = rw c.in-String.is at c.requires.2 in
    let short = rw c.in-String.is at c.requires.3 in
    let put = rw c.from-in-String.ensures at c.put_symbols-in-String.ensures in
    let part = ap (leftward most_length) (symbols_of_part a.bytes.now (a.from + 1) n (omega arith)) in
    (pens_as (part ∙ ap (λ (f : Field). shown_field f a.bytes.now a.from) (sym c.in-String.is)) put.0, omega (arith, put.1))

pub returns-in-Classed : goal.returns-in-Classed
unfolding shown_field
returns-in-Classed c =
    let a = c.args in
    let class = rw c.from-in-Classed.ensures at c.put_number-in-Classed.ensures in (
      pens_as (ap (λ (f : Field). shown_field f a.bytes.now a.from) (sym c.in-Classed.is)) (pens_then class.0 c.put_mark_or.ensures.0),
      omega (arith, class.1, c.put_mark_or.ensures.1),
    )

pub returns-in-Shift : goal.returns-in-Shift
unfolding shown_field
returns-in-Shift c =
    let a = c.args in
    let put = c.put_mark_or-in-Shift.ensures in
    (pens_as (ap (λ (f : Field). shown_field f a.bytes.now a.from) (sym c.in-Shift.is)) put.0, omega (arith, put.1))

pub returns-in-Tail : goal.returns-in-Tail
unfolding shown_field
returns-in-Tail c =
    let a = c.args in
    let put = c.put_tail.ensures in
    (pens_as (ap (λ (f : Field). shown_field f a.bytes.now a.from) (sym c.in-Tail.is)) put.0, put.1)
