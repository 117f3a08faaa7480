-- `tables::making::make` meets its contract: each answer of the walk is a case of the call.
use mathlib.Core.Path.{sym}
use Rattle.tables.proofs.Makes.{walked_good, walked_bad, make_good, ends_by, ends_unlike}
use Rattle.tables.proofs.making.make.Goals as goal

pub make_drafted-requires : goal.make_drafted-requires
make_drafted-requires c = record { comes = sym c.in-Ok.ensures.0 }

pub returns-in-Ok : goal.returns-in-Ok
returns-in-Ok c =
    let a = c.args in
    ends_by (make_good a.text.now a.out.now c.in-Ok.drafted.draft _ (walked_good a.text.now c.in-Ok.drafted.draft (sym c.in-Ok.ensures.0))) c.make_drafted.ensures

pub returns-in-Err : goal.returns-in-Err
returns-in-Err c =
    let a = c.args in
    let u = c.in-Err.field-0 in
    ends_unlike a.text.now a.out.now u.expected u.at c.line_at.result c.column_at.result (walked_bad a.text.now u.expected u.at (sym c.in-Err.ensures.0)) c.line_at.ensures c.column_at.ensures
