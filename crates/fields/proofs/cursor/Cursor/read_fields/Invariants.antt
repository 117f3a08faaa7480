-- `fields::cursor::Cursor::read_fields` meets its contract. The loop's invariant: the fields from here on, after those whose bytes stand in the record, read as all of
-- them do from `at` on.
use mathlib.Core.List.{[]}
use mathlib.Core.Path.{◌≡◌}
use lib.ListN.{take, drop}
use Rattle.form.specs.Fields.{fields_of, sizes_of, read_fields}
use Rattle.fields.specs.inside.Cursors.{rest_at}
use Rattle.fields.proofs.cursor.Cursor.read_fields.Given as goal

abbrev pub invariant-loop-j : goal.invariant-loop-j
invariant-loop-j l =
    let fs = fields_of l.draft l.keyword in
    (l.next.line.now ≡ l.self.line.now) × (l.n ≡ sizes_of (take l.j fs)) × (read_fields (drop l.j fs) (take l.n l.rec) (rest_at l.next) ≡ read_fields fs [] (rest_at l.self))
