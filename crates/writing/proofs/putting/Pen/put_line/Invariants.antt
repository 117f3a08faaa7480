-- `writing::putting::Pen::put_line` meets its contract. The loop's invariant: the first j fields are put, whose bytes of the record end at `from`; each field is at
-- most 171 bytes.
use Prim.Native.Nat.{◌+◌, ◌*◌, ◌≤◌}
use mathlib.Core.List.{List}
use mathlib.Core.Path.{◌≡◌}
use lib.ListN.{take}
use Rattle.form.specs.Fields.{fields_of, sizes_of}
use Rattle.form.specs.Showing.{shown_fields}
use Rattle.form.specs.declared.Field.{Field}
use Rattle.writing.specs.inside.Penned.{Penned}
use Rattle.writing.proofs.putting.Pen.put_line.Given as goal

abbrev pub invariant-loop-j : goal.invariant-loop-j
invariant-loop-j l =
    let fields : List Field = fields_of l.draft l.keyword in
    (l.from ≡ sizes_of (take l.j fields))
    × Penned l.initial.self (shown_fields (take l.j fields) l.bytes 0) l.self
    × (l.self.at ≤ l.initial.self.at + 171 * l.j)
