-- `writing::showing::put_section` meets its contract. The loop's invariant: the lines of the first k records are put, each of at most 700 bytes.
use Prim.Native.Nat.{◌+◌, ◌*◌, ◌≤◌}
use mathlib.Core.List.{flatten}
use Rattle.table.specs.Search.{list_of}
use Rattle.form.specs.Showing.{shown_record}
use Rattle.writing.specs.inside.Penned.{Penned}
use Rattle.writing.proofs.showing.put_section.Given as goal

abbrev pub invariant-loop-k : goal.invariant-loop-k
invariant-loop-k l =
    Penned l.initial.pen (flatten (list_of (shown_record l.draft l.keyword l.image l.s) l.k)) l.pen × (l.pen.at ≤ l.initial.pen.at + 700 * l.k)
