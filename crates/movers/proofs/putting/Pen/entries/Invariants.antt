-- `movers::putting::Pen::entries` meets its contract. The loop's invariant: the first k records stand in the output, each followed by the years.
use mathlib.Core.List.{flatten}
use mathlib.Core.Path.{◌≡◌}
use Rattle.table.specs.Search.{list_of}
use Rattle.dates.specs.Forms.{moved_entry}
use Rattle.dates.specs.inside.Putting.{Puts}
use Rattle.movers.proofs.putting.Pen.entries.Given as goal

abbrev pub invariant-loop-k : goal.invariant-loop-k
invariant-loop-k l = record {
  same_output : l.self.out.ghost_name ≡ l.initial.self.out.ghost_name;
  put : Puts l.initial.self.out.now l.initial.self.at (flatten (list_of (moved_entry l.years l.image l.fn.entries) l.k)) l.self.out.now l.self.at;
}
