-- `writing::putting::Pen::put_symbols` meets its contract. The loop's invariant: the symbols so far are put, in at most two bytes each.
use Prim.Native.Nat.{◌+◌, ◌*◌, ◌≤◌}
use Rattle.form.specs.Showing.{shown_symbols}
use Rattle.writing.specs.inside.Penned.{Penned}
use Rattle.writing.proofs.putting.Pen.put_symbols.Given as goal

abbrev pub invariant-loop-c : goal.invariant-loop-c
invariant-loop-c l = Penned l.initial.self (shown_symbols l.symbols 0 l.c-index) l.self × (l.self.at ≤ l.initial.self.at + 2 * l.c-index)
