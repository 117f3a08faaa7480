-- `writing::putting::Pen::put_signs` meets its contract. The loop's invariant: the signs so far are put, each with at most 16 bytes.
use Prim.Native.Nat.{◌+◌, ◌*◌, ◌≤◌}
use Rattle.form.specs.Showing.{shown_numbers}
use Rattle.writing.specs.inside.Penned.{Penned}
use Rattle.writing.proofs.putting.Pen.put_signs.Given as goal

abbrev pub invariant-loop-sign : goal.invariant-loop-sign
invariant-loop-sign l = Penned l.initial.self (shown_numbers l.bytes l.from l.sign-index) l.self × (l.self.at ≤ l.initial.self.at + 16 * l.sign-index)
