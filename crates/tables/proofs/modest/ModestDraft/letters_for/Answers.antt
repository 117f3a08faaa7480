-- `tables::modest::ModestDraft::letters_for` meets its contract: its product and its sum fit, as the limits of a modest draft bound them.
use Prim.Native.Nat.{ℕ, ◌+◌, ◌*◌}
use mathlib.Core.Path.{ap}
use native.Mathlib.Omega.{arith}
use Rattle.form.specs.Reading.{letters_for}
use Rattle.tables.proofs.Trailer.{entries_few}
use Rattle.tables.proofs.modest.ModestDraft.letters_for.Goals as goal

pub overflow_add-result : goal.overflow_add-result
overflow_add-result c = rw (c.from.ensures, c.entries_for.ensures) (omega (arith, entries_few c.args.self.draft c.args.self.modest))

pub returns : goal.returns
unfolding letters_for
returns c =
    let d = c.args.self.draft in
    rw c.from.ensures (ap (λ (n : ℕ). 3 * d.letters + n) c.entries_for.ensures)
