-- `tables::modest::ModestDraft::contexts_for` meets its contract: its product and its sum fit, as the limits of a modest draft bound them.
use Prim.Native.Nat.{ℕ, ◌+◌, ◌*◌}
use mathlib.Core.Path.{ap}
use native.Mathlib.Omega.{arith}
use Rattle.form.specs.Reading.{contexts_for}
use Rattle.tables.proofs.Trailer.{transitions_few}
use Rattle.tables.proofs.modest.ModestDraft.contexts_for.Goals as goal

pub overflow_add-result : goal.overflow_add-result
overflow_add-result c = rw (c.from.ensures, c.transitions_for.ensures) (omega (arith, transitions_few c.args.self.draft c.args.self.modest))

pub returns : goal.returns
unfolding contexts_for
returns c =
    let d = c.args.self.draft in
    rw c.from.ensures (ap (λ (n : ℕ). 4 * d.contexts + n) c.transitions_for.ensures)
