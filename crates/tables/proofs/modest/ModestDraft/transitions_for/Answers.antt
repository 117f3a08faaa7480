-- `tables::modest::ModestDraft::transitions_for` meets its contract: its product and its sum fit, as the limits of a modest draft bound them.
use Prim.Native.Nat.{ℕ, ◌+◌, ◌*◌}
use mathlib.Core.Path.{ap}
use native.Mathlib.Omega.{arith}
use Rattle.form.specs.Reading.{transitions_for}
use Rattle.tables.proofs.Trailer.{decisions_few, turns_few}
use Rattle.tables.proofs.modest.ModestDraft.transitions_for.Goals as goal

pub overflow_mul-result : goal.overflow_mul-result
overflow_mul-result c = rw (c.from.ensures, c.from-2.ensures) (omega (arith, turns_few c.args.self.draft c.args.self.modest))

pub overflow_add-result : goal.overflow_add-result
overflow_add-result c = rw (c.from.ensures, c.from-2.ensures, c.decisions_for.ensures) (omega (arith, turns_few c.args.self.draft c.args.self.modest, decisions_few c.args.self.draft c.args.self.modest))

pub returns : goal.returns
unfolding transitions_for
returns c =
    let d = c.args.self.draft in
    rw (c.from.ensures, c.from-2.ensures)
    (ap (λ (n : ℕ). d.classes * d.transitions + n) c.decisions_for.ensures)
