-- `tables::modest::ModestDraft::decisions_for` meets its contract: its product fits, as the limits of a modest draft bound it.
use mathlib.Core.Path.{refl}
use native.Mathlib.Omega.{arith}
use Rattle.form.specs.Reading.{decisions_for}
use Rattle.tables.proofs.Trailer.{decisions_few}
use Rattle.tables.proofs.modest.ModestDraft.decisions_for.Goals as goal

pub overflow_mul-result : goal.overflow_mul-result
unfolding decisions_for
overflow_mul-result c = rw (c.from.ensures, c.from-2.ensures, c.from-3.ensures) (omega (arith, decisions_few c.args.self.draft c.args.self.modest))

pub returns : goal.returns
unfolding decisions_for
returns c = rw (c.from.ensures, c.from-2.ensures, c.from-3.ensures) refl
