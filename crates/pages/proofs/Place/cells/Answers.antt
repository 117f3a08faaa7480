-- `pages::Place::cells` meets its contract: it is the definition, and its sums are far from overflow.
use mathlib.Core.Path.{refl}
use Rattle.pages.specs.Place.{after_cells}
use Rattle.pages.proofs.Place.cells.Goals as goal

pub returns : goal.returns
unfolding after_cells
returns c = refl
