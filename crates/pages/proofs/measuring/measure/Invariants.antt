-- `pages::measuring::measure` meets its contract. The loop's invariant: some cells wait, no more than the width, and what is left to do from here with them
-- ends where the whole ends. A sign adds at most 70 to each number of the place.
use Prim.Native.Nat.{ℕ, ◌*◌, ◌≤◌}
use mathlib.Core.List.{List}
use mathlib.Core.Path.{◌≡◌}
use lib.ListN.{length, drop}
use Rattle.pages.specs.Words.{items_of}
use Rattle.pages.specs.Place.{volume_end}
use Rattle.pages.specs.inside.Gather.{Modest, after_rest}
use Rattle.pages.proofs.measuring.measure.Given as goal

abbrev pub invariant-loop-sign : goal.invariant-loop-sign
invariant-loop-sign l =
    (l.so_far.cells ≤ l.sheet.width) × Modest (70 * l.sign-index) l.so_far.place
    × ((cells : List ℕ) × (length cells ≡ l.so_far.cells)
    × (after_rest l.sheet l.so_far.place cells (drop l.sign-index l.signs) ≡ volume_end l.sheet (items_of l.sheet.width l.signs)))
