-- A walk over a section, record by record: the offset of a record is the one before it and the records' size.
use Prim.Native.Nat.{ℕ, ◌+◌}
use mathlib.Core.Path.{◌≡◌}
use native.Mathlib.Omega.{arith}
use Rattle.table.specs.Sections.{offset}
use Rattle.table.specs.declared.Section.{Section}

module _ (section : Section) where
  pub walk_starts : section.start ≡ offset section 0
  unfolding offset
  walk_starts = omega arith

  pub walk_goes_on : (k at : ℕ) → at ≡ offset section k → at + section.size ≡ offset section (k + 1)
  unfolding offset
  walk_goes_on k at e = omega arith
