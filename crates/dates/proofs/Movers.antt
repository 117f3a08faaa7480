-- What the movers are worth: the moved image of an accepted one is accepted, in the other form, and has the same table. A table in the old form has no dated
-- record, and neither has one that a move dated. Back.antt has the way back.
use Prim.Native.Nat.{ℕ, ◌+◌, ◌*◌, ◌≤◌}
use mathlib.Core.Bool.{true, false, not}
use mathlib.Core.List.{List, []}
use mathlib.Core.Option.{none}
use mathlib.Core.Path.{◌≡◌, ◌∙◌, ap}
use native.Mathlib.Omega.{arith}
use Rattle.std.specs.Prelude.{Ok}
use Rattle.table.specs.Numbers.{second_mark, dated_mark, earliest_year, latest_year}
use Rattle.table.specs.Sections.{distance, is_dated, entry_size_in, first_year, last_year}
use Rattle.table.specs.Table.{table_of}
use Rattle.table.specs.Verdict.{verdict_of}
use Rattle.table.proofs.Tests.{tells_eq, fails_law}
use Rattle.table.proofs.Search.{first_is_not}
use Rattle.table.proofs.Forms.{tells_dated, dated_size, undated_size, undated_years}
use Rattle.table.proofs.Frame.{undated_section}
use Rattle.dates.specs.Forms.{entries_of, number_bytes, always, moved_distance, dated_image, undated_image, is_always, first_dated_of, first_dated}
use Rattle.dates.proofs.Placed.{placed}
use Rattle.dates.proofs.Parts.{mark_moved, first_distance, second_distance}
use Rattle.dates.proofs.Kept.{undated, dated, none_dated_moved, moved_accepted, moved_table}

-- ---- No record of a table in the old form is dated

pub undated_none : (image : List ℕ) → is_dated image ≡ false → first_dated image ≡ none
unfolding first_dated_of is_always
undated_none image old =
    first_is_not (λ k. not (is_always image (entries_of image) k)) 0 _
    (λ k low high.
    let y = undated_years image (entries_of image) k (undated_section image old) in
    rw ((tells_eq (first_year image (entries_of image) k) earliest_year).1 y.0, (tells_eq (last_year image (entries_of image) k) latest_year).1 y.1))

-- ---- The moved table is accepted, in the other form, and is the same table

module _ (image : List ℕ) (accepts : verdict_of image ≡ Ok tt) where
  pub dated_is_dated : is_dated (dated_image image) ≡ true
  dated_is_dated = (tells_dated (dated_image image)).1 (mark_moved image accepts always dated_mark)

  pub undated_is_undated : is_dated (undated_image image) ≡ false
  undated_is_undated =
      let e = mark_moved image accepts [] second_mark in
      (fails_law (tells_dated (undated_image image))).1 (λ d. omega arith)

  pub dated_accepted : is_dated image ≡ false → verdict_of (dated_image image) ≡ Ok tt
  dated_accepted old = moved_accepted image accepts always dated_mark dated (undated_none image old)

  pub dated_table : is_dated image ≡ false → table_of (dated_image image) ≡ table_of image
  dated_table old = moved_table image accepts always dated_mark dated (undated_none image old)

  pub undated_accepted : first_dated image ≡ none → verdict_of (undated_image image) ≡ Ok tt
  undated_accepted none_dated = moved_accepted image accepts [] second_mark undated none_dated

  pub undated_table : first_dated image ≡ none → table_of (undated_image image) ≡ table_of image
  undated_table none_dated = moved_table image accepts [] second_mark undated none_dated

  -- what was dated by a move has no dated record, so it can be moved back
  pub dated_none : first_dated (dated_image image) ≡ none
  dated_none = none_dated_moved image accepts always dated_mark dated

-- ---- The first two distances, in the paper's words: each record grows by four bytes, and shrinks by them

module _ (image : List ℕ) (accepts : verdict_of image ≡ Ok tt) where
  -- the records, as they are, lie before the trailer
  reached : (size : ℕ) → entry_size_in image ≡ size
      → ((entries_of image).size * (entries_of image).records ≡ size * (entries_of image).records)
      × (size * (entries_of image).records ≤ distance image 1)
      × (distance image 1 ≤ distance image 0)
  reached size e =
      let p = placed image accepts in
      let same : (entries_of image).size * (entries_of image).records ≡ size * (entries_of image).records =
      ap (λ (n : ℕ). n * (entries_of image).records) (p.size ∙ e) in
      let filled = p.filled in
      (same, omega arith, p.second)

  pub dated_distances : is_dated image ≡ false
      → (distance (dated_image image) 0 ≡ distance image 0 + 4 * (entries_of image).records)
      × (distance (dated_image image) 1 ≡ distance image 1 + 4 * (entries_of image).records)
  unfolding moved_distance number_bytes
  dated_distances old =
      let first = first_distance image accepts always dated_mark in
      let second = second_distance image accepts always dated_mark in
      let was = reached 18 (undated_size image old) in
      (first ∙ omega arith, second ∙ omega arith)

  pub undated_distances : is_dated image ≡ true
      → (distance (undated_image image) 0 + 4 * (entries_of image).records ≡ distance image 0)
      × (distance (undated_image image) 1 + 4 * (entries_of image).records ≡ distance image 1)
  unfolding moved_distance
  undated_distances new =
      let first = first_distance image accepts [] second_mark in
      let second = second_distance image accepts [] second_mark in
      let was = reached 22 (dated_size image new) in
      (omega arith, omega arith)
