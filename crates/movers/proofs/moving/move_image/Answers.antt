-- `movers::moving::move_image` meets its contract: what it needs is the moved image's length, and it has room for that or is refused.
use Prim.Native.Nat.{ℕ, ◌+◌, ◌-◌, ◌*◌, ◌≤◌, ◌<◌}
use mathlib.Core.List.{List}
use mathlib.Core.Path.{◌≡◌}
use native.Mathlib.Omega.{arith}
use lib.ListN.{length}
use Rattle.table.specs.declared.Sections.{Sections}
use Rattle.dates.specs.Forms.{years_in, image_in}
use Rattle.dates.specs.declared.Form.{Form}
use Rattle.dates.specs.inside.Putting.{Accepts}
use Rattle.dates.proofs.Outcomes.{roomed_done, roomed_refused, ends_refused, ends_done}
use Rattle.dates.proofs.Room.{roomy}
use Rattle.movers.proofs.moving.move_image.Goals as goal

-- what the code computes, from the sections and the years as it reads them
record Needed (image : List ℕ) (form : Form) (size records years : ℕ) : Type 0 where
  there : size * records ≤ length image
  grown : (18 + years) * records < 65536
  is : length image - size * records + (18 + years) * records ≡ length (image_in form image)
  small : length (image_in form image) < 65550

needs : (image : List ℕ) (form : Form) (s : Sections) {size records : ℕ} {years : List ℕ} → Accepts image s → size ≡ s.contractions.size
    → records ≡ s.contractions.records → years ≡ years_in form → Needed image form size records (length years)
needs image form s accepts is_size is_records is_years =
    let room = roomy image form s accepts in
    rw (is_size, is_records, is_years) (record { there = room.records; grown = omega arith; is = room.needed; small = omega arith })

pub overflow_sub-needed : goal.overflow_sub-needed
overflow_sub-needed c =
    let a = c.args in rw (c.from-size.ensures, c.from-records.ensures) (roomy a.image.now a.form a.s c.requires).records

pub overflow_mul-needed-2 : goal.overflow_mul-needed-2
overflow_mul-needed-2 c =
    let a = c.args in
    let n = needs a.image.now a.form a.s c.requires c.from-size.ensures c.from-records.ensures c.years.ensures in
    record { fits = omega arith }

pub overflow_add-needed-2 : goal.overflow_add-needed-2
overflow_add-needed-2 c =
    let a = c.args in
    let n = needs a.image.now a.form a.s c.requires c.from-size.ensures c.from-records.ensures c.years.ensures in
    record { fits = omega arith }

pub returns-then-out-needed : goal.returns-then-out-needed
returns-then-out-needed c =
    let a = c.args in
    let n = needs a.image.now a.form a.s c.requires c.from-size.ensures c.from-records.ensures c.years.ensures in
    rw n.is (ends_refused _ a.out.now _ (roomed_refused a.out.now _ (omega arith)))

pub put_image-requires : goal.put_image-requires
put_image-requires c =
    let a = c.args in
    let n = needs a.image.now a.form a.s c.requires c.from-size.ensures c.from-records.ensures c.years.ensures in
    record { accepts = c.requires; room = omega arith }

pub returns : goal.returns
returns c =
    let a = c.args in
    let n = needs a.image.now a.form a.s c.requires c.from-size.ensures c.from-records.ensures c.years.ensures in
    rw n.is (ends_done _ a.out.now _ _ (roomed_done a.out.now _ (omega arith)) (omega arith) c.put_image.ensures)
