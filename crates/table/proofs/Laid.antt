-- Where the frame is right all records lie within the image. The idea: a section's whole records fill the bytes from its own distance to the next one's, and
-- no distance reaches past the image's first byte.
use Prim.Native.Nat.{ℕ, zero, suc, ◌+◌, ◌-◌, ◌*◌, ◌≤◌, ◌<◌}
use mathlib.Core.Bool.{Bool, true, ◌&&◌}
use mathlib.Core.List.{List}
use mathlib.Core.Path.{◌≡◌, refl}
use native.Mathlib.Nat.{mul-le-mul_left, mul-suc}
use native.Mathlib.Numerals.{add-one}
use native.Mathlib.Omega.{arith}
use lib.Dec.{leb}
use lib.ListN.{length}
use Rattle.table.specs.Numbers.{trailer_size}
use Rattle.table.specs.Sections.{
  trailer_at,
  distance,
  section_at,
  last_section,
  sections_in,
  trailer_right,
  distances_right,
  whole_records,
  lengths_right,
  frame_right,
  sections_of,
  offset,
}
use Rattle.table.specs.Laid.{Laid, SectionsLaid}
use Rattle.table.specs.declared.Section.{Section}
use Rattle.table.proofs.Tests.{both, tells_and, tells_eq, tells_within}
use Rattle.table.proofs.Frame.{frame_right_lem, sections_framed}

-- whole records lie within the image where their bytes do
laid : (image : List ℕ) (section : Section) (bytes least most : ℕ) → whole_records section bytes least most ≡ true
    → section.start + bytes ≤ length image → Laid image section section.size least most
unfolding whole_records offset
laid image section bytes least most e ends =
    let h = (tells_and (tells_eq (section.size * section.records) bytes) (tells_within least most section.records)).0 e in
    record {
      size_is = refl;
      number_right = h.1;
      lies =
          λ k l.
          let fit : section.size * suc k ≤ section.size * section.records = mul-le-mul_left section.size l in
          let next : section.size * suc k ≡ section.size * k + section.size = mul-suc section.size k in
          omega arith;
    }

-- from distance `d` to distance `e` before the trailer
ends : (image : List ℕ) (d e : ℕ) → d ≤ trailer_at image → trailer_at image - d + (d - e) ≤ length image
unfolding trailer_at
ends image d e l = omega arith

all_five : (a b c d e : Bool) → (a && b && c && d && e) ≡ true → (a ≡ true) × (b ≡ true) × (c ≡ true) × (d ≡ true) × (e ≡ true)
all_five a b c d e h =
    let four = both (a && b && c && d) e h in
    let three = both (a && b && c) d four.0 in
    let two = both (a && b) c three.0 in
    let one = both a b two.0 in
    (one.0, one.1, two.1, three.1, four.1)

module _ (image : List ℕ) (right : frame_right image ≡ true) where
  -- no distance reaches past the image's first byte
  reach : (k : ℕ) → k < 5 → distance image k ≤ trailer_at image
  unfolding trailer_at
  reach zero l = let e = ((frame_right_lem image).0 right).first_distance in omega arith
  reach (suc k) l =
      let falls : distance image (suc k) ≤ distance image k = rw (← add-one) (((frame_right_lem image).0 right).never_rise k (omega arith)) in
      let before = reach k (omega arith) in
      omega arith

  lengths_right_lem : lengths_right image (sections_in image) ≡ true
  unfolding frame_right
  lengths_right_lem = (both (leb trailer_size (length image) && trailer_right image && distances_right image) (lengths_right image (sections_in image)) right).1

  pub sections_laid : SectionsLaid image (sections_of image)
  unfolding lengths_right sections_in section_at last_section
  sections_laid =
      let s = sections_in image in
      let f = (frame_right_lem image).0 right in
      let each = all_five _ _ _ _ _ lengths_right_lem in
      rw (sections_framed image right)
      (record {
        classes_right = f.classes_right;
        variables_right = f.variables_right;
        alphabet_laid = laid image s.alphabet _ _ _ each.0 (ends image _ _ (reach 0 (omega arith)));
        contractions_laid = laid image s.contractions _ _ _ each.1 (ends image _ _ (reach 1 (omega arith)));
        contexts_laid = laid image s.contexts _ _ _ each.2 (ends image _ _ (reach 2 (omega arith)));
        transitions_laid = laid image s.transitions _ _ _ each.3 (ends image _ _ (reach 3 (omega arith)));
        decisions_laid = laid image s.decisions _ _ _ each.4 (let e = ends image (distance image 4) 0 (reach 4 (omega arith)) in omega arith);
      })
