-- What a mover needs to know of an accepted image, so that it goes within what it was lent: its parts lie within the image, the moved image fits the output,
-- and its distances fit two bytes. And what the four parts that it writes make together.
use Prim.Native.Nat.{ℕ, ◌+◌, ◌-◌, ◌*◌, ◌≤◌, ◌<◌}
use mathlib.Core.List.{List, ◌++◌}
use mathlib.Core.Path.{◌≡◌, sym, ◌∙◌, ap, subst}
use native.Mathlib.Nat.{mul-le-mul}
use native.Mathlib.Omega.{arith}
use lib.ListN.{length, take, drop}
use lib.Seq.{sets, length-take-le}
use Rattle.table.specs.Numbers.{trailer_size, entry_size, most_entries}
use Rattle.table.specs.Sections.{bytes_from, distance, sections_of}
use Rattle.table.specs.inside.Wrote.{Wrote}
use Rattle.table.specs.declared.Sections.{Sections}
use Rattle.table.proofs.Largest.{accepted_fits}
use Rattle.dates.specs.declared.Form.{Form}
use Rattle.dates.specs.declared.Form.TheVariants.{Undated, Dated}
use Rattle.dates.specs.Forms.{number_bytes, years_in, entries_of, moved_entries, moved_distance, moved_trailer, moved_image, mark_in, image_in}
use Rattle.dates.specs.inside.Putting.{Puts, trailer_bytes, Accepts}
use Rattle.dates.proofs.Puts.{puts_then, puts_length}
use Rattle.dates.proofs.Placed.{placed, laid_out}
use Rattle.dates.proofs.Parts.{Lie, lie, entries_length, bytes_long, moved_length, first_moved, second_moved}

few_years : (form : Form) → length (years_in form) ≤ 4
unfolding number_bytes
few_years Undated = omega arith
few_years Dated = omega arith

-- the part from the contexts to the trailer, as it is handed over
abbrev pub others : List ℕ → Sections → List ℕ
others image s = take (length image - 14 - s.contexts.start) (drop s.contexts.start image)

pub record Roomy (image : List ℕ) (form : Form) (s : Sections) : Type 0 where
  pub trailer : trailer_size ≤ length image
  pub alphabet : s.contractions.start ≤ length image
  pub records : s.contractions.size * s.contractions.records ≤ length image
  pub entries_lie : Lie image s.contractions
  pub after_entries : s.contexts.start ≤ length image - trailer_size
  pub others_are : others image s ≡ bytes_from image (sections_of image).contexts.start (distance image 2)
  pub others_long : length (others image s) ≡ distance image 2
  pub long :
      length (image_in form image)
      ≡ s.contractions.start + (entry_size + length (years_in form)) * s.contractions.records + distance image 2 + trailer_size
  pub needed :
      length image - s.contractions.size * s.contractions.records + (entry_size + length (years_in form)) * s.contractions.records
      ≡ length (image_in form image)
  pub small : s.contractions.start + (entry_size + length (years_in form)) * s.contractions.records + distance image 2 < 65536
  pub first : moved_distance (years_in form) image 0 ≡ s.contractions.start + (entry_size + length (years_in form)) * s.contractions.records + distance image 2
  pub second : moved_distance (years_in form) image 1 ≡ (entry_size + length (years_in form)) * s.contractions.records + distance image 2

pub roomy : (image : List ℕ) (form : Form) (s : Sections) → Accepts image s → Roomy image form s
unfolding bytes_from
roomy image form s accepts = subst (Roomy image form) (sym accepts.located) here
  where
    years : List ℕ
    years = years_in form

    mark : ℕ
    mark = mark_in form

    here : Roomy image form (sections_of image)
    here =
        let few = few_years form in
        let a = accepts.accepted in
        let most = accepted_fits image a in
        let whole = (laid_out image a).whole in
        let next = (laid_out image a).after_entries in
        let n : length image - 14 - (sections_of image).contexts.start ≡ distance image 2 = omega arith in
        let wide : entry_size + length years ≤ 22 = omega arith in
        let grown : (entry_size + length years) * (entries_of image).records ≤ 22 * most_entries = mul-le-mul wide (placed image a).few in
        let is : others image (sections_of image) ≡ bytes_from image (sections_of image).contexts.start (distance image 2) =
        ap (λ (i : ℕ). take i (drop (sections_of image).contexts.start image)) n in
        let long = moved_length image a years mark in
        record {
          trailer = omega arith;
          alphabet = omega arith;
          records = omega arith;
          entries_lie = lie image a years mark;
          after_entries = omega arith;
          others_are = is;
          others_long = ap length is ∙ bytes_long image (sections_of image).contexts.start (distance image 2) (omega arith);
          long = long;
          needed = omega arith;
          small = omega arith;
          first = first_moved image a years mark;
          second = second_moved image a years mark;
        }

-- four parts, each where the one before it ends
module _ (image : List ℕ) (form : Form) (s : Sections) (accepts : Accepts image s) {before a b : List ℕ} {p q : ℕ}
    (first : Puts before 0 (take s.contractions.start image) a p) (second : Puts a p (moved_entries (years_in form) image s.contractions) b q) where
  -- where the second ends
  pub entries_end : (q ≡ s.contractions.start + (entry_size + length (years_in form)) * s.contractions.records) × (length b ≡ length before)
  entries_end =
      let room = roomy image form s accepts in
      let l₀ = length-take-le s.contractions.start image room.alphabet in
      let l₁ = entries_length (years_in form) image s.contractions room.entries_lie in
      let to = first.moves in
      let on = second.moves in
      (omega arith, puts_length second ∙ puts_length first)

  module _ {c : List ℕ} {r : ℕ} (third : Puts b q (others image s) c r) where
    -- where the third ends
    pub others_end :
        (r ≡ s.contractions.start + (entry_size + length (years_in form)) * s.contractions.records + distance image 2) × (length c ≡ length before)
    others_end =
        let l₂ = (roomy image form s accepts).others_long in
        let to = entries_end in
        let on = third.moves in
        (omega arith, puts_length third ∙ to.1)

    pub image_put : {d : List ℕ} {end : ℕ} → Puts c r (trailer_bytes r s.contractions.start image (mark_in form)) d end → Wrote before 0 (image_in form image) d
    unfolding moved_image moved_trailer trailer_bytes
    image_put {d} fourth =
        let room = roomy image form s accepts in
        let alphabet : List ℕ = take s.contractions.start image in
        let entries : List ℕ = moved_entries (years_in form) image s.contractions in
        let whole = puts_then (puts_then (puts_then first second) third) fourth in
        let to = others_end.0 in
        let m₀ : r ≡ moved_distance (years_in form) image 0 = let h = room.first in omega arith in
        let m₁ : r - s.contractions.start ≡ moved_distance (years_in form) image 1 = let h = room.second in omega arith in
        let at = accepts.located in
        record {
          leaves =
              whole.writes.leaves
              ∙ ap (λ (t : List ℕ). sets before 0 (alphabet ++ entries ++ others image s ++ t)) (rw (m₁, m₀))
              ∙ ap (λ (o : List ℕ). sets before 0 (alphabet ++ entries ++ o ++ moved_trailer (years_in form) (mark_in form) image)) room.others_are
              ∙ ap
              (λ (v : Sections).
              sets before 0
              (take v.contractions.start image
              ++ moved_entries (years_in form) image v.contractions
              ++ bytes_from image (sections_of image).contexts.start (distance image 2)
              ++ moved_trailer (years_in form) (mark_in form) image))
              at;
        }
