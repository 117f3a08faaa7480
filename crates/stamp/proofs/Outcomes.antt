-- The call, case by case; and the walk over the image, byte by byte.
use Rattle.std.proofs.Common.{◌≡◌, ℕ, ◌+◌, ◌<◌, ◌≤◌, List, length, get_or, drop, Ok, Err, sym, refl, ap, ◌∙◌, add-one, drop_of_length-le, drop-cons}
use Rattle.table.specs.Verdict.{verdict_of}
use Rattle.table.specs.declared.Refusal.{Refusal}
use Rattle.stamp.specs.Sums.{Sums, grown, next, sums_from, started, sums_of}
use Rattle.stamp.specs.Stamping.{stamping}
use Rattle.stamp.specs.Promises.{Stamps}

module _ (image : List ℕ) where
  pub stamp_refused : (r : Refusal) → verdict_of image ≡ Err r → stamping image ≡ Err r
  unfolding stamping
  stamp_refused r v = rw (v, stamping)

  pub stamp_done : verdict_of image ≡ Ok tt → stamping image ≡ Ok (record { first = (sums_of image).first; second = (sums_of image).second })
  unfolding stamping
  stamp_done v = rw (v, stamping)

  -- ---- The walk: the numbers so far, grown by the bytes from `i` on, are those of the whole image

  abbrev pub Walked : Sums → ℕ → Type 0
  Walked sums i = sums_from sums (drop i image) ≡ sums_of image

  pub walk_starts : Walked started 0
  unfolding sums_of
  walk_starts = refl

  -- grown by the byte at `i`
  pub walk_on : (first second i f s byte : ℕ) → i < length image → byte ≡ get_or image i 0 → f ≡ grown first byte → s ≡ grown second f
      → Walked (record { first = first; second = second }) i → Walked (record { first = f; second = s }) (i + 1)
  unfolding sums_from next
  walk_on first second i f s byte there is grows grows' walked =
      let sums : Sums = record { first = first; second = second } in
      let read : sums_from sums (drop i image) ≡ sums_from (next sums (get_or image i 0)) (drop (i + 1) image) =
      rw (drop-cons image i 0 there, add-one i) refl in
      let f_is : f ≡ grown first (get_or image i 0) = grows ∙ ap (grown first) is in
      let s_is : s ≡ grown second (grown first (get_or image i 0)) = grows' ∙ ap (grown second) f_is in
      let moved : record { first = f; second = s } ≡ next sums (get_or image i 0) = λ j. record { first = f_is j; second = s_is j } in
      ap (λ (x : Sums). sums_from x (drop (i + 1) image)) moved ∙ sym read ∙ walked

  -- no byte is left
  pub walk_ends : (sums : Sums) (i : ℕ) → verdict_of image ≡ Ok tt → length image ≤ i → Walked sums i → Stamps image (Ok (record { first = sums.first; second = sums.second }))
  unfolding sums_from
  walk_ends sums i accepts over walked =
      let none_left : sums_from sums (drop i image) ≡ sums = rw (drop_of_length-le image over) refl in
      let whole : sums ≡ sums_of image = sym none_left ∙ walked in
      record { is = ap (λ (x : Sums). Ok (record { first = x.first; second = x.second })) whole ∙ sym (stamp_done accepts) }
