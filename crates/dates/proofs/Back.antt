-- A move and the move back: the image again, byte for byte. Every byte that a move leaves out the other puts there: the years, since those of a record that is
-- always in force are the bytes 0 0 255 255, and the distances, since a number has but one pair of bytes.
use Prim.Native.Nat.{ℕ, zero, suc, ◌+◌, ◌-◌, ◌*◌, ◌/◌, ◌%◌, ◌<◌}
use mathlib.Core.Bool.{true, false}
use mathlib.Core.List.{List, []}
use mathlib.Core.Logic.{◌⊎◌, inl, inr}
use mathlib.Core.Option.{none}
use mathlib.Core.Path.{◌≡◌, sym, ◌∙◌, ap}
use native.Mathlib.Nat.{mod-lt, div-add-mod, div-lt_iff_lt-mul, mul_comm}
use native.Mathlib.Decide.{dec_lt}
use native.Mathlib.Omega.{arith}
use lib.ListN.{length, get_or, get_or-eq_default}
use lib.Seq.{ext_get_or}
use Rattle.std.specs.Prelude.{Ok}
use Rattle.table.specs.Lists.{All}
use Rattle.table.specs.Numbers.{trailer_size, second_mark_byte, second_mark, dated_mark, entry_size, dated_entry_size, first_year_byte, last_year_byte, earliest_year, latest_year}
use Rattle.table.specs.Sections.{byte_at, number_at, trailer_at, distance, is_dated, offset, record_byte, first_year, last_year}
use Rattle.table.specs.Verdict.{verdict_of}
use Rattle.table.proofs.Tests.{clash}
use Rattle.table.proofs.Lists.{all_at}
use Rattle.table.proofs.Forms.{tells_dated, dated_years, undated_size, dated_size, form_marked}
use Rattle.table.proofs.Refusals.{accepted}
use Rattle.dates.specs.Forms.{entries_of, number_bytes, always, moved_image, dated_image, undated_image, first_dated}
use Rattle.dates.proofs.Placed.{placed, laid_out}
use Rattle.dates.proofs.Parts.{moved_length, first_moved, second_moved, alphabet_byte, entry_byte, year_byte, later_byte, trailer_kept, mark_moved, first_distance, second_distance, later_distance, low_bytes}
use Rattle.dates.proofs.Kept.{Form, undated, dated, years_always, start_moved, records_moved, bytes_moved, moved_accepted}
use Rattle.dates.proofs.Movers.{undated_none}

-- the numbers of a slice of bytes
abbrev pub Bytes : List ℕ → Type 0
Bytes image = All (λ (b : ℕ). b < 256) image

byte_below : (image : List ℕ) → Bytes image → (i : ℕ) → byte_at image i < 256
unfolding byte_at
byte_below image bytes i = go (dec_lt i (length image))
  where
    go : Dec (i < length image) → get_or image i 0 < 256
    go (yes l) = all_at bytes i 0 l
    go (no d) = rw (get_or-eq_default image 0 {n = i} (omega arith)) (omega arith)

-- the image is of this form, and so are its records
record Own (image years : List ℕ) (mark : ℕ) : Type 0 where
  size_is : (entries_of image).size ≡ entry_size + length years
  mark_is : byte_at image (trailer_at image + second_mark_byte) ≡ mark
  years_are : (k j : ℕ) → k < (entries_of image).records → j < length years → record_byte image (entries_of image) k (entry_size + j) ≡ get_or years j 0

module _ (image : List ℕ) (accepts : verdict_of image ≡ Ok tt) (none_dated : first_dated image ≡ none) (bytes : Bytes image)
    (years : List ℕ) (mark : ℕ) (form : Form years mark) (own_years : List ℕ) (own_mark : ℕ) (own : Own image own_years own_mark) where
  abbrev moved : List ℕ
  moved = moved_image years mark image

  moved_right : verdict_of moved ≡ Ok tt
  moved_right = moved_accepted image accepts years mark form none_dated

  abbrev again : List ℕ
  again = moved_image own_years own_mark moved

  abbrev start : ℕ
  start = (entries_of image).start

  abbrev size : ℕ
  size = entry_size + length own_years

  abbrev records : ℕ
  records = (entries_of image).records

  third : distance moved 2 ≡ distance image 2
  third = later_distance image accepts years mark 2 (omega arith) (omega arith)

  grown : (entry_size + length own_years) * (entries_of moved).records ≡ size * records
  grown = ap (λ (n : ℕ). size * n) (records_moved image accepts years mark form)

  was : (entries_of image).size * records ≡ size * records
  was = ap (λ (n : ℕ). n * records) own.size_is

  whole : start + size * records + distance image 2 + trailer_size ≡ length image
  whole = let h = (laid_out image accepts).whole in let e = was in omega arith

  as_long : length again ≡ length image
  as_long =
      let h = moved_length moved moved_right own_years own_mark in
      let a = start_moved image accepts years mark form in
      let b = grown in
      let c = third in
      let d = whole in
      omega arith

  trailer_is : trailer_at again ≡ trailer_at image
  unfolding trailer_at
  trailer_is = ap (λ (n : ℕ). n - trailer_size) as_long

  trailer_at_lem : trailer_at image ≡ start + size * records + distance image 2
  unfolding trailer_at
  trailer_at_lem = let h = whole in omega arith

  -- ---- Part by part

  alphabet_back : (i : ℕ) → i < start → byte_at again i ≡ byte_at image i
  alphabet_back i l =
      let e = start_moved image accepts years mark form in
      alphabet_byte moved moved_right own_years own_mark i (omega arith) ∙ alphabet_byte image accepts years mark i l

  entry_back : (k j : ℕ) → k < records → j < size → byte_at again (start + size * k + j) ≡ byte_at image (start + size * k + j)
  unfolding record_byte offset
  entry_back k j l u = go (dec_lt j entry_size)
    where
      at : start + size * k ≡ (entries_of moved).start + size * k
      at = ap (λ (n : ℕ). n + size * k) (sym (start_moved image accepts years mark form))

      there : k < (entries_of moved).records
      there = rw (records_moved image accepts years mark form) l

      stood : (i : ℕ) → record_byte image (entries_of image) k i ≡ byte_at image (start + size * k + i)
      stood i = ap (λ (n : ℕ). byte_at image (start + n * k + i)) own.size_is

      go : Dec (j < entry_size) → byte_at again (start + size * k + j) ≡ byte_at image (start + size * k + j)
      go (yes v) =
          ap (λ (n : ℕ). byte_at again (n + j)) at
          ∙ entry_byte moved moved_right own_years own_mark k j there v
          ∙ bytes_moved image accepts years mark form k j l v
          ∙ stood j
      go (no d) =
          let e : entry_size + (j - entry_size) ≡ j = omega arith in
          ap (λ (n : ℕ). byte_at again (n + j)) at
          ∙ ap (λ (n : ℕ). byte_at again ((entries_of moved).start + size * k + n)) (sym e)
          ∙ year_byte moved moved_right own_years own_mark k (j - entry_size) there (omega arith)
          ∙ sym (own.years_are k (j - entry_size) l (omega arith))
          ∙ stood (entry_size + (j - entry_size))
          ∙ ap (λ (n : ℕ). byte_at image (start + size * k + n)) e

  entries_back : (i : ℕ) → i < size * records → byte_at again (start + i) ≡ byte_at image (start + i)
  entries_back i l =
      let filled : 0 < size = omega arith in
      let k : ℕ = i / size in
      let j : ℕ = i % size in
      let parts : size * (i / size) + i % size ≡ i = div-add-mod i size in
      let swapped = mul_comm size records in
      let there : i / size < records = (div-lt_iff_lt-mul filled).1 (omega arith) in
      let at : start + i ≡ start + size * (i / size) + i % size = omega arith in
      ap (byte_at again) at ∙ entry_back (i / size) (i % size) there (mod-lt i filled) ∙ ap (byte_at image) (sym at)

  later_back : (i : ℕ) → i < distance image 2 → byte_at again (start + size * records + i) ≡ byte_at image (start + size * records + i)
  later_back i l =
      let e = third in
      let t₁ = trailer_is in
      let t₂ = trailer_at_lem in
      ap (byte_at again) (omega arith)
      ∙ later_byte moved moved_right own_years own_mark (distance moved 2) i (omega arith) (omega arith)
      ∙ ap (λ (n : ℕ). byte_at moved (trailer_at moved - n + i)) e
      ∙ later_byte image accepts years mark (distance image 2) i (omega arith) l
      ∙ ap (byte_at image) (omega arith)

  -- ---- The trailer

  first_back : distance again 0 ≡ distance image 0
  first_back =
      let a = first_distance moved moved_right own_years own_mark ∙ first_moved moved moved_right own_years own_mark in
      let b = start_moved image accepts years mark form in
      let c = grown in
      let d = third in
      let e = trailer_at_lem in
      let f = (placed image accepts).first in
      omega arith

  second_back : distance again 1 ≡ distance image 1
  second_back =
      let a = second_distance moved moved_right own_years own_mark ∙ second_moved moved moved_right own_years own_mark in
      let c = grown in
      let d = third in
      let e = was in
      let filled = (placed image accepts).filled in
      let falls = (placed image accepts).third in
      omega arith

  -- a number has one pair of bytes
  pair_back : (at : ℕ) → byte_at again (trailer_at again + at) < 256 → number_at again (trailer_at again + at) ≡ number_at image (trailer_at image + at)
      → (byte_at again (trailer_at again + at) ≡ byte_at image (trailer_at image + at))
      × (byte_at again (trailer_at again + at + 1) ≡ byte_at image (trailer_at image + at + 1))
  unfolding number_at
  pair_back at low e = let below = byte_below image bytes (trailer_at image + at) in (omega arith, omega arith)

  trailer_back : (i : ℕ) → i < trailer_size → byte_at again (trailer_at again + i) ≡ byte_at image (trailer_at image + i)
  unfolding distance
  trailer_back zero l = (pair_back 0 (low_bytes moved moved_right own_years own_mark).0 first_back).0
  trailer_back (suc zero) l =
      ap (byte_at again) (omega arith) ∙ (pair_back 0 (low_bytes moved moved_right own_years own_mark).0 first_back).1 ∙ ap (byte_at image) (omega arith)
  trailer_back (suc (suc zero)) l = (pair_back 2 (low_bytes moved moved_right own_years own_mark).1 second_back).0
  trailer_back (suc (suc (suc zero))) l =
      ap (byte_at again) (omega arith) ∙ (pair_back 2 (low_bytes moved moved_right own_years own_mark).1 second_back).1 ∙ ap (byte_at image) (omega arith)
  trailer_back (suc (suc (suc (suc i)))) l = go (dec_lt (suc (suc (suc (suc i)))) second_mark_byte)
    where
      n : ℕ
      n = suc (suc (suc (suc i)))

      go : Dec (n < second_mark_byte) → byte_at again (trailer_at again + n) ≡ byte_at image (trailer_at image + n)
      go (yes u) =
          trailer_kept moved moved_right own_years own_mark n (omega arith) (omega arith) ∙ trailer_kept image accepts years mark n (omega arith) (omega arith)
      go (no d) =
          let e : n ≡ second_mark_byte = omega arith in
          ap (λ (j : ℕ). byte_at again (trailer_at again + j)) e
          ∙ mark_moved moved moved_right own_years own_mark
          ∙ sym own.mark_is
          ∙ ap (λ (j : ℕ). byte_at image (trailer_at image + j)) (sym e)

  -- ---- The whole

  byte_back : (i : ℕ) → i < length again → byte_at again i ≡ byte_at image i
  byte_back i l = go (dec_lt i start) (dec_lt i (start + size * records)) (dec_lt i (trailer_at image))
    where
      at : trailer_at image ≡ start + size * records + distance image 2
      at = trailer_at_lem

      go : Dec (i < start) → Dec (i < start + size * records) → Dec (i < trailer_at image) → byte_at again i ≡ byte_at image i
      go (yes a) b c = alphabet_back i a
      go (no a) (yes b) c =
          let e : start + (i - start) ≡ i = omega arith in
          ap (byte_at again) (sym e) ∙ entries_back (i - start) (omega arith) ∙ ap (byte_at image) e
      go (no a) (no b) (yes c) =
          let e : start + size * records + (i - (start + size * records)) ≡ i = let h = at in omega arith in
          ap (byte_at again) (sym e) ∙ later_back (i - (start + size * records)) (let h = at in omega arith) ∙ ap (byte_at image) e
      go (no a) (no b) (no c) =
          let e : trailer_at image + (i - trailer_at image) ≡ i = omega arith in
          let long = as_long in
          let all = whole in
          let h = at in
          ap (byte_at again) (sym e)
          ∙ ap (λ (n : ℕ). byte_at again (n + (i - trailer_at image))) (sym trailer_is)
          ∙ trailer_back (i - trailer_at image) (omega arith)
          ∙ ap (byte_at image) e

  back : moved_image own_years own_mark (moved_image years mark image) ≡ image
  unfolding byte_at
  back = ext_get_or 0 again image as_long byte_back

-- ---- The two round trips

own_undated : (image : List ℕ) → verdict_of image ≡ Ok tt → is_dated image ≡ false → Own image [] second_mark
own_undated image accepts old =
    record {
      size_is = (placed image accepts).size ∙ undated_size image old;
      mark_is = go (form_marked image ((accepted image).0 accepts).0.form);
      years_are = λ k j l u. absurd (omega arith);
    }
  where
    go : (byte_at image (trailer_at image + second_mark_byte) ≡ second_mark) ⊎ (byte_at image (trailer_at image + second_mark_byte) ≡ dated_mark)
        → byte_at image (trailer_at image + second_mark_byte) ≡ second_mark
    go (inl e) = e
    go (inr e) = absurd (clash ((tells_dated image).1 e) old)

own_dated : (image : List ℕ) → verdict_of image ≡ Ok tt → is_dated image ≡ true → first_dated image ≡ none → Bytes image → Own image always dated_mark
unfolding number_bytes number_at record_byte
own_dated image accepts new none_dated bytes =
    record {
      size_is = size;
      mark_is = (tells_dated image).0 new;
      years_are = years_are;
    }
  where
    size : (entries_of image).size ≡ dated_entry_size
    size = (placed image accepts).size ∙ dated_size image new

    years_are : (k j : ℕ) → k < (entries_of image).records → j < 4 → byte_at image (offset (entries_of image) k + (entry_size + j)) ≡ get_or always j 0
    years_are k j l u = by_byte j u
      where
        at : ℕ
        at = offset (entries_of image) k

        stored : (first_year image (entries_of image) k ≡ number_at image (at + first_year_byte)) × (last_year image (entries_of image) k ≡ number_at image (at + last_year_byte))
        stored = dated_years image (entries_of image) k size

        first_is : byte_at image (at + first_year_byte) + 256 * byte_at image (at + first_year_byte + 1) ≡ earliest_year
        first_is = sym stored.0 ∙ (years_always image none_dated k l).0

        last_is : byte_at image (at + last_year_byte) + 256 * byte_at image (at + last_year_byte + 1) ≡ latest_year
        last_is = sym stored.1 ∙ (years_always image none_dated k l).1

        below : (i : ℕ) → byte_at image i < 256
        below = byte_below image bytes

        by_byte : (j : ℕ) → j < 4 → byte_at image (at + (entry_size + j)) ≡ get_or always j 0
        by_byte zero u = let e = first_is in omega arith
        by_byte (suc zero) u =
            let e = first_is in
            let s : byte_at image (at + (entry_size + 1)) ≡ byte_at image (at + first_year_byte + 1) = ap (byte_at image) (omega arith) in
            s ∙ omega arith
        by_byte (suc (suc zero)) u =
            let e = last_is in
            let low = below (at + last_year_byte) in
            let high = below (at + last_year_byte + 1) in
            let s : byte_at image (at + (entry_size + 2)) ≡ byte_at image (at + last_year_byte) = ap (byte_at image) (omega arith) in
            s ∙ omega arith
        by_byte (suc (suc (suc zero))) u =
            let e = last_is in
            let low = below (at + last_year_byte) in
            let high = below (at + last_year_byte + 1) in
            let s : byte_at image (at + (entry_size + 3)) ≡ byte_at image (at + last_year_byte + 1) = ap (byte_at image) (omega arith) in
            s ∙ omega arith
        by_byte (suc (suc (suc (suc j)))) u = absurd (omega arith)

module _ (image : List ℕ) (accepts : verdict_of image ≡ Ok tt) (bytes : Bytes image) where
  pub dated_and_back : is_dated image ≡ false → undated_image (dated_image image) ≡ image
  dated_and_back old =
      back image accepts (undated_none image old) bytes always dated_mark dated [] second_mark (own_undated image accepts old)

  pub undated_and_back : is_dated image ≡ true → first_dated image ≡ none → dated_image (undated_image image) ≡ image
  undated_and_back new none_dated =
      back image accepts none_dated bytes [] second_mark undated always dated_mark (own_dated image accepts new none_dated bytes)
