-- What stands where in a moved image: each byte that stays is found again, at its place in the moved image. Each part is as long as it says, so a place in the
-- whole is a place in one of the four parts.
use Prim.Native.Nat.{ℕ, ◌+◌, ◌-◌, ◌*◌, ◌/◌, ◌%◌, ◌≤◌, ◌<◌}
use mathlib.Core.List.{List, [], ◌∷◌, ◌++◌}
use mathlib.Core.Path.{◌≡◌, refl, sym, ◌∙◌, ap, subst}
use native.Mathlib.Nat.{mod-lt, mod-add-div}
use native.Mathlib.Omega.{arith}
use lib.ListN.{length, get_or, take, drop, length-append, length-drop, get_or-append}
use lib.Seq.{length-take-le, get_or-take, get_or-drop, get_or-append-add}
use Rattle.std.specs.Prelude.{Ok}
use Rattle.table.specs.Numbers.{trailer_size, entry_size, second_mark_byte}
use Rattle.table.specs.Sections.{byte_at, number_at, bytes_from, trailer_at, distance, sections_of, offset, record_byte, record_part}
use Rattle.table.specs.Verdict.{verdict_of}
use Rattle.table.specs.declared.Section.{Section}
use Rattle.table.proofs.Reading.{part_long, part_at, entry_inside, accepted_laid, accepted_right}
use Rattle.dates.specs.Forms.{entries_of, number_bytes, moved_entry, moved_entries, moved_distance, moved_trailer, moved_image}
use Rattle.dates.proofs.Blocks.{in_block, blocks_length, block_at, parts_length, in_first, in_second, in_third, in_fourth}
use Rattle.dates.proofs.Placed.{Placed, placed}

-- ---- The bytes of a part

module _ (image : List ℕ) (at n : ℕ) (fits : at + n ≤ length image) where
  pub bytes_long : length (bytes_from image at n) ≡ n
  unfolding bytes_from
  bytes_long = length-take-le n (drop at image) (rw length-drop (omega arith))

  pub bytes_at : (i : ℕ) → i < n → get_or (bytes_from image at n) i 0 ≡ byte_at image (at + i)
  unfolding bytes_from byte_at
  bytes_at i l = get_or-take n (drop at image) i 0 l ∙ get_or-drop at image i 0

pub number_long : (n : ℕ) → length (number_bytes n) ≡ 2
unfolding number_bytes
number_long n = refl

-- ---- The records

-- records of this section lie within the image up to their signs
abbrev pub Lie : List ℕ → Section → Type 0
Lie image entries = (k : ℕ) → k < entries.records → offset entries k + entry_size ≤ length image

module _ (years image : List ℕ) (entries : Section) (lie : Lie image entries) where
  abbrev pub size : ℕ
  size = entry_size + length years

  pub entry_length : (k : ℕ) → k < entries.records → length (moved_entry years image entries k) ≡ size
  unfolding moved_entry
  entry_length k l =
      let inside = lie k l in
      length-append (record_part image entries k 0 entry_size) years
      ∙ ap (λ (n : ℕ). n + length years) (part_long image entries k 0 entry_size (omega arith))

  pub entries_length : length (moved_entries years image entries) ≡ size * entries.records
  unfolding moved_entries
  entries_length = blocks_length (moved_entry years image entries) size 0 entries.records (λ k m l. entry_length k (omega arith))

  entries_at : (k j : ℕ) → k < entries.records → j < size
      → get_or (moved_entries years image entries) (size * k + j) 0 ≡ get_or (moved_entry years image entries k) j 0
  unfolding moved_entries
  entries_at k j l u =
      block_at (moved_entry years image entries) size 0 entries.records k j (λ p m v. entry_length p (omega arith)) l u
      ∙ ap (λ (p : ℕ). get_or (moved_entry years image entries p) j 0) (omega arith)

  -- up to the signs a record is as it was, and then come the years
  pub entry_bytes : (k j : ℕ) → k < entries.records → j < entry_size
      → get_or (moved_entries years image entries) (size * k + j) 0 ≡ record_byte image entries k j
  unfolding moved_entry
  entry_bytes k j l u =
      let inside = lie k l in
      let long = part_long image entries k 0 entry_size (omega arith) in
      entries_at k j l (omega arith)
      ∙ get_or-append (record_part image entries k 0 entry_size) years 0 j (omega arith)
      ∙ part_at image entries k 0 entry_size (omega arith) j 0 u
      ∙ ap (record_byte image entries k) (omega arith)

  pub year_bytes : (k j : ℕ) → k < entries.records → j < length years
      → get_or (moved_entries years image entries) (size * k + (entry_size + j)) 0 ≡ get_or years j 0
  unfolding moved_entry
  year_bytes k j l u =
      let inside = lie k l in
      let long = part_long image entries k 0 entry_size (omega arith) in
      entries_at k (entry_size + j) l (omega arith)
      ∙ ap (λ (n : ℕ). get_or (record_part image entries k 0 entry_size ++ years) (n + j) 0) (sym long)
      ∙ get_or-append-add (record_part image entries k 0 entry_size) years j 0

-- ---- The moved image of an accepted one

module _ (image : List ℕ) (accepts : verdict_of image ≡ Ok tt) (years : List ℕ) (mark : ℕ) where
  abbrev p : Placed image
  p = placed image accepts

  abbrev entries : Section
  entries = entries_of image

  abbrev pub moved : List ℕ
  moved = moved_image years mark image

  -- the bytes of all records then
  abbrev pub grown : ℕ
  grown = (entry_size + length years) * (entries_of image).records

  pub lie : Lie image (entries_of image)
  lie = entry_inside image (sections_of image) (accepted_laid image accepts) (accepted_right image accepts)

  alphabet_long : length (take entries.start image) ≡ entries.start
  unfolding trailer_at
  alphabet_long = let h = p.start in length-take-le entries.start image (omega arith)

  others_fit : (sections_of image).contexts.start + distance image 2 ≤ length image
  unfolding trailer_at
  others_fit = omega (arith, p.next, p.first, p.second, p.third, p.trailer_there)

  others_long : length (bytes_from image (sections_of image).contexts.start (distance image 2)) ≡ distance image 2
  others_long = bytes_long image (sections_of image).contexts.start (distance image 2) others_fit

  trailer_fits : trailer_at image + 4 + 9 ≤ length image
  unfolding trailer_at
  trailer_fits = omega (arith, p.trailer_there)

  trailer_long : length (moved_trailer years mark image) ≡ trailer_size
  unfolding moved_trailer
  trailer_long =
      let rest = bytes_long image (trailer_at image + 4) 9 trailer_fits in
      simp (length-append, number_long) (omega arith)

  pub moved_length : length moved ≡ (entries_of image).start + grown + distance image 2 + trailer_size
  unfolding moved_image
  moved_length =
      let a = alphabet_long in
      let b = entries_length years image entries lie in
      let c = others_long in
      let d = trailer_long in
      parts_length (take entries.start image) (moved_entries years image entries) (bytes_from image (sections_of image).contexts.start (distance image 2))
      (moved_trailer years mark image)
      ∙ omega arith

  pub moved_trailer_lem : trailer_at moved ≡ (entries_of image).start + grown + distance image 2
  unfolding trailer_at
  moved_trailer_lem = let h = moved_length in omega arith

  -- the first two distances
  pub first_moved : moved_distance years image 0 ≡ (entries_of image).start + grown + distance image 2
  unfolding moved_distance
  first_moved = omega (arith, p.start, p.first, p.second, p.third, p.filled)

  pub second_moved : moved_distance years image 1 ≡ grown + distance image 2
  unfolding moved_distance
  second_moved = omega (arith, p.start, p.first, p.second, p.third, p.filled)

  -- ---- The bytes

  abbrev a : List ℕ
  a = take entries.start image

  abbrev b : List ℕ
  b = moved_entries years image entries

  abbrev c : List ℕ
  c = bytes_from image (sections_of image).contexts.start (distance image 2)

  abbrev d : List ℕ
  d = moved_trailer years mark image

  pub alphabet_byte : (i : ℕ) → i < (entries_of image).start → byte_at moved i ≡ byte_at image i
  unfolding moved_image byte_at
  alphabet_byte i l =
      let long = alphabet_long in
      in_first a b c d i (omega arith) ∙ get_or-take entries.start image i 0 l

  -- up to its signs a record is as it was
  pub entry_byte : (k j : ℕ) → k < (entries_of image).records → j < entry_size
      → byte_at moved ((entries_of image).start + (entry_size + length years) * k + j) ≡ record_byte image (entries_of image) k j
  unfolding moved_image byte_at
  entry_byte k j l u =
      let long = alphabet_long in
      let all = entries_length years image entries lie in
      let within = in_block (entry_size + length years) k entries.records j l (omega arith) in
      ap (λ (i : ℕ). get_or (a ++ b ++ c ++ d) i 0) (omega arith)
      ∙ in_second a b c d ((entry_size + length years) * k + j) (omega arith)
      ∙ entry_bytes years image entries lie k j l u

  pub year_byte : (k j : ℕ) → k < (entries_of image).records → j < length years
      → byte_at moved ((entries_of image).start + (entry_size + length years) * k + (entry_size + j)) ≡ get_or years j 0
  unfolding moved_image byte_at
  year_byte k j l u =
      let long = alphabet_long in
      let all = entries_length years image entries lie in
      let within = in_block (entry_size + length years) k entries.records (entry_size + j) l (omega arith) in
      ap (λ (i : ℕ). get_or (a ++ b ++ c ++ d) i 0) (omega arith)
      ∙ in_second a b c d ((entry_size + length years) * k + (entry_size + j)) (omega arith)
      ∙ year_bytes years image entries lie k j l u

  -- the later sections stay as they were, as far before the trailer as they were
  pub later_byte : (far i : ℕ) → far ≤ distance image 2 → i < far → byte_at moved (trailer_at moved - far + i) ≡ byte_at image (trailer_at image - far + i)
  unfolding moved_image byte_at
  later_byte far i l u =
      let long = alphabet_long in
      let all = entries_length years image entries lie in
      let others = others_long in
      let at : trailer_at (a ++ b ++ c ++ d) ≡ entries.start + grown + distance image 2 = moved_trailer_lem in
      let next : (sections_of image).contexts.start + (distance image 2 - far + i) ≡ trailer_at image - far + i =
      omega (arith, p.next, p.first, p.second, p.third) in
      byte_third (trailer_at (a ++ b ++ c ++ d) - far + i) (distance image 2 - far + i) (omega arith) (omega arith)
      ∙ bytes_at image (sections_of image).contexts.start (distance image 2) others_fit (distance image 2 - far + i) (omega arith)
      ∙ ap (byte_at image) next
    where
      byte_third : (at i : ℕ) → at ≡ length a + length b + i → i < length c → byte_at (a ++ b ++ c ++ d) at ≡ get_or c i 0
      byte_third at i e l = ap (λ (j : ℕ). get_or (a ++ b ++ c ++ d) j 0) e ∙ in_third a b c d i l

  trailer_byte : (i : ℕ) → byte_at moved (trailer_at moved + i) ≡ get_or d i 0
  unfolding moved_image byte_at
  trailer_byte i =
      let long = alphabet_long in
      let all = entries_length years image entries lie in
      let others = others_long in
      let at : trailer_at (a ++ b ++ c ++ d) ≡ entries.start + grown + distance image 2 = moved_trailer_lem in
      ap (λ (j : ℕ). get_or (a ++ b ++ c ++ d) j 0) (omega arith) ∙ in_fourth a b c d i

  -- a number of the trailer is read as it was written
  number_read : (at n : ℕ) → get_or d at 0 ≡ n % 256 → get_or d (at + 1) 0 ≡ n / 256 → number_at moved (trailer_at moved + at) ≡ n
  unfolding number_at
  number_read at n is_low is_high =
      let low = trailer_byte at in
      let high = trailer_byte (at + 1) in
      let whole = mod-add-div n 256 in
      let same : byte_at moved (trailer_at moved + at + 1) ≡ byte_at moved (trailer_at moved + (at + 1)) = ap (byte_at moved) (omega arith) in
      omega arith

  pub first_distance : distance moved 0 ≡ moved_distance years image 0
  unfolding distance moved_trailer number_bytes
  first_distance = number_read 0 (moved_distance years image 0) refl refl

  pub second_distance : distance moved 1 ≡ moved_distance years image 1
  unfolding distance moved_trailer number_bytes
  second_distance = number_read 2 (moved_distance years image 1) refl refl

  abbrev n₀ : List ℕ
  n₀ = number_bytes (moved_distance years image 0)

  abbrev n₁ : List ℕ
  n₁ = number_bytes (moved_distance years image 1)

  abbrev rest : List ℕ
  rest = bytes_from image (trailer_at image + 4) 9

  trailer_parts : (length n₀ + length n₁ ≡ 4) × (length rest ≡ 9)
  trailer_parts = (rw (number_long (moved_distance years image 0), number_long (moved_distance years image 1)), bytes_long image (trailer_at image + 4) 9 trailer_fits)

  -- all of the trailer but the first two distances and the last byte
  pub trailer_kept : (i : ℕ) → 4 ≤ i → i < 13 → byte_at moved (trailer_at moved + i) ≡ byte_at image (trailer_at image + i)
  unfolding moved_trailer
  trailer_kept i l u =
      let long = trailer_parts in
      trailer_byte i
      ∙ ap (λ (j : ℕ). get_or (n₀ ++ n₁ ++ rest ++ mark ∷ []) j 0) (omega arith)
      ∙ in_third n₀ n₁ rest (mark ∷ []) (i - 4) (omega arith)
      ∙ bytes_at image (trailer_at image + 4) 9 trailer_fits (i - 4) (omega arith)
      ∙ ap (byte_at image) (omega arith)

  pub mark_moved : byte_at moved (trailer_at moved + second_mark_byte) ≡ mark
  unfolding moved_trailer
  mark_moved =
      let long = trailer_parts in
      trailer_byte second_mark_byte
      ∙ ap (λ (j : ℕ). get_or (n₀ ++ n₁ ++ rest ++ mark ∷ []) j 0) (omega arith)
      ∙ in_fourth n₀ n₁ rest (mark ∷ []) 0

  pub later_distance : (k : ℕ) → 2 ≤ k → k < 5 → distance moved k ≡ distance image k
  unfolding distance number_at
  later_distance k l u =
      let low = trailer_kept (2 * k) (omega arith) (omega arith) in
      let high = trailer_kept (2 * k + 1) (omega arith) (omega arith) in
      let at : trailer_at moved + 2 * k + 1 ≡ trailer_at moved + (2 * k + 1) = omega arith in
      let at_2 : trailer_at image + 2 * k + 1 ≡ trailer_at image + (2 * k + 1) = omega arith in
      let same = ap (byte_at moved) at in
      let same_2 = ap (byte_at image) at_2 in
      omega arith

  -- the low bytes of the first two are bytes
  pub low_bytes : (byte_at moved (trailer_at moved + 0) < 256) × (byte_at moved (trailer_at moved + 2) < 256)
  unfolding moved_trailer number_bytes
  low_bytes = (
    subst (λ (x : ℕ). x < 256) (sym (trailer_byte 0)) (mod-lt (moved_distance years image 0) (omega arith)),
    subst (λ (x : ℕ). x < 256) (sym (trailer_byte 2)) (mod-lt (moved_distance years image 1) (omega arith)),
  )
