-- The two forms of a table: the trailer's last byte tells how long a contraction record is, and the length of its records whether they have years.
use Prim.Native.Nat.{ℕ, ◌+◌, ◌≤◌}
use mathlib.Core.Bool.{Bool, true, false}
use mathlib.Core.List.{List}
use mathlib.Core.Logic.{◌⊎◌, inl, inr}
use mathlib.Core.Path.{◌≡◌, refl, sym}
use native.Mathlib.Omega.{arith}
use Rattle.table.specs.Numbers.{second_mark_byte, second_mark, dated_mark, entry_size, dated_entry_size, first_year_byte, last_year_byte, earliest_year, latest_year}
use Rattle.table.specs.Sections.{byte_at, number_at, trailer_at, is_dated, entry_size_in, offset, first_year, last_year}
use Rattle.table.specs.Refusals.{EntryForm, old_form, new_form}
use Rattle.table.specs.declared.Section.{Section}
use Rattle.table.proofs.Tests.{Tells, tells_eq, fails_law}

-- ---- How long a contraction record is

module _ (image : List ℕ) where
  abbrev mark : ℕ
  mark = byte_at image (trailer_at image + second_mark_byte)

  pub tells_dated : Tells (is_dated image) (mark ≡ dated_mark)
  unfolding is_dated
  tells_dated = tells_eq _ _

  pub dated_size : is_dated image ≡ true → entry_size_in image ≡ dated_entry_size
  unfolding entry_size_in
  dated_size e = rw e

  pub undated_size : is_dated image ≡ false → entry_size_in image ≡ entry_size
  unfolding entry_size_in
  undated_size e = rw e

  -- the form that the last byte tells
  pub form_told : (mark ≡ second_mark) ⊎ (mark ≡ dated_mark) → EntryForm image (entry_size_in image)
  form_told (inl old) = rw (undated_size ((fails_law tells_dated).1 (λ new. omega arith))) (old_form old)
  form_told (inr new) = rw (dated_size (tells_dated.1 new)) (new_form new)

  pub form_marked : {size : ℕ} → EntryForm image size → (mark ≡ second_mark) ⊎ (mark ≡ dated_mark)
  form_marked (old_form old) = inl old
  form_marked (new_form new) = inr new

  pub form_size : {size : ℕ} → EntryForm image size → size ≡ entry_size_in image
  form_size (old_form old) = sym (undated_size ((fails_law tells_dated).1 (λ new. omega arith)))
  form_size (new_form new) = sym (dated_size (tells_dated.1 new))

  -- with years or without, a record has the bytes before them
  pub entry_long : entry_size ≤ entry_size_in image
  entry_long = go (is_dated image) refl
    where
      go : (dated : Bool) → is_dated image ≡ dated → entry_size ≤ entry_size_in image
      go true e = let long = dated_size e in omega arith
      go false e = let short = undated_size e in omega arith

-- ---- Its years

module _ (image : List ℕ) (entries : Section) (k : ℕ) where
  pub dated_years : entries.size ≡ dated_entry_size
      → (first_year image entries k ≡ number_at image (offset entries k + first_year_byte)) × (last_year image entries k ≡ number_at image (offset entries k + last_year_byte))
  unfolding first_year last_year
  dated_years e = let h = (tells_eq entries.size dated_entry_size).1 e in (rw h, rw h)

  pub undated_years : (entries.size ≡ dated_entry_size → ⊥) → (first_year image entries k ≡ earliest_year) × (last_year image entries k ≡ latest_year)
  unfolding first_year last_year
  undated_years d = let h = (fails_law (tells_eq entries.size dated_entry_size)).1 d in (rw h, rw h)
