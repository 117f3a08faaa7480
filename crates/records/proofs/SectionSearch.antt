-- The search for the first wrong record goes through the sections in image order, and through the records of each.
use Rattle.std.proofs.Common.{ℕ, ◌+◌, ◌≤◌, ◌<◌, Bool, true, false, not, List, ◌∷◌, drop, Ok, Err, ◌≡◌, refl, get_or}
use Rattle.std.proofs.Math.Option as maybe
use Rattle.std.proofs.Math.Seq.{drop-cons}
use native.Mathlib.Numerals.{add-one}
use Rattle.table.specs.Records.{wrong_byte, right_record, section_named, rule_of, Wrong, wrong_in, first_wrong_of, image_order}
use Rattle.table.specs.declared.Sections.{Sections}
use Rattle.table.specs.declared.SectionName.{SectionName}
use Rattle.table.proofs.Search.{found_first, found_none}
use Rattle.records.specs.declared.Fault.{Fault}
use Rattle.records.specs.declared.Fault.TheVariants.{Wrong as WrongAt}
use Rattle.records.specs.Judged.{Judged}
use Rattle.records.specs.inside.Judging.{fault_of}

module _ (image : List ℕ) (s : Sections) where
  -- ---- One section

  abbrev pub is_wrong : SectionName → ℕ → Bool
  is_wrong name k = not (right_record (rule_of image s name k))

  -- a record is wrong where it has a first wrong byte
  pub wrong_with_byte : (name : SectionName) (k j : ℕ) → wrong_byte (rule_of image s name k) ≡ maybe.some j → is_wrong name k ≡ true
  unfolding right_record
  wrong_with_byte name k j e = rw e

  pub right_without : (name : SectionName) (k : ℕ) → wrong_byte (rule_of image s name k) ≡ maybe.none → is_wrong name k ≡ false
  unfolding right_record
  right_without name k e = rw e

  -- record `k` is the first wrong one of the section, at its byte `j`
  pub found_in : (name : SectionName) (k j : ℕ) → ((m : ℕ) → m < k → is_wrong name m ≡ false) → k < (section_named s name).records
      → wrong_byte (rule_of image s name k) ≡ maybe.some j
      → fault_of (wrong_in image s name) ≡ Err (WrongAt name k j)
  unfolding wrong_in
  found_in name k j fails l e =
      rw (found_first (is_wrong name) (section_named s name).records k fails l (wrong_with_byte name k j e), wrong_in, e)

  pub none_in : (name : SectionName) (k : ℕ) → ((m : ℕ) → m < k → is_wrong name m ≡ false) → (section_named s name).records ≤ k
      → fault_of (wrong_in image s name) ≡ Ok tt
  unfolding wrong_in
  none_in name k fails l = rw (found_none (is_wrong name) (section_named s name).records k fails l, wrong_in)

  -- ---- The sections, one after the other

  -- from section `i` on
  abbrev pub fault_from : ℕ → Judged
  fault_from i = fault_of (first_wrong_of image s (drop i image_order))

  module _ (name : SectionName) (names : List SectionName) where
    wrong_first : (f : Fault) → fault_of (wrong_in image s name) ≡ Err f → fault_of (first_wrong_of image s (name ∷ names)) ≡ Err f
    unfolding first_wrong_of
    wrong_first f e = go (wrong_in image s name) refl e
      where
        go : (o : maybe.Option Wrong) → wrong_in image s name ≡ o → fault_of o ≡ Err f → fault_of (first_wrong_of image s (name ∷ names)) ≡ Err f
        go maybe.none p h = cc
        go (maybe.some w) p h = rw (p, first_wrong_of) h

    right_first : fault_of (wrong_in image s name) ≡ Ok tt → fault_of (first_wrong_of image s (name ∷ names)) ≡ fault_of (first_wrong_of image s names)
    unfolding first_wrong_of
    right_first e = go (wrong_in image s name) refl e
      where
        go : (o : maybe.Option Wrong) → wrong_in image s name ≡ o → fault_of o ≡ Ok tt
            → fault_of (first_wrong_of image s (name ∷ names)) ≡ fault_of (first_wrong_of image s names)
        go maybe.none p h = rw (p, first_wrong_of)
        go (maybe.some w) p h = cc

  pub wrong_here : (i : ℕ) (d : SectionName) (f : Fault) → i < 5 → fault_of (wrong_in image s (get_or image_order i d)) ≡ Err f → fault_from i ≡ Err f
  wrong_here i d f l e = rw (drop-cons image_order i d l) (wrong_first _ _ f e)

  pub right_here : (i : ℕ) (d : SectionName) → i < 5 → fault_of (wrong_in image s (get_or image_order i d)) ≡ Ok tt → fault_from i ≡ fault_from (i + 1)
  right_here i d l e = rw (add-one, drop-cons image_order i d l) (right_first _ _ e)
