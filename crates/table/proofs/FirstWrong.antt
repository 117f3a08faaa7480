-- The search for the first wrong record finds the paper's: a byte that isn't right, with every byte before it in its record and every record before it in
-- the image right. The idea: a section in which the search finds none holds right records alone, and the sections are searched in image order.
use Prim.Native.Nat.{ℕ, zero, suc, ◌<◌}
use mathlib.Core.Bool.{Bool, true, false, not}
use mathlib.Core.List.{List, [], ◌∷◌}
use mathlib.Core.Option
use mathlib.Core.Option.{Option, none, some}
use mathlib.Core.Path.{◌≡◌, refl, sym, ◌∙◌, ap, subst}
use native.Mathlib.Decide.{dec_lt}
use native.Mathlib.Omega.{arith}
use lib.ListN.{length, get_or}
use borrow.Author.Tests.{not-true, not-false}
use Rattle.table.specs.Search.{first}
use Rattle.table.specs.Records.{wrong_byte, right_record, SectionName, decisions, section_named, rule_of, Wrong, wrong_in, first_wrong_of, image_order, first_wrong}
use Rattle.table.specs.Refusals.{RightRecord, There, RecordsRight, RightByte, sections_before, FirstWrong}
use Rattle.table.specs.declared.Sections.{Sections}
use Rattle.table.proofs.Search.{first_found, first_missing}
use Rattle.table.proofs.Tests.{clash, fails_law}
use Rattle.table.proofs.RightRecords.{record_right, byte_right, right_by_bytes}
use Rattle.table.proofs.SectionOrder.{named_by_number, numbered_by_name, number_below}

module _ (image : List ℕ) (s : Sections) where
  -- ---- One section

  abbrev is_wrong : SectionName → ℕ → Bool
  is_wrong name k = not (right_record (rule_of image s name k))

  abbrev SectionRight : SectionName → Type 0
  SectionRight name = (k : ℕ) → There s name k → RightRecord image s name k

  -- the first wrong record of the section, and its first wrong byte
  record WrongIn (name : SectionName) (w : Wrong) : Type 0 where
    same : w.section ≡ name
    there : There s name w.index
    wrong : RightByte image s name w.index w.byte → ⊥
    bytes_right : (i : ℕ) → i < w.byte → RightByte image s name w.index i
    earlier_right : (j : ℕ) → j < w.index → RightRecord image s name j

  -- what the search of a section says
  abbrev OfSection : SectionName → Option Wrong → Type 0
  OfSection name none = SectionRight name
  OfSection name (some w) = WrongIn name w

  section_searched : (name : SectionName) → OfSection name (wrong_in image s name)
  unfolding wrong_in right_record wrong_byte
  section_searched name = go (first (is_wrong name) (section_named s name).records) refl
    where
      right_of : (k : ℕ) → There s name k → is_wrong name k ≡ false → RightRecord image s name k
      right_of k l e = (record_right image s name k l).0 (not-false _ e)

      at_byte : (k : ℕ) → There s name k → is_wrong name k ≡ true → ((j : ℕ) → j < k → RightRecord image s name j)
          → (o : Option ℕ) → wrong_byte (rule_of image s name k) ≡ o → WrongIn name (record { section = name; index = k; byte = Option.get_or o 0 })
      at_byte k l f earlier none e = absurd (clash f (rw e))
      at_byte k l f earlier (some j) e =
          let first_one = first_found (λ i. not (get_or (rule_of image s name k) i true)) 0 _ j e in
          record {
            same = refl;
            there = l;
            wrong = (fails_law (byte_right image s name k l j)).0 (not-true _ first_one.passes);
            bytes_right = λ i u. (byte_right image s name k l i).0 (not-false _ (first_one.earlier i (omega arith) u));
            earlier_right = earlier;
          }

      go : (o : Option ℕ) → first (is_wrong name) (section_named s name).records ≡ o
          → OfSection name
          (elim o [
            | none ↦ none
            | some k ↦ some (record { section = name; index = k; byte = Option.get_or (wrong_byte (rule_of image s name k)) 0 })
          ])
      go none e = λ k l. right_of k l (first_missing (is_wrong name) 0 _ e k (omega arith) (omega arith))
      go (some k) e =
          let f = first_found (is_wrong name) 0 _ k e in
          at_byte k (omega arith) f.passes (λ j u. right_of j (omega arith) (f.earlier j (omega arith) u)) (wrong_byte (rule_of image s name k)) refl

  -- ---- The sections, one after the other

  -- the record is wrong in the section at a place of the list, and the sections before that place are right
  record WrongAmong (names : List SectionName) (w : Wrong) : Type 0 where
    place : ℕ
    there : place < length names
    found : WrongIn (get_or names place decisions) w
    right_before : (i : ℕ) → i < place → SectionRight (get_or names i decisions)

  abbrev OfSections : List SectionName → Option Wrong → Type 0
  OfSections names none = (i : ℕ) → i < length names → SectionRight (get_or names i decisions)
  OfSections names (some w) = WrongAmong names w

  sections_searched : (names : List SectionName) → OfSections names (first_wrong_of image s names)
  unfolding first_wrong_of
  sections_searched [] = λ i l. absurd (omega arith)
  sections_searched (name ∷ names) = go (wrong_in image s name) (section_searched name) (first_wrong_of image s names) (sections_searched names)
    where
      right_at : SectionRight name → (n : ℕ) → ((i : ℕ) → i < n → SectionRight (get_or names i decisions))
          → (i : ℕ) → i < suc n → SectionRight (get_or (name ∷ names) i decisions)
      right_at here n later zero l = here
      right_at here n later (suc i) l = later i (omega arith)

      go : (o : Option Wrong) → OfSection name o → (r : Option Wrong) → OfSections names r
          → OfSections (name ∷ names) (elim o [ none ↦ r | some w ↦ some w ])
      go none here none later = right_at here (length names) later
      go none here (some w) f =
          record { place = suc f.place; there = omega arith; found = f.found; right_before = right_at here f.place f.right_before }
      go (some w) f r later = record { place = 0; there = omega arith; found = f; right_before = λ i l. absurd (omega arith) }

  -- ---- All sections, in image order

  -- what the search says in the paper's words
  abbrev OfImage : Option Wrong → Type 0
  OfImage none = RecordsRight image s
  OfImage (some w) = FirstWrong image s w.section w.index w.byte

  image_searched : OfImage (first_wrong image s)
  unfolding first_wrong
  image_searched = go (first_wrong image s) (sections_searched image_order)
    where
      go : (o : Option Wrong) → OfSections image_order o → OfImage o
      go none right = λ name. subst SectionRight (named_by_number name) (right (sections_before name) (number_below name))
      go (some w) f =
          subst (λ (name : SectionName). FirstWrong image s name w.index w.byte) (sym f.found.same)
          (record {
            there = f.found.there;
            wrong = f.found.wrong;
            bytes_right = f.found.bytes_right;
            sections_right =
                λ a l.
                let e = numbered_by_name f.place f.there in
                subst SectionRight (named_by_number a) (f.right_before (sections_before a) (omega arith));
            earlier_right = f.found.earlier_right;
          })

  pub first_wrong_lem : (w : Wrong) → first_wrong image s ≡ some w → FirstWrong image s w.section w.index w.byte
  first_wrong_lem w e = subst OfImage e image_searched

  pub right_of_none : first_wrong image s ≡ none → RecordsRight image s
  right_of_none e = subst OfImage e image_searched

  -- where a byte is wrong, so is its record
  pub wrong_record : {name : SectionName} {k j : ℕ} → FirstWrong image s name k j → RightRecord image s name k → ⊥
  wrong_record {name} {k} {j} f right = f.wrong ((right_by_bytes image s name k f.there).0 right j)

  pub none_of_right : RecordsRight image s → first_wrong image s ≡ none
  none_of_right right = go (first_wrong image s) refl
    where
      go : (o : Option Wrong) → first_wrong image s ≡ o → first_wrong image s ≡ none
      go none e = e
      go (some w) e = let f = first_wrong_lem w e in absurd (wrong_record f (right w.section w.index f.there))

  -- where a section has the first wrong byte, no section before it has one
  pub no_earlier_section : {a b : SectionName} {k j m i : ℕ} → FirstWrong image s a k j → FirstWrong image s b m i → sections_before a < sections_before b → ⊥
  no_earlier_section {a} {k = k} p q l = wrong_record p (q.sections_right a l k p.there)

  -- in one section there is but one
  pub one_first_wrong : {name : SectionName} {k m j i : ℕ} → FirstWrong image s name k j → FirstWrong image s name m i → (k ≡ m) × (j ≡ i)
  one_first_wrong {name} {k} {m} {j} {i} f g = (same_index, same_byte (dec_lt j i) (dec_lt i j))
    where
      same_index : k ≡ m
      same_index = go (dec_lt k m) (dec_lt m k)
        where
          go : Dec (k < m) → Dec (m < k) → k ≡ m
          go (yes l) d = absurd (wrong_record f (g.earlier_right k l))
          go (no d) (yes l) = absurd (wrong_record g (f.earlier_right m l))
          go (no d) (no e) = omega arith

      other : FirstWrong image s name k i
      other = subst (λ (n : ℕ). FirstWrong image s name n i) (sym same_index) g

      same_byte : Dec (j < i) → Dec (i < j) → j ≡ i
      same_byte (yes l) d = absurd (f.wrong (other.bytes_right j l))
      same_byte (no d) (yes l) = absurd (other.wrong (f.bytes_right i l))
      same_byte (no d) (no e) = omega arith

  same_section : {a b : SectionName} {k j m i : ℕ} → FirstWrong image s a k j → FirstWrong image s b m i → a ≡ b
  same_section {a} {b} f g =
      let x = no_earlier_section f g in
      let y = no_earlier_section g f in
      let e : sections_before a ≡ sections_before b = omega arith in
      sym (named_by_number a) ∙ ap (λ (i : ℕ). get_or image_order i decisions) e ∙ named_by_number b

  -- the search finds that one
  pub first_wrong_is : (name : SectionName) (k j : ℕ) → FirstWrong image s name k j → first_wrong image s ≡ some (record { section = name; index = k; byte = j })
  first_wrong_is name k j f = go (first_wrong image s) refl
    where
      go : (o : Option Wrong) → first_wrong image s ≡ o → first_wrong image s ≡ some (record { section = name; index = k; byte = j })
      go none e = absurd (wrong_record f (right_of_none e name k f.there))
      go (some w) e =
          let g = first_wrong_lem w e in
          let a = same_section g f in
          let one = one_first_wrong (subst (λ (n : SectionName). FirstWrong image s n w.index w.byte) a g) f in
          e ∙ (λ i. some (record { section = a i; index = one.0 i; byte = one.1 i }))
