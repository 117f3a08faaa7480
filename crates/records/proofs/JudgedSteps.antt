-- What is wrong with the records, step by step, as the code goes: what each of its answers makes of the definition.
use Prim.Native.Nat.{ℕ, ◌+◌, ◌<◌}
use mathlib.Core.Bool.{Bool, true, false, not}
use mathlib.Core.List.{List}
use mathlib.Core.Option.{Option, none, some}
use mathlib.Core.Path.{◌≡◌, refl, sym}
use native.Mathlib.Omega.{arith}
use lib.Dec.{eqb}
use borrow.Author.Tests.{eq-eqb, ne_eqb}
use Rattle.table.specs.Numbers.{blank}
use Rattle.table.specs.Search.{member}
use Rattle.table.specs.Sections.{frame_right, sections_of}
use Rattle.table.specs.Records.{symbols, Wrong, first_wrong}
use Rattle.table.specs.declared.Sections.{Sections}
use Rattle.table.proofs.Frame.{sections_unframed, framed_classes, framed_variables}
use Rattle.table.proofs.Laid.{sections_laid}
use Rattle.records.specs.Judged.{blank_judged, records_judged}
use Rattle.records.specs.inside.Judging.{letter_number, fault_of}
use Rattle.std.specs.Prelude.{Ok, Err}
use Rattle.records.specs.declared.Fault.{Fault}
use Rattle.records.specs.declared.Fault.TheVariants.{NoBlank}
use Rattle.records.proofs.LetterNumbers.{number_in_alphabet}

-- the numbers of classes and variables are small, whatever the frame
pub few_numbers : (image : List ℕ) → (sections_of image).classes + (sections_of image).variables < 65536
few_numbers image = go (frame_right image) refl
  where
    go : (b : Bool) → frame_right image ≡ b → (sections_of image).classes + (sections_of image).variables < 65536
    go true e =
        let classes = framed_classes image e in
        let variables = framed_variables image e in
        omega arith
    go false e = rw (sections_unframed image e) (omega arith)

-- and so is that of alphabet records
pub few_letters : (image : List ℕ) → (sections_of image).alphabet.records < 65535
few_letters image = go (frame_right image) refl
  where
    go : (b : Bool) → frame_right image ≡ b → (sections_of image).alphabet.records < 65535
    go true e = let most = (sections_laid image e).alphabet_laid.number_right in omega arith
    go false e = rw (sections_unframed image e) (omega arith)

module _ (image : List ℕ) (s : Sections) where
  -- ---- The records

  pub wrong_judged : (f : Fault) → fault_of (first_wrong image s) ≡ Err f → records_judged image s ≡ Err f
  unfolding records_judged
  wrong_judged f e = go (first_wrong image s) refl e
    where
      go : (o : Option Wrong) → first_wrong image s ≡ o → fault_of o ≡ Err f → records_judged image s ≡ Err f
      go none p h = cc
      go (some w) p h = rw (p, records_judged) h

  pub records_right : fault_of (first_wrong image s) ≡ Ok tt → records_judged image s ≡ blank_judged image s
  unfolding records_judged
  records_right e = go (first_wrong image s) refl e
    where
      go : (o : Option Wrong) → first_wrong image s ≡ o → fault_of o ≡ Ok tt → records_judged image s ≡ blank_judged image s
      go none p h = rw (p, records_judged)
      go (some w) p h = cc

  -- ---- The blank

  blank_number : member blank (symbols image s) ≡ not (eqb (letter_number image s.alphabet blank s.alphabet.records) 0)
  blank_number = sym (number_in_alphabet image s blank)

  pub no_blank_judged : letter_number image s.alphabet blank s.alphabet.records ≡ 0 → blank_judged image s ≡ Err NoBlank
  unfolding blank_judged
  no_blank_judged e = rw (blank_number, eq-eqb _ 0 e, blank_judged)

  pub blank_there : (letter_number image s.alphabet blank s.alphabet.records ≡ 0 → ⊥) → blank_judged image s ≡ Ok tt
  unfolding blank_judged
  blank_there d = rw (blank_number, ne_eqb _ 0 d, blank_judged)
