-- Printing signs one after another: what one sign prints, and that what is printed so far, and then what the signs still to come print, is the whole.
use Prim.Native.Nat.{ℕ, suc, ◌+◌, ◌-◌, ◌≤◌, ◌<◌}
use mathlib.Core.Bool.{Bool, true, false, cond}
use mathlib.Core.List.{List, [], ◌∷◌, ◌++◌, append_assoc, append-nil}
use mathlib.Core.Logic.{◌≢◌}
use mathlib.Core.Path.{◌≡◌, refl, sym, ◌∙◌, subst}
use native.Mathlib.Numerals.{add-one}
use native.Mathlib.Omega.{arith}
use lib.Dec.{eqb}
use lib.ListN.{length, get_or, take, drop, drop_of_length-le}
use lib.Seq.{drop-cons}
use borrow.Author.Tests.{eq-eqb, ne_eqb}
use borrow.Rule.Slice.PartMut.{put_mid}
use Rattle.table.specs.Numbers.{blank_cell, other_blank, no_cell}
use Rattle.translation.specs.Pieces.{printed}
use Rattle.translation.specs.inside.Making.{WroteUntil}
use Rattle.translation.proofs.Signs.{printed_at_most}
use Rattle.translation.proofs.Writing.{wrote_nothing, wrote_behind}

-- ---- One sign

pub no_cell_prints : (g : ℕ) → g ≡ no_cell → printed (g ∷ []) ≡ []
unfolding printed
no_cell_prints g e = rw (eq-eqb g no_cell e, printed)

pub cell_prints : (g : ℕ) → g ≢ no_cell → printed (g ∷ []) ≡ cond (eqb g other_blank) blank_cell g ∷ []
unfolding printed
cell_prints g n = rw (ne_eqb g no_cell n, printed)

printed_one_by_one : (g : ℕ) (signs : List ℕ) → printed (g ∷ signs) ≡ printed (g ∷ []) ++ printed signs
unfolding printed
printed_one_by_one g signs = go (eqb g no_cell)
  where
    go : (b : Bool)
        → ◌≡◌ {A = List ℕ} (elim b [ true ↦ printed signs | false ↦ cond (eqb g other_blank) blank_cell g ∷ printed signs ])
        (elim b as (λ (b : Bool). List ℕ) [ true ↦ [] | false ↦ cond (eqb g other_blank) blank_cell g ∷ [] ] ++ printed signs)
    go true = refl
    go false = refl

-- ---- A list of signs

pub record Printing (signs before after : List ℕ) (n i : ℕ) : Type 0 where
  pub done : List ℕ
  pub wrote : WroteUntil before 0 done after n
  pub no_more : n ≤ i
  pub within : i ≤ length signs
  pub whole : done ++ printed (drop i signs) ≡ printed signs

pub printing_starts : (signs before : List ℕ) → Printing signs before before 0 0
printing_starts signs before =
    record { done = []; wrote = wrote_nothing before 0 (omega arith); no_more = omega arith; within = omega arith; whole = refl }

module _ {signs before after : List ℕ} {n i : ℕ} (p : Printing signs before after n i) where
  pub printing_goes_on : {part : List ℕ} {m : ℕ} → i < length signs
      → WroteUntil (take (length after - n) (drop n after)) 0 (printed (get_or signs i 0 ∷ [])) part m
      → Printing signs before (put_mid n (length after - n) after part) (n + m) (i + 1)
  printing_goes_on {part} {m} l w =
      record {
        done = p.done ++ printed (get_or signs i 0 ∷ []);
        wrote = wrote_behind p.wrote w;
        no_more = let a = printed_at_most (get_or signs i 0 ∷ []) in let b = p.no_more in let d = w.place in omega arith;
        within = omega arith;
        whole =
            rw (append_assoc, add-one, ← (printed_one_by_one (get_or signs i 0) (drop (suc i) signs)), ← (drop-cons signs i 0 l)) p.whole;
      }

  pub printing_ends : length signs ≤ i → WroteUntil before 0 (printed signs) after n
  unfolding printed
  printing_ends l =
      subst (λ (xs : List ℕ). WroteUntil before 0 xs after n)
      (sym (append-nil p.done) ∙ rw (drop_of_length-le signs l) at p.whole) p.wrote
