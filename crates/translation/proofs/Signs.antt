-- The signs that the pieces of a sound table print: cells 0..63 and format signs 70..73, at most four from each piece. The idea: a piece has the signs
-- of a right entry or of a right alphabet record, and printing drops 99 and makes 64 a blank.
use Prim.Native.Nat.{ℕ, suc, ◌*◌, ◌≤◌, ◌<◌}
use mathlib.Core.Bool.{Bool, true, false, cond}
use mathlib.Core.List.{List, [], ◌∷◌}
use mathlib.Core.Logic.{inl, inr, ⊎_elim}
use mathlib.Core.Option.{Option, none, some}
use mathlib.Core.Path.{◌≡◌, refl}
use native.Mathlib.Omega.{arith}
use lib.Dec.{eqb}
use lib.ListN.{length, get_or, length-append}
use borrow.Author.Tests.{eqb-false}
use Rattle.table.specs.Numbers.{blank_cell, other_blank, no_cell, entry_signs}
use Rattle.table.specs.Table.{Table, Letter}
use Rattle.table.specs.Refusals.{IsLetterSign, IsEntrySign}
use Rattle.table.specs.Sound.{Sound}
use Rattle.table.proofs.Search.{first_found}
use Rattle.table.specs.Lists.{All, empty, ◌and◌}
use Rattle.table.proofs.Lists.{all_at, all_of_places, all_append}
use Rattle.translation.specs.Letters.{no_letter, letter, letter_of, letter_for}
use Rattle.translation.specs.Choose.{no_entry, entry}
use Rattle.translation.specs.Pieces.{Piece, pieces_in, printed, signs_of}
use Rattle.table.specs.Printed.{PrintedSign, cell, format}
use Rattle.translation.specs.Chosen.{no_piece, piece_in}
use Rattle.translation.specs.declared.Setting.{Setting}
use Rattle.translation.proofs.Chosen.{first_in_order, chosen_fits}

-- ---- Printing

-- a right sign that isn't 99, 64 as the blank
one_printed : (g : ℕ) → IsEntrySign g → (g ≡ no_cell → ⊥) → PrintedSign (cond (eqb g other_blank) blank_cell g)
one_printed g right here = go (eqb g other_blank) refl right
  where
    go : (b : Bool) → eqb g other_blank ≡ b → IsEntrySign g → PrintedSign (cond b blank_cell g)
    go true e r = cell (omega arith)
    go false e (inl h) = let n = eqb-false g other_blank e in cell (omega arith)
    go false e (inr (inl b)) = format b.low b.high
    go false e (inr (inr h)) = absurd (here h)

all_printed : {signs : List ℕ} → All IsEntrySign signs → All PrintedSign (printed signs)
unfolding printed
all_printed empty = empty
all_printed (◌and◌ {x = g} {xs = signs} r rs) = go (eqb g no_cell) refl (all_printed rs)
  where
    go : (b : Bool) → eqb g no_cell ≡ b → All PrintedSign (printed signs)
        → All PrintedSign (elim b [ true ↦ printed signs | false ↦ cond (eqb g other_blank) blank_cell g ∷ printed signs ])
    go true e ps = ps
    go false e ps = one_printed g r (eqb-false g no_cell e) and ps

pub printed_at_most : (signs : List ℕ) → length (printed signs) ≤ length signs
unfolding printed
printed_at_most [] = omega arith
printed_at_most (g ∷ signs) = go (eqb g no_cell) (printed_at_most signs)
  where
    go : (b : Bool) → length (printed signs) ≤ length signs
        → length {A = ℕ} (elim b [ true ↦ printed signs | false ↦ cond (eqb g other_blank) blank_cell g ∷ printed signs ]) ≤ length (g ∷ signs)
    go true h = omega arith
    go false h = omega arith

-- signs that are all 99 print nothing
pub no_cells_print_nothing : (signs : List ℕ) → ((i : ℕ) → i < length signs → get_or signs i no_cell ≡ no_cell) → printed signs ≡ []
unfolding printed
no_cells_print_nothing [] h = refl
no_cells_print_nothing (g ∷ signs) h = rw (h 0 (omega arith)) (no_cells_print_nothing signs (λ i l. h (suc i) (omega arith)))

-- ---- The signs of a piece

module _ {classes variables : ℕ} (table : Table) (sound : Sound classes variables table) where
  letter_sign : (c : ℕ) → IsLetterSign (letter_for table.letters c).sign
  unfolding letter_for letter_of
  letter_sign c = go (letter_of table.letters c) refl
    where
      found : Option ℕ → Letter
      found o = elim o [ none ↦ no_letter | some k ↦ letter table.letters k ]

      go : (o : Option ℕ) → letter_of table.letters c ≡ o → IsLetterSign (found o).sign
      go none e = inr refl
      go (some k) e =
          let f = first_found (λ k. eqb (letter table.letters k).symbol c) 0 (length table.letters) k e in
          (sound.letters_right k no_letter (omega arith)).sign_right

  right_signs : (setting : Setting) (text : List ℕ) (i : ℕ) → i < length (pieces_in table setting text)
      → All IsEntrySign (piece_in table setting text i).signs
  right_signs setting text i l = go (piece_in table setting text i).chosen refl
    where
      go : (o : Option ℕ) → (piece_in table setting text i).chosen ≡ o → All IsEntrySign (piece_in table setting text i).signs
      go none e =
          let b = (first_in_order table setting text i l).by_letter e in
          rw b.sign (⊎_elim inl (λ e. inr (inr e)) (letter_sign b.front) and empty)
      go (some k) e =
          let b = (first_in_order table setting text i l).by_entry k e in
          rw b.signs (all_of_places (entry table k).signs no_cell (λ j u. (sound.entries_right k no_entry b.there).signs_right j no_cell u))

  -- ---- The signs of all pieces

  pub signs_printed : (setting : Setting) (text : List ℕ) (i : ℕ) → i < length (signs_of (pieces_in table setting text))
      → PrintedSign (get_or (signs_of (pieces_in table setting text)) i 0)
  unfolding signs_of
  signs_printed setting text i l = all_at (all_signs (all_of_places (pieces_in table setting text) no_piece (right_signs setting text))) i 0 l
    where
      all_signs : {ps : List Piece} → All (λ (p : Piece). All IsEntrySign p.signs) ps → All PrintedSign (signs_of ps)
      all_signs empty = empty
      all_signs (r and rs) = all_append (all_printed r) (all_signs rs)

  pub signs_at_most : (setting : Setting) (text : List ℕ)
      → length (signs_of (pieces_in table setting text)) ≤ entry_signs * length (pieces_in table setting text)
  unfolding signs_of
  signs_at_most setting text =
      go
      (all_of_places (pieces_in table setting text) no_piece
      (λ i l. (chosen_fits table setting sound.entries_right (first_in_order table setting text i l)).few))
    where
      go : {ps : List Piece} → All (λ (p : Piece). length p.signs ≤ entry_signs) ps → length (signs_of ps) ≤ entry_signs * length ps
      go empty = omega arith
      go (◌and◌ {x = p} {xs = ps} r rs) =
          let h = printed_at_most p.signs in
          let k = go rs in
          rw (length-append (printed p.signs) (signs_of ps)) (omega arith)
