-- The characters of the pieces, joined, are the text: nothing is skipped and nothing taken twice. The idea: a piece takes the first characters of its
-- rest, as many as its shift, and the next piece is given what is left; a sound table's shifts are at least 1, so as many pieces as characters are enough.
use Prim.Native.Nat.{ℕ, zero, suc, ◌≤◌, ◌<◌}
use mathlib.Core.List.{List, [], ◌∷◌, ◌++◌, map, flatten, append_assoc}
use mathlib.Core.Path.{◌≡◌, refl, ◌∙◌, ap}
use native.Mathlib.Omega.{arith}
use lib.ListN.{length, take, drop, length-drop, take-append-drop}
use Rattle.table.specs.Table.{Table}
use Rattle.table.specs.Sound.{Sound}
use Rattle.translation.specs.Decide.{States, start_states, moved}
use Rattle.translation.specs.Pieces.{characters, front_piece, pieces_from, pieces_in}
use Rattle.translation.specs.Chosen.{piece, piece_in}
use Rattle.translation.specs.declared.Setting.{Setting}
use Rattle.translation.proofs.Pieces.{front_rest, next_piece}
use Rattle.translation.proofs.Chosen.{front_fits}

module _ (table : Table) (setting : Setting) where
  -- ---- What the front piece takes and leaves is its rest

  front_and_left : (now : States) (rest : List ℕ)
      → characters (front_piece table setting now rest) ++ drop (front_piece table setting now rest).shift rest ≡ rest
  unfolding characters
  front_and_left now rest = rw (front_rest table setting now rest) (take-append-drop (front_piece table setting now rest).shift rest)

  -- ---- All pieces

  pub consumed : {classes variables : ℕ} → Sound classes variables table → (text : List ℕ) → flatten (map characters (pieces_in table setting text)) ≡ text
  unfolding pieces_in pieces_from flatten
  consumed sound text = go (length text) (start_states table) text (omega arith)
    where
      go : (n : ℕ) (now : States) (rest : List ℕ) → length rest ≤ n → flatten (map characters (pieces_from table setting n now rest)) ≡ rest
      go zero now [] h = refl
      go zero now (c ∷ rest) h = absurd (omega arith)
      go (suc n) now [] h = refl
      go (suc n) now (c ∷ rest) h =
          let p = front_piece table setting now (c ∷ rest) in
          let f = front_fits table setting sound.entries_right now (c ∷ rest) (omega arith) in
          let shorter : length (drop p.shift (c ∷ rest)) ≤ n = rw (length-drop p.shift (c ∷ rest)) (omega arith) in
          ap (λ (l : List ℕ). characters p ++ l) (go n (moved table p.class now) (drop p.shift (c ∷ rest)) shorter)
          ∙ front_and_left now (c ∷ rest)

  -- ---- Piece by piece

  -- the characters of the pieces before this one, and then its rest, are the text
  pub consumed_by_piece : (text : List ℕ) (i : ℕ) → i < length (pieces_in table setting text)
      → flatten (map characters (take i (pieces_in table setting text))) ++ (piece_in table setting text i).rest ≡ text
  unfolding pieces_in pieces_from flatten
  consumed_by_piece text i l = go (length text) (start_states table) text i l
    where
      go : (n : ℕ) (now : States) (rest : List ℕ) (i : ℕ) → i < length (pieces_from table setting n now rest)
          → flatten (map characters (take i (pieces_from table setting n now rest))) ++ (piece (pieces_from table setting n now rest) i).rest ≡ rest
      go zero now rest i l = absurd (omega arith)
      go (suc n) now [] i l = absurd (omega arith)
      go (suc n) now (c ∷ rest) zero l = front_rest table setting now (c ∷ rest)
      go (suc n) now (c ∷ rest) (suc i) l =
          let p = front_piece table setting now (c ∷ rest) in
          rw (append_assoc, go n (moved table p.class now) (drop p.shift (c ∷ rest)) i (omega arith)) (front_and_left now (c ∷ rest))

  -- the next piece is given what this one leaves
  pub rest_of_next : (text : List ℕ) (i : ℕ) → suc i < length (pieces_in table setting text)
      → (piece_in table setting text (suc i)).rest ≡ drop (piece_in table setting text i).shift (piece_in table setting text i).rest
  rest_of_next text i l = (next_piece table setting text i l).rest
