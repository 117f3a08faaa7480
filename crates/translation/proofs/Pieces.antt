-- Along the pieces: each stands at the front of a rest that isn't empty, the first is given the text and the start states, and each next one what its
-- neighbour leaves. There are at most as many pieces as characters.
use Prim.Native.Nat.{ℕ, zero, suc, ◌≤◌, ◌<◌, suc-le-suc}
use mathlib.Core.List.{List, [], ◌∷◌}
use mathlib.Core.Option.{Option, none, some}
use mathlib.Core.Path.{◌≡◌, refl, sym, ◌∙◌, ap}
use native.Mathlib.Omega.{arith}
use lib.ListN.{length, drop}
use Rattle.table.specs.Table.{Table}
use Rattle.translation.specs.Collapse.{collapsed}
use Rattle.translation.specs.Decide.{States, moved, start_states}
use Rattle.translation.specs.Choose.{choice}
use Rattle.translation.specs.Pieces.{Piece, piece_by, front_piece, pieces_from, pieces_in, pieces_of}
use Rattle.translation.specs.Chosen.{piece, piece_in}
use Rattle.translation.specs.declared.Setting.{Setting}

-- the piece is given these states and this rest
pub record Given (now : States) (text : List ℕ) (p : Piece) : Type 0 where
  pub rest : p.rest ≡ text
  pub states : p.states ≡ now

module _ (table : Table) (setting : Setting) where
  -- ---- The front piece has the rest and the states that it was asked with

  pub front_rest : (now : States) (rest : List ℕ) → (front_piece table setting now rest).rest ≡ rest
  unfolding front_piece piece_by
  front_rest now rest = go (choice table setting now rest)
    where
      go : (o : Option ℕ) → (piece_by table now rest o).rest ≡ rest
      go none = refl
      go (some k) = refl

  pub front_states : (now : States) (rest : List ℕ) → (front_piece table setting now rest).states ≡ now
  unfolding front_piece piece_by
  front_states now rest = go (choice table setting now rest)
    where
      go : (o : Option ℕ) → (piece_by table now rest o).states ≡ now
      go none = refl
      go (some k) = refl

  -- ---- One piece

  -- the piece stands at the front of a rest that isn't empty
  pub record AtFront (p : Piece) : Type 0 where
    pub now : States
    pub front : ℕ
    pub after : List ℕ
    pub made : front_piece table setting now (front ∷ after) ≡ p

  at_front : (n : ℕ) (now : States) (rest : List ℕ) (i : ℕ) → i < length (pieces_from table setting n now rest)
      → AtFront (piece (pieces_from table setting n now rest) i)
  unfolding pieces_from
  at_front zero now rest i l = absurd (omega arith)
  at_front (suc n) now [] i l = absurd (omega arith)
  at_front (suc n) now (c ∷ rest) zero l = record { now = now; front = c; after = rest; made = refl }
  at_front (suc n) now (c ∷ rest) (suc i) l = at_front n _ _ i (omega arith)

  pub piece_at_front : (text : List ℕ) (i : ℕ) → i < length (pieces_in table setting text) → AtFront (piece_in table setting text i)
  unfolding pieces_in
  piece_at_front text = at_front (length text) (start_states table) text

  -- ---- The first piece, and two that follow each other

  -- `q` is given what `p` leaves
  abbrev pub NextGiven : Piece → Piece → Type 0
  NextGiven p q = Given (moved table p.class p.states) (drop p.shift p.rest) q

  given_first : (n : ℕ) (now : States) (rest : List ℕ) → 0 < length (pieces_from table setting n now rest)
      → Given now rest (piece (pieces_from table setting n now rest) 0)
  unfolding pieces_from
  given_first zero now rest l = absurd (omega arith)
  given_first (suc n) now [] l = absurd (omega arith)
  given_first (suc n) now (c ∷ rest) l = record { rest = front_rest now (c ∷ rest); states = front_states now (c ∷ rest) }

  given_next : (n : ℕ) (now : States) (rest : List ℕ) (i : ℕ) → suc i < length (pieces_from table setting n now rest)
      → NextGiven (piece (pieces_from table setting n now rest) i) (piece (pieces_from table setting n now rest) (suc i))
  unfolding pieces_from
  given_next zero now rest i l = absurd (omega arith)
  given_next (suc n) now [] i l = absurd (omega arith)
  given_next (suc n) now (c ∷ rest) zero l =
      let p = front_piece table setting now (c ∷ rest) in
      let g = given_first n (moved table p.class now) (drop p.shift (c ∷ rest)) (omega arith) in
      record {
        rest = g.rest ∙ ap (drop p.shift) (sym (front_rest now (c ∷ rest)));
        states = g.states ∙ ap (moved table p.class) (sym (front_states now (c ∷ rest)));
      }
  given_next (suc n) now (c ∷ rest) (suc i) l = given_next n _ _ i (omega arith)

  pub first_piece : (text : List ℕ) → 0 < length (pieces_in table setting text)
      → Given (start_states table) text (piece_in table setting text 0)
  unfolding pieces_in
  first_piece text = given_first (length text) (start_states table) text

  pub next_piece : (text : List ℕ) (i : ℕ) → suc i < length (pieces_in table setting text)
      → NextGiven (piece_in table setting text i) (piece_in table setting text (suc i))
  unfolding pieces_in
  next_piece text = given_next (length text) (start_states table) text

  -- ---- How many

  at_most : (n : ℕ) (now : States) (rest : List ℕ) → length (pieces_from table setting n now rest) ≤ n
  unfolding pieces_from
  at_most zero now rest = omega arith
  at_most (suc n) now [] = omega arith
  at_most (suc n) now (c ∷ rest) = suc-le-suc (at_most n _ _)

  pub pieces_at_most : (text : List ℕ) → length (pieces_in table setting text) ≤ length text
  unfolding pieces_in
  pieces_at_most text = at_most (length text) (start_states table) text

  pub pieces_at_most_collapsed : (text : List ℕ) → length (pieces_of table setting text) ≤ length (collapsed text)
  unfolding pieces_of
  pieces_at_most_collapsed text = pieces_at_most (collapsed text)
