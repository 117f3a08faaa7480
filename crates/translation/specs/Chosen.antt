-- What a piece is by: 'The first admissible entry in table order gives a piece of shift characters and its signs. With none, the character's alphabet
-- record gives a piece of one.'
use Rattle.std.specs.Prelude.{ℕ, ◌<◌, List, [], ◌∷◌, ◌≡◌, length, get_or}
use Rattle.std.proofs.Math.Option.{none, some}
use Rattle.table.specs.Table.{Table}
use Rattle.translation.specs.Letters.{letter_for}
use Rattle.translation.specs.Choose.{entry}
use Rattle.translation.specs.Pieces.{Piece, characters, pieces_in}
use Rattle.translation.specs.Admissible.{Admissible}
use Rattle.translation.specs.declared.Setting.{Setting}

-- what stands for a piece past the last
abbrev pub no_piece : Piece
no_piece = record { rest = []; states = []; chosen = none; shift = 0; class = 0; signs = [] }

abbrev pub piece : List Piece → ℕ → Piece
piece pieces i = get_or pieces i no_piece

-- piece number `i` of a collapsed text, counted from 0
abbrev pub piece_in : Table → Setting → List ℕ → ℕ → Piece
piece_in table setting text i = piece (pieces_in table setting text) i

-- the piece is by entry `k`: it is admissible, no earlier one is, and the piece has its shift, class and signs
pub record ByEntry (table : Table) (setting : Setting) (p : Piece) (k : ℕ) : Type 0 where
  pub there : k < length table.entries
  pub admitted : Admissible table setting p.states p.rest (entry table k)
  pub none_earlier : (j : ℕ) → j < k → Admissible table setting p.states p.rest (entry table j) → ⊥
  pub shift : p.shift ≡ (entry table k).shift
  pub class : p.class ≡ (entry table k).class
  pub signs : p.signs ≡ (entry table k).signs

-- the piece is by the alphabet record of the character at the front of its rest: no entry is admissible, and the piece is that character alone
pub record ByLetter (table : Table) (setting : Setting) (p : Piece) : Type 0 where
  pub none_admissible : (j : ℕ) → j < length table.entries → Admissible table setting p.states p.rest (entry table j) → ⊥
  pub front : ℕ
  pub after : List ℕ
  pub rest : p.rest ≡ front ∷ after
  pub shift : p.shift ≡ 1
  pub one : characters p ≡ front ∷ []
  pub class : p.class ≡ (letter_for table.letters front).class
  pub sign : p.signs ≡ (letter_for table.letters front).sign ∷ []

pub record Chosen (table : Table) (setting : Setting) (p : Piece) : Type 0 where
  pub by_entry : (k : ℕ) → p.chosen ≡ some k → ByEntry table setting p k
  pub by_letter : p.chosen ≡ none → ByLetter table setting p
