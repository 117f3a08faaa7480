-- What the functions inside this crate promise each other. No public promise rests on these definitions: they say what a call adds and what is still
-- to come, in the words of the definitions.
use Rattle.std.specs.Prelude.{ℕ, ◌+◌, ◌≤◌, List, [], ◌∷◌, ◌++◌, ◌≡◌, length, Option, option_to_list}
use Rattle.table.specs.Table.{Letter, Entry}
use Rattle.table.specs.inside.Wrote.{Wrote}
use Rattle.translation.specs.Collapse.{unbarred, thinned}
use Rattle.translation.specs.Pieces.{Piece, printed, signs_of}
use Rattle.translation.specs.declared.Counts.{Counts}
use Rattle.translation.specs.declared.piecing.Piece.{Piece as MadePiece}

-- ---- Writing

-- `xs` is written at place `n`, where there is room for it; `next` is the place after it
pub record WroteUntil (before : List ℕ) (n : ℕ) (xs after : List ℕ) (next : ℕ) : Type 0 where
  pub bytes : Wrote before n xs after
  pub place : next ≡ n + length xs
  pub room : next ≤ length before

-- ---- Collapsing

-- a lent character is taken: what is written for it, and then what is to come of any text after it, is what was to come of the character and that text
pub record Thins (c kept : ℕ) (written : Option ℕ) (next : ℕ) : Type 0 where
  pub whole : (text : List ℕ) → option_to_list written ++ thinned next (unbarred text) ≡ thinned kept (unbarred (c ∷ text))

-- ---- Pieces

-- a piece with this shift, class and signs is made: its signs are printed at the front
pub record Made (shift class : ℕ) (signs before after : List ℕ) (made : MadePiece) : Type 0 where
  pub shift_is : made.shift ≡ shift
  pub class_is : made.class ≡ class
  pub wrote : WroteUntil before 0 (printed signs) after made.signs

-- a piece is made by an entry, or by the record of a character alone
abbrev pub MadeByEntry : Entry → List ℕ → List ℕ → MadePiece → Type 0
MadeByEntry e before after made = Made e.shift e.class e.signs before after made

abbrev pub MadeByLetter : Letter → List ℕ → List ℕ → MadePiece → Type 0
MadeByLetter l before after made = Made 1 l.class (l.sign ∷ []) before after made

-- a piece is made as the definition has it
abbrev pub MadeAs : Piece → List ℕ → List ℕ → MadePiece → Type 0
MadeAs p before after made = Made p.shift p.class p.signs before after made

-- these pieces are all made: they are counted, and their signs stand at the front
pub record Consumed (pieces : List Piece) (before after : List ℕ) (counts : Counts) : Type 0 where
  pub counted : counts.pieces ≡ length pieces
  pub wrote : WroteUntil before 0 (signs_of pieces) after counts.signs
