-- 'Translation': the pieces of a collapsed text, front to back, and the signs that they print.
use Rattle.std.specs.Prelude.{ℕ, zero, suc, true, false, cond, List, [], ◌∷◌, ◌++◌, length, get_or, take, drop, eqb}
use Rattle.std.proofs.Math.Option.{Option, none, some}
use Rattle.table.specs.Numbers.{blank, blank_cell, other_blank, no_cell}
use Rattle.table.specs.Table.{Table}
use Rattle.translation.specs.Collapse.{collapsed}
use Rattle.translation.specs.Letters.{letter_for}
use Rattle.translation.specs.Decide.{States, start_states, moved}
use Rattle.translation.specs.Choose.{choice, entry}
use Rattle.translation.specs.declared.Setting.{Setting}

-- a piece: the rest of the text and the states before it, the entry chosen there, if any, how many characters it takes, its class and its signs
pub record Piece : Type 0 where
  pub rest : List ℕ
  pub states : States
  pub chosen : Option ℕ
  pub shift : ℕ
  pub class : ℕ
  pub signs : List ℕ

-- the characters of a piece
unfoldable pub characters : Piece → List ℕ
characters p = take p.shift p.rest

-- an entry gives a piece of shift characters and its signs; with none, the character's alphabet record gives a piece of one
unfoldable pub piece_by : Table → States → List ℕ → Option ℕ → Piece
piece_by table now rest none =
    let l = letter_for table.letters (get_or rest 0 blank) in
    record { rest = rest; states = now; chosen = none; shift = 1; class = l.class; signs = l.sign ∷ [] }
piece_by table now rest (some k) =
    let e = entry table k in
    record { rest = rest; states = now; chosen = some k; shift = e.shift; class = e.class; signs = e.signs }

-- the piece at the front of the rest: the decision table is asked with the states before it
unfoldable pub front_piece : Table → Setting → States → List ℕ → Piece
front_piece table setting now rest = piece_by table now rest (choice table setting now rest)

-- the pieces from here on, at most `n`
unfoldable pub pieces_from : Table → Setting → ℕ → States → List ℕ → List Piece
pieces_from table setting zero now rest = []
pieces_from table setting (suc n) now [] = []
pieces_from table setting (suc n) now (c ∷ rest) =
    let p = front_piece table setting now (c ∷ rest) in
    p ∷ pieces_from table setting n (moved table p.class now) (drop p.shift (c ∷ rest))

-- the pieces of a collapsed text: each takes a character, so as many as it has are enough
unfoldable pub pieces_in : Table → Setting → List ℕ → List Piece
pieces_in table setting text = pieces_from table setting (length text) (start_states table) text

-- ---- Signs: 99 prints nothing, and 64 is the blank

unfoldable pub printed : List ℕ → List ℕ
printed [] = []
printed (g ∷ signs) = elim (eqb g no_cell) [ true ↦ printed signs | false ↦ cond (eqb g other_blank) blank_cell g ∷ printed signs ]

unfoldable pub signs_of : List Piece → List ℕ
signs_of [] = []
signs_of (p ∷ ps) = printed p.signs ++ signs_of ps

-- the pieces of a text as lent
unfoldable pub pieces_of : Table → Setting → List ℕ → List Piece
pieces_of table setting text = pieces_in table setting (collapsed text)
