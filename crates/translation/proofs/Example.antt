-- The twelve texts of document 01, translated by its table as lists: the pieces' characters and classes, and the signs. Then what the twelve don't
-- show, each from a sentence of document 01. All by computing.
use Prim.Native.Nat.{ℕ}
use Prim.Native.String.{String}
use mathlib.Core.List.{List, [], ◌∷◌, map}
use mathlib.Core.Option.{none, some}
use mathlib.Core.Path.{◌≡◌, refl}
use lib.ListN.{length}
use Rattle.table.specs.Numbers.{blank, latest_year}
use Rattle.table.specs.Table.{Table, Entry, Column}
use Rattle.table.specs.Example.{table, ascii, an_entry, a_column}
use Rattle.translation.specs.Collapse.{collapsed}
use Rattle.translation.specs.Letters.{first_unknown}
use Rattle.translation.specs.Pieces.{Piece, characters, pieces_of, signs_of}
use Rattle.translation.specs.inside.Computing.{computing}
use Rattle.translation.specs.declared.Setting.{Setting}

abbrev blank_follows : Setting
blank_follows = record { following = blank; year = latest_year }

-- ---- The twelve

-- a text, the characters of its pieces, the pieces' classes, and the signs
record Row : Type 0 where
  text : String
  spans : List String
  classes : List ℕ
  signs : List ℕ

row : String → List String → List ℕ → List ℕ → Row
row t s c g = record { text = t; spans = s; classes = c; signs = g }

twelve : List Row
twelve =
    row "" [] [] []
    ∷ row "COME" ("COM" ∷ "E" ∷ []) (4 ∷ 1 ∷ []) (36 ∷ 17 ∷ [])
    ∷ row "BECOME" ("B" ∷ "E" ∷ "C" ∷ "O" ∷ "M" ∷ "E" ∷ []) (1 ∷ 1 ∷ 1 ∷ 1 ∷ 1 ∷ 1 ∷ []) (3 ∷ 17 ∷ 9 ∷ 21 ∷ 13 ∷ 17 ∷ [])
    ∷ row "FULFUL" ("F" ∷ "U" ∷ "L" ∷ "FUL" ∷ []) (1 ∷ 1 ∷ 1 ∷ 5 ∷ []) (11 ∷ 37 ∷ 7 ∷ 48 ∷ 7 ∷ [])
    ∷ row "BLIND" ("BLIND" ∷ []) (4 ∷ []) (3 ∷ 7 ∷ [])
    ∷ row "BLINDED" ("B" ∷ "L" ∷ "I" ∷ "N" ∷ "D" ∷ "E" ∷ "D" ∷ []) (1 ∷ 1 ∷ 1 ∷ 1 ∷ 1 ∷ 1 ∷ 1 ∷ []) (3 ∷ 7 ∷ 10 ∷ 29 ∷ 25 ∷ 17 ∷ 25 ∷ [])
    ∷ row "A.   B" ("A" ∷ "." ∷ " " ∷ " " ∷ "B" ∷ []) (1 ∷ 3 ∷ 2 ∷ 2 ∷ 1 ∷ []) (1 ∷ 50 ∷ 0 ∷ 0 ∷ 3 ∷ [])
    ∷ row "AAAA AAA" ("A" ∷ "A" ∷ "A" ∷ "A" ∷ " " ∷ "A" ∷ "A" ∷ "A" ∷ []) (1 ∷ 1 ∷ 1 ∷ 1 ∷ 2 ∷ 1 ∷ 1 ∷ 1 ∷ []) (1 ∷ 1 ∷ 1 ∷ 1 ∷ 0 ∷ 1 ∷ 1 ∷ 1 ∷ [])
    ∷ row "AAAA AAAA" ("A" ∷ "A" ∷ "A" ∷ "A" ∷ " " ∷ "A" ∷ "A" ∷ "A" ∷ "A" ∷ []) (1 ∷ 1 ∷ 1 ∷ 1 ∷ 2 ∷ 1 ∷ 1 ∷ 1 ∷ 1 ∷ []) (1 ∷ 1 ∷ 1 ∷ 1 ∷ 0 ∷ 1 ∷ 1 ∷ 1 ∷ 1 ∷ [])
    ∷ row "A$S$SB" ("A" ∷ "$S" ∷ "$S" ∷ "B" ∷ []) (1 ∷ 2 ∷ 2 ∷ 1 ∷ []) (1 ∷ 70 ∷ 71 ∷ 70 ∷ 71 ∷ 3 ∷ [])
    ∷ row "$PA" ("$P" ∷ "A" ∷ []) (2 ∷ 1 ∷ []) (72 ∷ 1 ∷ [])
    ∷ row "$N$N" ("$N" ∷ "$N" ∷ []) (2 ∷ 2 ∷ []) (73 ∷ 73 ∷ []) ∷ []

abbrev Shown : Type 0
Shown = List (List ℕ) × List ℕ × List ℕ

translated : Row → Shown
translated r =
    let ps = pieces_of table blank_follows (ascii r.text) in (map characters ps, map (λ (p : Piece). p.class) ps, signs_of ps)

expected : Row → Shown
expected r = (map ascii r.spans, r.classes, r.signs)

twelve_translated : map translated twelve ≡ map expected twelve
unfolding computing row twelve translated expected
twelve_translated = refl

-- ---- Tables like the example's, with other entries or other decisions

with_entries : List Entry → Table
with_entries es =
    record {
      letters = table.letters;
      entries = es;
      contexts = table.contexts;
      transitions = table.transitions;
      decisions = table.decisions;
    }

with_decisions : List (List ℕ) → List Column → Table
with_decisions ts cs =
    record { letters = table.letters; entries = table.entries; contexts = table.contexts; transitions = ts; decisions = cs }

-- the signs of a text, and the number of its pieces
signs : Table → Setting → String → List ℕ × ℕ
signs t u s = let ps = pieces_of t u (ascii s) in (signs_of ps, length ps)

one : ℕ → List ℕ
one g = g ∷ 99 ∷ 99 ∷ 99 ∷ []

-- if CO stands before COM, same class and no context, COM is never used
earlier_entry_first :
    signs (with_entries (an_entry "CO" 0 1 2 (one 5) ∷ an_entry "COM" 0 1 3 (one 6) ∷ [])) blank_follows "COM" ≡ (5 ∷ 13 ∷ [], 2)
unfolding computing with_entries signs one
earlier_entry_first = refl

-- the right context is tested after the whole string and not after the shift; a piece takes shift characters
context_after_string :
    map (signs (with_entries (an_entry "COM" 1 1 2 (one 6) ∷ [])) blank_follows) ("COM." ∷ "COME" ∷ "CO.M" ∷ "COM" ∷ [])
    ≡ (6 ∷ 13 ∷ 50 ∷ [], 3) ∷ (9 ∷ 21 ∷ 13 ∷ 17 ∷ [], 4) ∷ (9 ∷ 21 ∷ 50 ∷ 13 ∷ [], 4) ∷ (6 ∷ 13 ∷ [], 2) ∷ []
unfolding computing with_entries signs one
context_after_string = refl

-- past the end of text stands the symbol that follows, and it is only looked at
following_looked_at :
    map (λ c. signs table (record { following = c; year = 65535 }) "BLIND") (ascii " E.") ≡ (3 ∷ 7 ∷ [], 1) ∷ (3 ∷ 7 ∷ 10 ∷ 29 ∷ 25 ∷ [], 5) ∷ (3 ∷ 7 ∷ [], 1) ∷ []
unfolding computing signs
following_looked_at = refl

-- with no decision column every entry is rejected; with no variable a column's conditions hold
no_column_no_variable :
    map (λ t. signs t blank_follows "FUL")
    (with_decisions table.transitions [] ∷ with_decisions [] (a_column "GGGNY" "" ∷ []) ∷ with_decisions [] (a_column "GGGNN" "" ∷ []) ∷ [])
    ≡ (11 ∷ 37 ∷ 7 ∷ [], 3) ∷ (48 ∷ 7 ∷ [], 1) ∷ (11 ∷ 37 ∷ 7 ∷ [], 3) ∷ []
unfolding computing with_decisions signs
no_column_no_variable = refl

-- F rejects, T turns the state to the other: AAB with B's class contracted only where the state is no
reject_and_turn :
    map (signs (with_decisions (ascii "T--T-" ∷ []) (a_column "---FN" "Y" ∷ a_column "----G" "-" ∷ [])) blank_follows) ("COM" ∷ "FUL" ∷ "AFUL" ∷ "AAFUL" ∷ [])
    ≡ (9 ∷ 21 ∷ 13 ∷ [], 3) ∷ (48 ∷ 7 ∷ [], 1) ∷ (1 ∷ 11 ∷ 37 ∷ 7 ∷ [], 4) ∷ (1 ∷ 1 ∷ 48 ∷ 7 ∷ [], 3) ∷ []
unfolding computing with_decisions signs
reject_and_turn = refl

-- ---- Collapsing, in the paper's two steps, and the first unknown character in the text as lent

collapsing :
    map (λ s. collapsed (ascii s)) ("  A" ∷ "A.|   B" ∷ "A |\n B" ∷ "A.\n\n\nB" ∷ ". | .\n" ∷ "|" ∷ [])
    ≡ map ascii (" A" ∷ "A.  B" ∷ "A B" ∷ "A.  B" ∷ ".  . " ∷ "" ∷ [])
unfolding computing
collapsing = refl

unknown_in_text_as_lent :
    map (λ s. first_unknown table.letters (ascii s)) ("A|a" ∷ "A \n |  x" ∷ "A|\n" ∷ "\r" ∷ "A\t" ∷ [])
    ≡ some 2 ∷ some 7 ∷ none ∷ some 0 ∷ some 1 ∷ []
unfolding computing
unknown_in_text_as_lent = refl
