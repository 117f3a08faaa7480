-- The lines of a text, from a place on: where the one that starts there ends, and that it and the lines after its end are the lines from there on.
use Prim.Native.Nat.{ℕ, suc, ◌+◌, ◌≤◌, ◌<◌}
use mathlib.Core.Bool.{Bool, true, false}
use mathlib.Core.List.{List, [], ◌∷◌}
use mathlib.Core.Path.{◌≡◌, refl, sym, ◌∙◌, ap}
use native.Mathlib.Decide.{dec_lt}
use native.Mathlib.Nat.{add-zero}
use native.Mathlib.Numerals.{add-one}
use native.Mathlib.Omega.{arith}
use lib.Dec.{leb, eqb}
use lib.ListN.{length, get_or, take, drop, length-drop, drop_of_length-le}
use lib.Seq.{drop-cons, drop-drop, take_all}
use borrow.Author.Tests.{le-leb, lt-leb, eq-eqb, ne_eqb}
use Rattle.form.specs.Numbers.{line_feed}
use Rattle.form.specs.Reading.{on_first, lines_of}
use Rattle.tables.specs.inside.Lines.{first_line, line_end}

-- ---- Where a line ends

module _ (text : List ℕ) (i : ℕ) where
  pub end_here : i < length text → get_or text i 0 ≡ line_feed → line_end text i ≡ i
  unfolding line_end first_line
  end_here h e = rw (drop-cons text i 0 h, eq-eqb (get_or text i 0) line_feed e, first_line) (add-zero i)

  pub end_on : i < length text → (get_or text i 0 ≡ line_feed → ⊥) → line_end text i ≡ line_end text (i + 1)
  unfolding line_end first_line
  end_on h n = rw (drop-cons text i 0 h, ne_eqb (get_or text i 0) line_feed n, first_line, add-one i) (omega arith)

  pub end_over : length text ≤ i → line_end text i ≡ i
  unfolding line_end first_line
  end_over l = rw (drop_of_length-le text l) (add-zero i)

-- ---- The first line and the others

pub first_within : (rest : List ℕ) → first_line rest ≤ length rest
unfolding first_line
first_within [] = omega arith
first_within (c ∷ cs) = go (eqb c line_feed) (first_within cs)
  where
    go : (feed : Bool) → first_line cs ≤ length cs → elim feed [ true ↦ 0 | false ↦ suc (first_line cs) ] ≤ suc (length cs)
    go true h = omega arith
    go false h = omega arith

-- no line feed: the only line
lines_only : (rest : List ℕ) → first_line rest ≡ length rest → lines_of rest ≡ rest ∷ []
unfolding lines_of first_line on_first
lines_only [] e = refl
lines_only (c ∷ cs) e = go (eqb c line_feed) e (lines_only cs)
  where
    go : (feed : Bool) → elim feed [ true ↦ 0 | false ↦ suc (first_line cs) ] ≡ suc (length cs) → (first_line cs ≡ length cs → lines_of cs ≡ cs ∷ [])
        → elim feed [ true ↦ [] ∷ lines_of cs | false ↦ on_first c (lines_of cs) ] ≡ (c ∷ cs) ∷ []
    go true e later = absurd (omega arith)
    go false e later = rw (later (omega arith)) refl

-- a line feed: the line before it, and the lines after it
lines_first : (rest : List ℕ) → first_line rest < length rest → lines_of rest ≡ take (first_line rest) rest ∷ lines_of (drop (suc (first_line rest)) rest)
unfolding lines_of first_line on_first
lines_first [] h = absurd (omega arith)
lines_first (c ∷ cs) h = go (eqb c line_feed) h (lines_first cs)
  where
    go : (feed : Bool) → elim feed [ true ↦ 0 | false ↦ suc (first_line cs) ] < suc (length cs)
        → (first_line cs < length cs → lines_of cs ≡ take (first_line cs) cs ∷ lines_of (drop (suc (first_line cs)) cs))
        → elim feed [ true ↦ [] ∷ lines_of cs | false ↦ on_first c (lines_of cs) ]
        ≡ take (elim feed [ true ↦ 0 | false ↦ suc (first_line cs) ]) (c ∷ cs) ∷ lines_of (drop (suc (elim feed [ true ↦ 0 | false ↦ suc (first_line cs) ])) (c ∷ cs))
    go true h later = refl
    go false h later = rw (later (omega arith)) refl

-- ---- The lines from a place on, none past the end

unfoldable pub lines_left : List ℕ → ℕ → List (List ℕ)
lines_left text at = elim (leb at (length text)) [ true ↦ lines_of (drop at text) | false ↦ [] ]

module _ (text : List ℕ) (at : ℕ) where
  pub left_from : at ≤ length text → lines_left text at ≡ lines_of (drop at text)
  unfolding lines_left
  left_from h = rw (le-leb at (length text) h, lines_left)

  pub left_none : length text < at → lines_left text at ≡ []
  unfolding lines_left
  left_none h = rw (lt-leb at (length text) h, lines_left)

-- the line that starts there, and the lines after its end
module _ (text : List ℕ) (at : ℕ) where
  pub left_line : at ≤ length text → lines_left text at ≡ take (first_line (drop at text)) (drop at text) ∷ lines_left text (line_end text at + 1)
  unfolding line_end
  left_line h = left_from text at h ∙ go (dec_lt (first_line (drop at text)) (length (drop at text)))
    where
      go : Dec (first_line (drop at text) < length (drop at text))
          → lines_of (drop at text) ≡ take (first_line (drop at text)) (drop at text) ∷ lines_left text (at + first_line (drop at text) + 1)
      go (yes l) =
          let size = length-drop at text in
          let further : at + suc (first_line (drop at text)) ≡ at + first_line (drop at text) + 1 = omega arith in
          let later : drop (suc (first_line (drop at text))) (drop at text) ≡ drop (at + first_line (drop at text) + 1) text =
          drop-drop (suc (first_line (drop at text))) at text ∙ ap (λ (n : ℕ). drop n text) further in
          lines_first (drop at text) l
          ∙ ap (λ (r : List ℕ). take (first_line (drop at text)) (drop at text) ∷ lines_of r) later
          ∙ ap (λ (ls : List (List ℕ)). take (first_line (drop at text)) (drop at text) ∷ ls) (sym (left_from text (at + first_line (drop at text) + 1) (omega arith)))
      go (no n) =
          let size = length-drop at text in
          let within = first_within (drop at text) in
          let all : first_line (drop at text) ≡ length (drop at text) = omega arith in
          lines_only (drop at text) all
          ∙ ap (λ (l : List ℕ). l ∷ []) (sym (take_all (first_line (drop at text)) (drop at text) (omega arith)))
          ∙ ap (λ (ls : List (List ℕ)). take (first_line (drop at text)) (drop at text) ∷ ls) (sym (left_none text (at + first_line (drop at text) + 1) (omega arith)))
