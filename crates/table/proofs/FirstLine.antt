-- 'Each refusal is given exactly when its line holds and no earlier one does', for the lines of any call. A call shows what its answer tells, and that two
-- lines of one turn give one number and place; then the first line is one, and the answer gives it.
use Prim.Native.Nat.{ℕ, suc, ◌<◌}
use mathlib.Core.Logic.{◌↔◌}
use mathlib.Core.Path.{◌≡◌, subst, subst₂}
use native.Mathlib.Decide.{dec_lt}
use native.Mathlib.Omega.{arith}
use Rattle.table.specs.Numbers.{number_done}
use Rattle.table.specs.FirstLine.{FirstLine}

module _ (Line : ℕ → ℕ → ℕ → Type 0) where
  -- no line holds before this turn
  abbrev pub NoneBefore : ℕ → Type 0
  NoneBefore turn = (t n p : ℕ) → t < turn → Line t n p → ⊥

  -- nor does the line of the turn itself
  pub none_before_next : (turn : ℕ) → NoneBefore turn → ((n p : ℕ) → Line turn n p → ⊥) → NoneBefore (suc turn)
  none_before_next turn before here t n p h l = go (dec_lt t turn)
    where
      go : Dec (t < turn) → ⊥
      go (yes x) = before t n p x l
      go (no d) = let e : t ≡ turn = omega arith in here n p (subst (λ (k : ℕ). Line k n p) e l)

  -- where none holds before it, the line of a turn gives one number and place
  abbrev pub OneLine : Type 0
  OneLine = (t m p n q : ℕ) → NoneBefore t → Line t m p → Line t n q → (m ≡ n) × (p ≡ q)

  -- what an answer with this number and place tells: the line that holds first, or that none does
  pub data Told (number place : ℕ) : Type 0 where
    told_refused : 0 < number → FirstLine Line number place → Told number place
    told_done : number ≡ number_done → ((t n p : ℕ) → Line t n p → ⊥) → Told number place

  first_is_one : OneLine → {m p n q : ℕ} → FirstLine Line m p → FirstLine Line n q → (m ≡ n) × (p ≡ q)
  first_is_one one {m} {p} {n} {q} a b = go (dec_lt a.turn b.turn) (dec_lt b.turn a.turn)
    where
      go : Dec (a.turn < b.turn) → Dec (b.turn < a.turn) → (m ≡ n) × (p ≡ q)
      go (yes x) d = absurd (b.none_before a.turn m p x a.line)
      go (no c) (yes y) = absurd (a.none_before b.turn n q y b.line)
      go (no c) (no d) =
          let e : b.turn ≡ a.turn = omega arith in
          one a.turn m p n q a.none_before a.line (subst (λ (t : ℕ). Line t n q) e b.line)

  pub refused_exactly_when : OneLine → {number place : ℕ} → Told number place → (n p : ℕ) → 0 < n
      → ((number ≡ n) × (place ≡ p)) ↔ FirstLine Line n p
  refused_exactly_when one {number} {place} told n p h = (forth told, back told)
    where
      forth : Told number place → (number ≡ n) × (place ≡ p) → FirstLine Line n p
      forth (told_refused x f) e = subst₂ (FirstLine Line) e.0 e.1 f
      forth (told_done d none) e = let x = e.0 in absurd (omega arith)

      back : Told number place → FirstLine Line n p → (number ≡ n) × (place ≡ p)
      back (told_refused x f) g = first_is_one one f g
      back (told_done d none) g = absurd (none g.turn n p g.line)

  pub done_exactly_when : {number place : ℕ} → Told number place → (number ≡ number_done) ↔ ((t n p : ℕ) → Line t n p → ⊥)
  done_exactly_when {number} {place} told = (forth told, back told)
    where
      forth : Told number place → number ≡ number_done → (t n p : ℕ) → Line t n p → ⊥
      forth (told_refused x f) e = absurd (omega arith)
      forth (told_done d none) e = none

      back : Told number place → ((t n p : ℕ) → Line t n p → ⊥) → number ≡ number_done
      back (told_refused x f) none = absurd (none f.turn number place f.line)
      back (told_done d n) none = d
