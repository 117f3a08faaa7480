-- 'Each refusal is given exactly when its line holds and no earlier one does', for the lines of any call.
use Rattle.std.specs.Prelude.{ℕ, ◌<◌}

-- a line has the turn in which it is checked, and the number and the place that it gives. The line of this number and place holds, and no earlier one does
pub record FirstLine (Line : ℕ → ℕ → ℕ → Type 0) (number place : ℕ) : Type 0 where
  pub turn : ℕ
  pub line : Line turn number place
  pub none_before : (t n p : ℕ) → t < turn → Line t n p → ⊥
