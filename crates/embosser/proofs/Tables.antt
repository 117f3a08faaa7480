-- A table of 256 that is filled one entry after the other. Each entry has its turn; the first `n` turns gave their entries the definition's value, and
-- the entries whose turn is yet to come hold the number that the table was made of.
use Prim.Native.Nat.{ℕ, ◌+◌, ◌≤◌, ◌<◌}
use mathlib.Core.List.{List}
use mathlib.Core.Path.{◌≡◌, refl, ◌∙◌, ap}
use native.Mathlib.Decide.{ℕ_discrete, dec_lt}
use native.Mathlib.Omega.{arith}
use lib.ListN.{length, get_or, set, replicate, length-set, get_or-replicate}
use lib.Seq.{get_or-set_same, get_or-set_other}
use Rattle.embosser.specs.inside.Tables.{Holds}

-- entry `b` has its turn after `turn b` others
pub record Filled (turn f : ℕ → ℕ) (other n : ℕ) (table : List ℕ) : Type 0 where
  pub size : length table ≡ 256
  pub passed : (b : ℕ) → b < 256 → turn b < n → get_or table b 0 ≡ f b
  pub left : (b : ℕ) → b < 256 → n ≤ turn b → get_or table b 0 ≡ other

module _ {turn f : ℕ → ℕ} {other : ℕ} where
  pub filled_none : Filled turn f other 0 (replicate 256 other)
  filled_none = record { size = refl; passed = λ b l t. absurd (omega arith); left = λ b l t. get_or-replicate 256 b other 0 l }

  -- the turn of `at`, which it has alone
  pub filled_more : {n : ℕ} {table : List ℕ} (at value : ℕ) → at < 256 → turn at ≡ n → ((b : ℕ) → turn b ≡ n → b ≡ at) → value ≡ f at
      → Filled turn f other n table → Filled turn f other (n + 1) (set table at value)
  filled_more {n} {table} at value there its alone is so_far =
      record {
        size = length-set table at value ∙ so_far.size;
        passed = λ b l t. go b l t (ℕ_discrete b at);
        left = λ b l t. get_or-set_other table at b value 0 (λ e. let its_turn : turn b ≡ n = ap turn e ∙ its in omega arith) ∙ so_far.left b l (omega arith);
      }
    where
      go : (b : ℕ) → b < 256 → turn b < n + 1 → Dec (b ≡ at) → get_or (set table at value) b 0 ≡ f b
      go b l t (yes e) = rw e (get_or-set_same table at value 0 (rw so_far.size there) ∙ is)
      go b l t (no d) = get_or-set_other table at b value 0 d ∙ so_far.passed b l (let not_its : turn b ≡ n → ⊥ = λ e. d (alone b e) in omega arith)

  -- where the entries that are left are right as they are, the table is
  pub filled_all : {n : ℕ} {table : List ℕ} → ((b : ℕ) → b < 256 → n ≤ turn b → other ≡ f b) → Filled turn f other n table → Holds f table
  filled_all {n} {table} right so_far = record { size = so_far.size; values = λ b l. go b l (dec_lt (turn b) n) }
    where
      go : (b : ℕ) → b < 256 → Dec (turn b < n) → get_or table b 0 ≡ f b
      go b l (yes t) = so_far.passed b l t
      go b l (no t) = so_far.left b l (omega arith) ∙ right b l (omega arith)
