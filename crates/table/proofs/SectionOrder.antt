-- Sections by their number in image order: the number of a section is how many lie before it.
use Prim.Native.Nat.{ℕ, zero, suc, ◌<◌}
use mathlib.Core.Path.{◌≡◌, refl}
use native.Mathlib.Omega.{arith}
use Rattle.table.specs.Records.{SectionName, alphabet, contractions, contexts, transitions, decisions, name_at}
use Rattle.table.specs.Refusals.{sections_before}

pub named_by_number : (name : SectionName) → name_at (sections_before name) ≡ name
named_by_number alphabet = refl
named_by_number contractions = refl
named_by_number contexts = refl
named_by_number transitions = refl
named_by_number decisions = refl

pub number_below : (name : SectionName) → sections_before name < 5
number_below alphabet = omega arith
number_below contractions = omega arith
number_below contexts = omega arith
number_below transitions = omega arith
number_below decisions = omega arith

pub numbered_by_name : (i : ℕ) → i < 5 → sections_before (name_at i) ≡ i
numbered_by_name zero l = refl
numbered_by_name (suc zero) l = refl
numbered_by_name (suc (suc zero)) l = refl
numbered_by_name (suc (suc (suc zero))) l = refl
numbered_by_name (suc (suc (suc (suc zero)))) l = refl
numbered_by_name (suc (suc (suc (suc (suc i))))) l = absurd (omega arith)

-- a section that is none of the first four is the last
pub last_name : (i : ℕ) → (i ≡ 0 → ⊥) → (i ≡ 1 → ⊥) → (i ≡ 2 → ⊥) → (i ≡ 3 → ⊥) → name_at i ≡ decisions
last_name zero a b c d = absurd (a refl)
last_name (suc zero) a b c d = absurd (b refl)
last_name (suc (suc zero)) a b c d = absurd (c refl)
last_name (suc (suc (suc zero))) a b c d = absurd (d refl)
last_name (suc (suc (suc (suc zero)))) a b c d = refl
last_name (suc (suc (suc (suc (suc i))))) a b c d = refl
