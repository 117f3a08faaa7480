-- Any two answers that a promise allows are equal.
use Prim.Native.Nat.{ℕ}
use mathlib.Core.Path.{◌≡◌, sym, ◌∙◌}
use Rattle.table.specs.Promises.{Tells, RefusalNumber, RefusalPlace}
use Rattle.table.specs.declared.Refusal.{Refusal}

pub refusal_number_determined : {refusal : Refusal} {a b : ℕ} → RefusalNumber refusal a → RefusalNumber refusal b → a ≡ b
refusal_number_determined p q = p.is ∙ sym q.is

pub refusal_place_determined : {refusal : Refusal} {a b : ℕ} → RefusalPlace refusal a → RefusalPlace refusal b → a ≡ b
refusal_place_determined p q = p.is ∙ sym q.is

pub tells_determined : {A : Type 0} {value : A → ℕ} {of : A} {a b : ℕ} → Tells value of a → Tells value of b → a ≡ b
tells_determined p q = p.is ∙ sym q.is
