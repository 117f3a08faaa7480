-- Any two results that a promise allows are equal.
use Prim.Native.Nat.{ℕ}
use mathlib.Core.List.{List}
use mathlib.Core.Path.{◌≡◌, sym, ◌∙◌}
use Rattle.table.specs.Promises.{Tells}
use Rattle.inkprint.specs.Promises.{Inks, Sources}
use Rattle.inkprint.specs.Calls.{Inked}

pub mark_determined : {text before : List ℕ} {a b : Inked} {x y : List ℕ} → Inks text before a x → Inks text before b y → (a ≡ b) × (x ≡ y)
mark_determined p q = (p.answers ∙ sym q.answers, p.leaves ∙ sym q.leaves)

pub source_determined : {text : List ℕ} {n a b : ℕ} → Sources text n a → Sources text n b → a ≡ b
source_determined p q = p.is ∙ sym q.is

-- the three values of an answer
pub value_determined : {value : Inked → ℕ} {inked : Inked} {a b : ℕ} → Tells value inked a → Tells value inked b → a ≡ b
value_determined p q = p.is ∙ sym q.is
