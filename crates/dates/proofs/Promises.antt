-- Any two results that a promise allows are equal.
use Prim.Native.Nat.{ℕ}
use mathlib.Core.List.{List}
use mathlib.Core.Path.{◌≡◌, sym, ◌∙◌}
use Rattle.table.proofs.Promises.{tells_determined}
use Rattle.dates.specs.Moving.{Moved, Outcome, dating, undating}
use Rattle.dates.specs.Promises.{Ends, Tells}

ends_determined : {outcome : Outcome} {a b : Moved} {x y : List ℕ} → Ends outcome a x → Ends outcome b y → (a ≡ b) × (x ≡ y)
ends_determined p q = (p.answers ∙ sym q.answers, p.leaves ∙ sym q.leaves)

pub date_determined : (image before : List ℕ) {a b : Moved} {x y : List ℕ} → Ends (dating image before) a x → Ends (dating image before) b y
    → (a ≡ b) × (x ≡ y)
date_determined image before p q = ends_determined p q

pub undate_determined : (image before : List ℕ) {a b : Moved} {x y : List ℕ} → Ends (undating image before) a x → Ends (undating image before) b y
    → (a ≡ b) × (x ≡ y)
undate_determined image before p q = ends_determined p q

-- the number, the place and the bytes written of an answer
pub value_determined : {value : Moved → ℕ} {answer : Moved} {a b : ℕ} → Tells value answer a → Tells value answer b → a ≡ b
value_determined = tells_determined
