-- Any two results that a promise allows are equal.
use Prim.Native.Nat.{ℕ}
use mathlib.Core.List.{List}
use mathlib.Core.Path.{◌≡◌, sym, ◌∙◌}
use Rattle.table.proofs.Promises.{tells_determined}
use Rattle.translation.specs.declared.Setting.{Setting}
use Rattle.layout.specs.Promises.{Embossed, Tells}
use Rattle.layout.specs.Emboss.{Answer}
use Rattle.pages.specs.declared.Sheet.{Sheet}

pub emboss_determined : {setting : Setting} {image text : List ℕ} {sheet : Sheet} {before : List ℕ} {a b : Answer} {x y : List ℕ} → Embossed setting image text sheet before a x
    → Embossed setting image text sheet before b y → (a ≡ b) × (x ≡ y)
emboss_determined p q = (p.answers ∙ sym q.answers, p.leaves ∙ sym q.leaves)

-- the number, the place and the counts of an answer
pub value_determined : {value : Answer → ℕ} {answer : Answer} {a b : ℕ} → Tells value answer a → Tells value answer b → a ≡ b
value_determined = tells_determined
