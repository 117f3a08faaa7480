-- Any two results that the promise allows are equal: the answer and every lent byte.
use Prim.Native.Nat.{ℕ}
use mathlib.Core.List.{List}
use mathlib.Core.Path.{◌≡◌, sym, ◌∙◌}
use Rattle.translation.specs.Handed.{Translation}
use Rattle.translation.specs.Promises.{Translated}
use Rattle.translation.specs.declared.Terms.{Terms}

pub translate_determined : {terms : Terms} {image text before : List ℕ} {a b : Translation} {x y : List ℕ} → Translated terms image text before a x
    → Translated terms image text before b y → (a ≡ b) × (x ≡ y)
translate_determined p q = (p.answers ∙ sym q.answers, p.leaves ∙ sym q.leaves)
