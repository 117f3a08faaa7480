-- Any two results that a promise allows are equal.
use Prim.Native.Nat.{ℕ}
use mathlib.Core.List.{List}
use mathlib.Core.Path.{◌≡◌, sym, ◌∙◌}
use Rattle.table.proofs.Promises.{tells_determined}
use Rattle.pages.specs.declared.Sheet.{Sheet}
use Rattle.embosser.specs.Promises.{Files, Tells}
use Rattle.embosser.specs.declared.Kind.{Kind}
use Rattle.embosser.specs.Filing.{Filed}

-- `write_file`, `read_file`
pub files_determined : {kind : Kind} {sheet : Sheet} {bytes before : List ℕ} {a b : Filed} {l m : List ℕ} → Files kind sheet bytes before a l
    → Files kind sheet bytes before b m → (a ≡ b) × (l ≡ m)
files_determined p q = (p.answers ∙ sym q.answers, p.leaves ∙ sym q.leaves)

-- the number, the place and the bytes written of an answer
pub value_determined : {value : Filed → ℕ} {answer : Filed} {a b : ℕ} → Tells value answer a → Tells value answer b → a ≡ b
value_determined = tells_determined
