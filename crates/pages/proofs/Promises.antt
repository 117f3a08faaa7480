-- Any two results that a promise allows are equal.
use Prim.Native.Nat.{ℕ}
use mathlib.Core.List.{List}
use mathlib.Core.Path.{◌≡◌, sym, ◌∙◌}
use Rattle.std.specs.Prelude.{Result}
use Rattle.table.specs.Answers.{Verdict}
use Rattle.table.specs.declared.Refusal.{Refusal}
use Rattle.pages.specs.Promises.{SheetVerdict, Fills}
use Rattle.pages.specs.declared.Filled.{Filled}
use Rattle.pages.specs.declared.Sheet.{Sheet}

pub sheet_verdict_determined : {sheet : Sheet} {a b : Verdict} → SheetVerdict sheet a → SheetVerdict sheet b → a ≡ b
sheet_verdict_determined p q = p.is ∙ sym q.is

pub fill_determined : {signs : List ℕ} {n : ℕ} {sheet : Sheet} {before : List ℕ} {a b : Result Filled Refusal} {x y : List ℕ} → Fills signs n sheet before a x
    → Fills signs n sheet before b y → (a ≡ b) × (x ≡ y)
fill_determined p q = (p.answers ∙ sym q.answers, p.leaves ∙ sym q.leaves)
