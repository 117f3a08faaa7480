-- Any two results that a promise allows are equal.
use Prim.Native.Nat.{ℕ}
use mathlib.Core.List.{List}
use mathlib.Core.Path.{◌≡◌}
use Rattle.form.specs.Calls.{Drawn, showing}
use Rattle.form.specs.Promises.{Ends}
use Rattle.form.proofs.Promises.{ends_determined}

pub show_determined : (image before : List ℕ) {a b : Drawn} {x y : List ℕ} → Ends (showing image before) a x → Ends (showing image before) b y
    → (a ≡ b) × (x ≡ y)
show_determined image before p q = ends_determined p q
