-- Any two results that a promise allows are equal.
use Prim.Native.Nat.{ℕ}
use mathlib.Core.List.{List}
use mathlib.Core.Path.{◌≡◌}
use Rattle.form.specs.Calls.{Drawn, making}
use Rattle.form.specs.Promises.{Ends}
use Rattle.form.proofs.Promises.{ends_determined}

pub make_determined : (text before : List ℕ) {a b : Drawn} {x y : List ℕ} → Ends (making text before) a x → Ends (making text before) b y
    → (a ≡ b) × (x ≡ y)
make_determined text before p q = ends_determined p q
