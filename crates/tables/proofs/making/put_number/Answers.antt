-- `tables::making::put_number` meets its contract: the two bytes are the number's.
use Prim.Native.Nat.{ℕ, ◌+◌, ◌/◌, ◌%◌}
use mathlib.Core.List.{[], ◌∷◌}
use mathlib.Core.Path.{◌≡◌, refl, ◌∙◌, ap}
use native.Mathlib.Omega.{arith}
use Rattle.table.proofs.Wrote.{run_written}
use Rattle.form.specs.Fields.{number_bytes}
use Rattle.tables.proofs.making.put_number.Goals as goal

pub returns : goal.returns
unfolding number_bytes
returns c =
    let a = c.args in
    let high : a.n / 256 % 256 ≡ a.n / 256 = omega arith in
    let bytes = c.copy_from_slice.ensures.after ∙ c.to_le_bytes.ensures ∙ ap (λ (h : ℕ). a.n % 256 ∷ h ∷ []) high in
    run_written a.out.now c.copy_from_slice.new.self a.at (a.at + 2) (number_bytes a.n) bytes refl c.requires.0
