-- Refusal 5 exactly when: the verdict on a sheet refuses where W or P is outside its limits, and accepts where both are within.
use Prim.Native.Nat.{ℕ, ◌<◌}
use mathlib.Core.Bool.{Bool, true, false}
use mathlib.Core.Logic.{inl, inr}
use mathlib.Core.Path.{◌≡◌, refl}
use native.Mathlib.Decide.{dec_lt}
use Rattle.std.specs.Prelude.{Ok, Err}
use native.Mathlib.Omega.{arith}
use Rattle.table.specs.Refusals.{Between}
use Rattle.table.specs.declared.Refusal.TheVariants.{Size}
use Rattle.table.proofs.Tests.{Tells, decided_by, fails_law, tells_and, tells_within}
use Rattle.pages.specs.Numbers.{least_width, most_width, least_length, most_length}
use Rattle.pages.specs.Volume.{sheet_right, sheet_verdict}
use Rattle.pages.specs.Refusals.{Outside, SizesWrong}
use Rattle.pages.specs.declared.Sheet.{Sheet}

outside : {least most n : ℕ} → (Between least most n → ⊥) → Outside least most n
outside {least} {most} {n} h = go (dec_lt n least) (dec_lt most n)
  where
    go : Dec (n < least) → Dec (most < n) → Outside least most n
    go (yes l) d = inl l
    go (no a) (yes l) = inr l
    go (no a) (no b) = absurd (h (record { low = omega arith; high = omega arith }))

not_outside : {least most n : ℕ} → Between least most n → Outside least most n → ⊥
not_outside b (inl l) = omega arith
not_outside b (inr l) = omega arith

module _ (sheet : Sheet) where
  sizes_tell : Tells (sheet_right sheet) (Between least_width most_width sheet.width × Between least_length most_length sheet.length)
  unfolding sheet_right
  sizes_tell = tells_and (tells_within least_width most_width sheet.width) (tells_within least_length most_length sheet.length)

  pub sizes_wrong : sheet_right sheet ≡ false → SizesWrong sheet
  sizes_wrong e = go (decided_by (tells_within least_width most_width sheet.width))
    where
      go : Dec (Between least_width most_width sheet.width) → SizesWrong sheet
      go (yes b) = inr (outside (λ c. (fails_law sizes_tell).0 e (b, c)))
      go (no d) = inl (outside d)

  pub sizes_accepted : sheet_right sheet ≡ true → sheet_verdict sheet ≡ Ok tt
  unfolding sheet_verdict
  sizes_accepted e = rw (e, sheet_verdict)

  pub sizes_refused : sheet_right sheet ≡ false → sheet_verdict sheet ≡ Err Size
  unfolding sheet_verdict
  sizes_refused e = rw (e, sheet_verdict)

  -- sizes that are accepted are within their limits
  pub sizes_of_accepted : sheet_verdict sheet ≡ Ok tt → Between least_width most_width sheet.width × Between least_length most_length sheet.length
  sizes_of_accepted v = go (sheet_right sheet) refl
    where
      go : (b : Bool) → sheet_right sheet ≡ b → Between least_width most_width sheet.width × Between least_length most_length sheet.length
      go true e = sizes_tell.0 e
      go false e = let n = sizes_refused e in let z : ◌≡◌ {A = ℕ} 0 1 = cc in absurd (omega arith)

  pub sizes_not_wrong : sheet_right sheet ≡ true → SizesWrong sheet → ⊥
  sizes_not_wrong e (inl o) = not_outside (sizes_tell.0 e).0 o
  sizes_not_wrong e (inr o) = not_outside (sizes_tell.0 e).1 o

  -- sizes that aren't wrong are right
  pub sizes_right : (SizesWrong sheet → ⊥) → Between least_width most_width sheet.width × Between least_length most_length sheet.length
  sizes_right h = go (sheet_right sheet) refl
    where
      go : (b : Bool) → sheet_right sheet ≡ b → Between least_width most_width sheet.width × Between least_length most_length sheet.length
      go true e = sizes_tell.0 e
      go false e = absurd (h (sizes_wrong e))

  -- and sizes within their limits are right
  pub sizes_within : Between least_width most_width sheet.width → Between least_length most_length sheet.length → sheet_right sheet ≡ true
  sizes_within w l = sizes_tell.1 (w, l)
