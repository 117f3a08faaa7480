-- The product of two numbers of sixteen bits has at most thirty-two: no offset of a record overflows.
use Prim.Native.Nat.{ℕ, ◌*◌, ◌^◌, ◌≤◌, ◌<◌}
use native.Mathlib.Nat.{mul-le-mul}
use native.Mathlib.Omega.{arith}

pub product_fits : (a b : ℕ) → a < 2 ^ 16 → b < 2 ^ 16 → a * b < 2 ^ 32
product_fits a b ha hb =
    let x : a ≤ 65535 = omega arith in
    let y : b ≤ 65535 = omega arith in
    let h : a * b ≤ 65535 * 65535 = mul-le-mul x y in
    omega arith
