-- 'A stamp to name the table': two numbers over the bytes of an image, that go past the top back to 0. Both start at 0; for each byte the first grows by the
-- byte, and the second by the new first. proofs/Weights.antt shows that they are the sums of specs/Weights.antt.
use Rattle.std.specs.Prelude.{ℕ, ◌+◌, ◌%◌, List, [], ◌∷◌}
use Rattle.stamp.specs.Numbers.{sum_room, sum_start}

pub record Sums : Type 0 where
  pub first : ℕ
  pub second : ℕ

-- `n` grown by `m`, going past the top back to 0
unfoldable pub grown : ℕ → ℕ → ℕ
grown n m = (n + m) % sum_room

-- one byte further
unfoldable pub next : Sums → ℕ → Sums
next sums byte =
    let first = grown sums.first byte in
    record { first = first; second = grown sums.second first }

-- from these numbers on, byte by byte
unfoldable pub sums_from : Sums → List ℕ → Sums
sums_from sums [] = sums
sums_from sums (byte ∷ bytes) = sums_from (next sums byte) bytes

abbrev pub started : Sums
started = record { first = sum_start; second = sum_start }

unfoldable pub sums_of : List ℕ → Sums
sums_of bytes = sums_from started bytes
