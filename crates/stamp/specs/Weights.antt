-- What the two numbers of a stamp come to, before they go past the top: the sum of the bytes; and the sum of the bytes, each taken once for itself and once
-- for each byte after it.
use Rattle.std.specs.Prelude.{ℕ, ◌+◌, ◌*◌, List, [], ◌∷◌, length}

unfoldable pub total : List ℕ → ℕ
total [] = 0
total (byte ∷ bytes) = byte + total bytes

unfoldable pub weighed : List ℕ → ℕ
weighed [] = 0
weighed (byte ∷ bytes) = length (byte ∷ bytes) * byte + weighed bytes
