-- 'A stamp to name the table', the changes that it shows: a single byte changed, and two unequal neighbours exchanged. And beyond the request, any two bytes
-- changed.
use Rattle.std.specs.Prelude.{◌≡◌, ℕ, ◌<◌, List, ◌∷◌, ◌++◌}
use Rattle.table.specs.Numbers.{low_byte_room}

-- two unequal bytes
pub record Unequal (a b : ℕ) : Type 0 where
  pub is_byte : a < low_byte_room
  pub other_is_byte : b < low_byte_room
  pub unequal : a ≡ b → ⊥

-- one image is the other with a single byte changed
pub data OneByteChanged : List ℕ → List ℕ → Type 0 where
  byte_changed : (before after : List ℕ) (a b : ℕ) → Unequal a b → OneByteChanged (before ++ a ∷ after) (before ++ b ∷ after)

-- one image is the other with two unequal neighbours exchanged
pub data NeighboursExchanged : List ℕ → List ℕ → Type 0 where
  exchanged : (before after : List ℕ) (a b : ℕ) → Unequal a b → NeighboursExchanged (before ++ a ∷ b ∷ after) (before ++ b ∷ a ∷ after)

-- one image is the other with two bytes changed, wherever they stand
pub data TwoBytesChanged : List ℕ → List ℕ → Type 0 where
  bytes_changed : (before between after : List ℕ) (a b c d : ℕ) → Unequal a c → Unequal b d
      → TwoBytesChanged (before ++ a ∷ (between ++ b ∷ after)) (before ++ c ∷ (between ++ d ∷ after))
