-- Request 2, 'cut words carry a hyphen', in its own words and with no computing: while more than W cells of a word remain, a part is W-1 cells and then
-- cell 36; the rest, at most W, has none. proofs/Parts.antt shows that `parts` cuts a word so, that there is no other way, how many cells the parts have,
-- and that without their hyphens they are the word.
use Rattle.std.specs.Prelude.{ℕ, ◌+◌, ◌-◌, ◌≤◌, ◌<◌, List, [], ◌∷◌, ◌++◌, map, ◌≡◌, length, take}
use Rattle.pages.specs.Numbers.{hyphen}
use Rattle.pages.specs.Words.{words_of, parts}
use Rattle.pages.specs.Fitting.{words_in}

pub data Cuts (W : ℕ) : List ℕ → List (List ℕ) → Type 0 where
  -- more than W cells remain: a part is W-1 of them and the hyphen, and the others are cut in their turn
  cut_off : (front rest : List ℕ) {parts : List (List ℕ)} → length front + 1 ≡ W → W < length front + length rest → Cuts W rest parts
      → Cuts W (front ++ rest) ((front ++ hyphen ∷ []) ∷ parts)
  -- the rest, at most W, has none
  whole : {cells : List ℕ} → 1 ≤ length cells → length cells ≤ W → Cuts W cells (cells ∷ [])

-- each part but the last has W cells, of which the hyphen is the last; the last part has 1 to W
pub data Sized (W : ℕ) : List (List ℕ) → Type 0 where
  full : (front : List ℕ) {parts : List (List ℕ)} → length (front ++ hyphen ∷ []) ≡ W → Sized W parts → Sized W ((front ++ hyphen ∷ []) ∷ parts)
  last : {part : List ℕ} → 1 ≤ length part → length part ≤ W → Sized W (part ∷ [])

-- parts without the hyphen that ends each of them but the last
unfoldable pub bare : List (List ℕ) → List (List ℕ)
bare [] = []
bare (part ∷ []) = part ∷ []
bare (part ∷ next ∷ parts) = take (length part - 1) part ∷ bare (next ∷ parts)

-- the words that signs make, each as its parts
unfoldable pub cuts_of : ℕ → List ℕ → List (List (List ℕ))
cuts_of W signs = map (parts W) (words_in (words_of signs))
