-- Inkprint is UTF-8: the characters of a text, each with its code and its bytes. A byte that begins no whole character is one of its own, whose code no
-- character has: an overlong form, a surrogate and a code past the last are none.
use Rattle.std.specs.Prelude.{ℕ, zero, suc, ◌+◌, ◌-◌, ◌*◌, Bool, cond, not, ◌&&◌, List, [], ◌∷◌, leb, ltb, length, get_or, drop}
use Rattle.table.specs.Search.{within}
use Rattle.inkprint.specs.Numbers.{broken}
use Rattle.inkprint.specs.declared.Character.{Character}

abbrev pub character : ℕ → ℕ → Character
character c n = record { code = c; size = n }

-- a byte that goes on with a character
abbrev pub goes_on : ℕ → Bool
goes_on b = within 128 191 b

unfoldable pub two_bytes : ℕ → ℕ → ℕ
two_bytes a b = 64 * (a - 192) + (b - 128)

unfoldable pub three_bytes : ℕ → ℕ → ℕ → ℕ
three_bytes a b c = 4096 * (a - 224) + 64 * (b - 128) + (c - 128)

unfoldable pub four_bytes : ℕ → ℕ → ℕ → ℕ → ℕ
four_bytes a b c d = 262144 * (a - 240) + 4096 * (b - 128) + 64 * (c - 128) + (d - 128)

-- the character that these bytes begin with
unfoldable pub of_four : ℕ → ℕ → ℕ → ℕ → Character
of_four a b c d =
    cond (within 240 244 a && goes_on b && goes_on c && goes_on d && within 65536 1114111 (four_bytes a b c d)) (character (four_bytes a b c d) 4) (character broken 1)

unfoldable pub of_three : ℕ → ℕ → ℕ → ℕ → Character
of_three a b c d =
    cond (within 224 239 a && goes_on b && goes_on c && leb 2048 (three_bytes a b c) && not (within 55296 57343 (three_bytes a b c))) (character (three_bytes a b c) 3)
    (of_four a b c d)

unfoldable pub of_two : ℕ → ℕ → ℕ → ℕ → Character
of_two a b c d = cond (within 194 223 a && goes_on b) (character (two_bytes a b) 2) (of_three a b c d)

unfoldable pub of_bytes : ℕ → ℕ → ℕ → ℕ → Character
of_bytes a b c d = cond (ltb a 128) (character a 1) (of_two a b c d)

-- past the end there are zeros, which go on with nothing
unfoldable pub next_of : List ℕ → Character
next_of text = of_bytes (get_or text 0 0) (get_or text 1 0) (get_or text 2 0) (get_or text 3 0)

unfoldable pub characters_from : ℕ → List ℕ → List Character
characters_from zero text = []
characters_from (suc n) [] = []
characters_from (suc n) (b ∷ bs) = next_of (b ∷ bs) ∷ characters_from n (drop (next_of (b ∷ bs)).size (b ∷ bs))

unfoldable pub characters_of : List ℕ → List Character
characters_of text = characters_from (length text) text
