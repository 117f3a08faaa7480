-- The words of a line of a readable table: what parts them, and how numbers and symbols are read. A read gives bytes and the rest of the line, or what was
-- expected where the rest begins.
use Rattle.std.specs.Prelude.{ℕ, zero, suc, ◌+◌, ◌-◌, ◌*◌, Bool, true, false, cond, not, ◌&&◌, ◌||◌, List, [], ◌∷◌, ◌++◌, leb, eqb, length, get_or, drop, replicate}
use Rattle.table.specs.Numbers.{blank, least_symbol, most_symbol, most_length, padding}
use Rattle.table.specs.Search.{within}
use Rattle.form.specs.Numbers.{tab, carriage_return, space, hash, underscore, backslash, zero_digit, nine_digit, most_byte}
use Rattle.form.specs.declared.Expected.{Expected}
use Rattle.form.specs.declared.Expected.TheVariants as expected

pub data Read : Type 0 where
  got : List ℕ → List ℕ → Read
  wrong : Expected → List ℕ → Read

-- after a read, go on with its bytes and its rest
abbrev pub after : Read → (List ℕ → List ℕ → Read) → Read
after (got bytes rest) f = f bytes rest
after (wrong e rest) f = wrong e rest

-- ---- Words are parted by blanks, tabs and carriage returns

unfoldable pub is_gap : ℕ → Bool
is_gap c = eqb c space || eqb c tab || eqb c carriage_return

unfoldable pub after_gap : List ℕ → List ℕ
after_gap [] = []
after_gap (c ∷ cs) = elim (is_gap c) [ true ↦ after_gap cs | false ↦ c ∷ cs ]

-- a word ends where the line does, or at a gap
unfoldable pub ends_word : List ℕ → Bool
ends_word [] = true
ends_word (c ∷ cs) = is_gap c

-- a line ends there, or at a remark
unfoldable pub ends_line : List ℕ → Bool
ends_line [] = true
ends_line (c ∷ cs) = eqb c hash

-- what was read is a whole word
unfoldable pub whole : Read → Read
whole read = after read (λ bytes rest. cond (ends_word rest) (got bytes rest) (wrong expected.WordEnd rest))

-- the rest begins with these characters
unfoldable pub begins : List ℕ → List ℕ → Bool
begins [] rest = true
begins (w ∷ ws) [] = false
begins (w ∷ ws) (c ∷ cs) = eqb w c && begins ws cs

-- the next word is this one
unfoldable pub is_word : List ℕ → List ℕ → Bool
is_word word rest = begins word rest && ends_word (drop (length word) rest)

-- ---- A number in decimal, from `least` to `most`

unfoldable pub is_digit : ℕ → Bool
is_digit c = within zero_digit nine_digit c

unfoldable pub starts_number : List ℕ → Bool
starts_number [] = false
starts_number (c ∷ cs) = is_digit c

-- the number with one digit more
unfoldable pub with_digit : ℕ → ℕ → ℕ
with_digit n c = 10 * n + (c - zero_digit)

unfoldable pub digits_from : ℕ → ℕ → ℕ → List ℕ → Read
digits_from least most n [] = got (n ∷ []) []
digits_from least most n (c ∷ cs) =
    elim (is_digit c) [
      | true ↦
          elim (leb (with_digit n c) most) [
            | true ↦ digits_from least most (with_digit n c) cs
            | false ↦ wrong (expected.Number least most) (c ∷ cs)
          ]
      | false ↦ got (n ∷ []) (c ∷ cs)
    ]

unfoldable pub at_least : ℕ → ℕ → Read → Read
at_least least most read =
    after read (λ bytes rest. cond (leb least (get_or bytes 0 0)) (got bytes rest) (wrong (expected.Number least most) rest))

unfoldable pub number : ℕ → ℕ → List ℕ → Read
number least most rest =
    cond (starts_number rest) (whole (at_least least most (digits_from least most 0 rest))) (wrong (expected.Number least most) rest)

abbrev pub byte_number : List ℕ → Read
byte_number rest = number 0 most_byte rest

-- a mark that stands for a value, or a number
unfoldable pub mark_or : ℕ → ℕ → List ℕ → Read
mark_or mark value [] = byte_number []
mark_or mark value (c ∷ cs) = cond (eqb c mark) (whole (got (value ∷ []) cs)) (byte_number (c ∷ cs))

-- ---- Symbols: _ is the blank, # _ \ stand after a \, every other symbol of 33 to 126 stands for itself

unfoldable pub is_escaped : ℕ → Bool
is_escaped c = eqb c hash || eqb c underscore || eqb c backslash

unfoldable pub escaped : List ℕ → Read
escaped [] = wrong expected.Escaped []
escaped (c ∷ cs) = cond (is_escaped c) (got (c ∷ []) cs) (wrong expected.Escaped (c ∷ cs))

unfoldable pub symbol : List ℕ → Read
symbol [] = wrong expected.Symbol []
symbol (c ∷ cs) =
    cond (eqb c underscore) (got (blank ∷ []) cs)
    (cond (eqb c backslash) (escaped cs)
    (cond (within (suc least_symbol) most_symbol c && not (eqb c hash)) (got (c ∷ []) cs) (wrong expected.Symbol (c ∷ cs))))

-- at most so many symbols, to the end of the word
unfoldable pub symbols_from : ℕ → List ℕ → List ℕ → Read
symbols_from zero sofar rest = got sofar rest
symbols_from (suc n) sofar rest =
    elim (ends_word rest) [
      | true ↦ got sofar rest
      | false ↦ elim (symbol rest) [ got c later ↦ symbols_from n (sofar ++ c) later | wrong e later ↦ wrong e later ]
    ]

-- just so many symbols, which are a word
unfoldable pub row : ℕ → List ℕ → Read
row n rest =
    whole (after (symbols_from n [] rest) (λ bytes later. cond (eqb (length bytes) n) (got bytes later) (wrong (expected.Row n) later)))

-- a string of 1 to 10 symbols as a record has it: its length, its ten bytes
unfoldable pub string_bytes : List ℕ → List ℕ
string_bytes string = length string ∷ string ++ replicate (most_length - length string) padding

unfoldable pub string : List ℕ → Read
string rest =
    whole (after (symbols_from most_length [] rest) (λ bytes later. cond (eqb (length bytes) 0) (wrong expected.Symbol later) (got (string_bytes bytes) later)))
