-- What a character of inkprint is to the marks: a letter, a sign that stands for itself or for another, a gap, a line's end, or none that has a mark.
use Rattle.std.specs.Prelude.{ℕ, ◌-◌, Bool, true, false, cond, ◌||◌, List, [], ◌∷◌, leb, eqb, get_or}
use Rattle.table.specs.Search.{within}
use Rattle.inkprint.specs.Numbers.{double_quote, hyphen, left_bracket, right_bracket}
use Rattle.inkprint.specs.declared.Glyph.{Glyph}
use Rattle.inkprint.specs.declared.Glyph.TheVariants.{Letter, Plain, Literal, Gap, Nothing, Feed, Page, LongDash, Dots, Opens, Closes, Unmarked}

-- the letters of U+00C0 to U+017F without their accents, small ones small, and 0 for what is no accented letter
abbrev pub latin_letters : List ℕ
latin_letters =
    65 ∷ 65 ∷ 65 ∷ 65 ∷ 65 ∷ 65 ∷ 0 ∷ 67 ∷ 69 ∷ 69 ∷ 69 ∷ 69 ∷ 73 ∷ 73 ∷ 73 ∷ 73
    ∷ 0 ∷ 78 ∷ 79 ∷ 79 ∷ 79 ∷ 79 ∷ 79 ∷ 0 ∷ 79 ∷ 85 ∷ 85 ∷ 85 ∷ 85 ∷ 89 ∷ 0 ∷ 0
    ∷ 97 ∷ 97 ∷ 97 ∷ 97 ∷ 97 ∷ 97 ∷ 0 ∷ 99 ∷ 101 ∷ 101 ∷ 101 ∷ 101 ∷ 105 ∷ 105 ∷ 105 ∷ 105
    ∷ 0 ∷ 110 ∷ 111 ∷ 111 ∷ 111 ∷ 111 ∷ 111 ∷ 0 ∷ 111 ∷ 117 ∷ 117 ∷ 117 ∷ 117 ∷ 121 ∷ 0 ∷ 121
    ∷ 65 ∷ 97 ∷ 65 ∷ 97 ∷ 65 ∷ 97 ∷ 67 ∷ 99 ∷ 67 ∷ 99 ∷ 67 ∷ 99 ∷ 67 ∷ 99 ∷ 68 ∷ 100
    ∷ 68 ∷ 100 ∷ 69 ∷ 101 ∷ 69 ∷ 101 ∷ 69 ∷ 101 ∷ 69 ∷ 101 ∷ 69 ∷ 101 ∷ 71 ∷ 103 ∷ 71 ∷ 103
    ∷ 71 ∷ 103 ∷ 71 ∷ 103 ∷ 72 ∷ 104 ∷ 72 ∷ 104 ∷ 73 ∷ 105 ∷ 73 ∷ 105 ∷ 73 ∷ 105 ∷ 73 ∷ 105
    ∷ 73 ∷ 105 ∷ 0 ∷ 0 ∷ 74 ∷ 106 ∷ 75 ∷ 107 ∷ 0 ∷ 76 ∷ 108 ∷ 76 ∷ 108 ∷ 76 ∷ 108 ∷ 0
    ∷ 0 ∷ 76 ∷ 108 ∷ 78 ∷ 110 ∷ 78 ∷ 110 ∷ 78 ∷ 110 ∷ 0 ∷ 0 ∷ 0 ∷ 79 ∷ 111 ∷ 79 ∷ 111
    ∷ 79 ∷ 111 ∷ 0 ∷ 0 ∷ 82 ∷ 114 ∷ 82 ∷ 114 ∷ 82 ∷ 114 ∷ 83 ∷ 115 ∷ 83 ∷ 115 ∷ 83 ∷ 115
    ∷ 83 ∷ 115 ∷ 84 ∷ 116 ∷ 84 ∷ 116 ∷ 84 ∷ 116 ∷ 85 ∷ 117 ∷ 85 ∷ 117 ∷ 85 ∷ 117 ∷ 85 ∷ 117
    ∷ 85 ∷ 117 ∷ 85 ∷ 117 ∷ 87 ∷ 119 ∷ 89 ∷ 121 ∷ 89 ∷ 90 ∷ 122 ∷ 90 ∷ 122 ∷ 90 ∷ 122 ∷ 0
    ∷ []

-- the convention's own signs: $ % + < = > _ |
unfoldable pub is_own_sign : ℕ → Bool
is_own_sign c = eqb c 36 || eqb c 37 || eqb c 43 || eqb c 60 || eqb c 61 || eqb c 62 || eqb c 95 || eqb c 124

-- what stands after the $: of a literal sign: the sign itself, and I for the bar, which no text keeps
unfoldable pub literal_of : ℕ → ℕ
literal_of c = cond (eqb c 124) 73 c

unfoldable pub latin_glyph : ℕ → Glyph
latin_glyph l = cond (eqb l 0) Unmarked (cond (leb l 90) (Letter l true true) (Letter (l - 32) false true))

-- blank, tab, no-break space, and the spaces of U+2000 to U+200A and U+202F
unfoldable pub is_gap : ℕ → Bool
is_gap c = eqb c 32 || eqb c 9 || eqb c 160 || within 8192 8202 c || eqb c 8239

-- carriage return, soft hyphen, byte order mark
unfoldable pub is_nothing : ℕ → Bool
is_nothing c = eqb c 13 || eqb c 173 || eqb c 65279

-- hyphens of U+2010 and U+2011, figure dash, en dash, minus
unfoldable pub is_dash : ℕ → Bool
is_dash c = within 8208 8211 c || eqb c 8722

-- em dash, horizontal bar
unfoldable pub is_long_dash : ℕ → Bool
is_long_dash c = eqb c 8212 || eqb c 8213

-- typographic signs
unfoldable pub typographic : ℕ → Glyph
typographic c =
    cond (is_dash c) (Plain hyphen)
    (cond (is_long_dash c) LongDash
    (cond (eqb c 8230) Dots
    (cond (eqb c 8220 || eqb c 8221) (Plain double_quote) (cond (eqb c 8216) Opens (cond (eqb c 8217) Closes Unmarked)))))

-- signs of ASCII
unfoldable pub ascii_sign : ℕ → Glyph
ascii_sign c =
    cond (is_own_sign c) (Literal (literal_of c)) (cond (eqb c 91) (Plain left_bracket) (cond (eqb c 93) (Plain right_bracket) (Plain c)))

-- a character that is no letter, gap or sign of ASCII
unfoldable pub other_glyph : ℕ → Glyph
other_glyph c =
    cond (eqb c 10) Feed
    (cond (eqb c 12) Page (cond (is_nothing c) Nothing (cond (within 192 383 c) (latin_glyph (get_or latin_letters (c - 192) 0)) (typographic c))))

unfoldable pub glyph_of : ℕ → Glyph
glyph_of c =
    cond (within 97 122 c) (Letter (c - 32) false false)
    (cond (within 65 90 c) (Letter c true false) (cond (is_gap c) Gap (cond (within 33 126 c) (ascii_sign c) (other_glyph c))))

-- ---- What is asked of a glyph

abbrev pub is_marked : Glyph → Bool
is_marked (Letter l c a) = true
is_marked (Plain c) = true
is_marked (Literal c) = true
is_marked Gap = true
is_marked Nothing = true
is_marked Feed = true
is_marked Page = true
is_marked LongDash = true
is_marked Dots = true
is_marked Opens = true
is_marked Closes = true
is_marked Unmarked = false

abbrev pub is_letter : Glyph → Bool
is_letter (Letter l c a) = true
is_letter (Plain c) = false
is_letter (Literal c) = false
is_letter Gap = false
is_letter Nothing = false
is_letter Feed = false
is_letter Page = false
is_letter LongDash = false
is_letter Dots = false
is_letter Opens = false
is_letter Closes = false
is_letter Unmarked = false

abbrev pub is_capital : Glyph → Bool
is_capital (Letter l c a) = c
is_capital (Plain c) = false
is_capital (Literal c) = false
is_capital Gap = false
is_capital Nothing = false
is_capital Feed = false
is_capital Page = false
is_capital LongDash = false
is_capital Dots = false
is_capital Opens = false
is_capital Closes = false
is_capital Unmarked = false

-- an apostrophe, or a right single quote, which may be one
abbrev pub is_apostrophe : Glyph → Bool
is_apostrophe (Letter l c a) = false
is_apostrophe (Plain c) = eqb c 39
is_apostrophe (Literal c) = false
is_apostrophe Gap = false
is_apostrophe Nothing = false
is_apostrophe Feed = false
is_apostrophe Page = false
is_apostrophe LongDash = false
is_apostrophe Dots = false
is_apostrophe Opens = false
is_apostrophe Closes = true
is_apostrophe Unmarked = false
