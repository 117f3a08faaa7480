-- The characters of the readable form, its words, and the number of its refusal, each said once: docs/TABLES.md.
use Rattle.std.specs.Prelude.{ℕ, List, [], ◌∷◌}

-- ---- What parts words and lines

abbrev pub tab : ℕ
tab = 9

abbrev pub line_feed : ℕ
line_feed = 10

abbrev pub carriage_return : ℕ
carriage_return = 13

abbrev pub space : ℕ
space = 32

-- # begins a remark
abbrev pub hash : ℕ
hash = 35

-- ---- What stands for a symbol or a number

abbrev pub underscore : ℕ
underscore = 95

abbrev pub backslash : ℕ
backslash = 92

abbrev pub zero_digit : ℕ
zero_digit = 48

abbrev pub nine_digit : ℕ
nine_digit = 57

-- = the shift is the length, - there is no right context
abbrev pub equals : ℕ
equals = 61

abbrev pub hyphen : ℕ
hyphen = 45

-- ---- Words: ':', 'from' and 'to'

abbrev pub colon : List ℕ
colon = 58 ∷ []

abbrev pub from_word : List ℕ
from_word = 102 ∷ 114 ∷ 111 ∷ 109 ∷ []

abbrev pub to_word : List ℕ
to_word = 116 ∷ 111 ∷ []

-- ---- Numbers: a byte is 0 to 255, a year 0 to 65,535

abbrev pub most_byte : ℕ
most_byte = 255

abbrev pub most_year : ℕ
most_year = 65535

-- ---- What comes back: a text that isn't of the form

abbrev pub number_form : ℕ
number_form = 22
