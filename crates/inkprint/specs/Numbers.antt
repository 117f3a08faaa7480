-- The numbers of inkprint and of its marks, each said once: docs/ENGLISH.md has the marks.
use Rattle.std.specs.Prelude.{ℕ}

-- ---- Signs of the marks: = a capital, % an accent, $ before a code

abbrev pub capital_sign : ℕ
capital_sign = 61

abbrev pub accent_sign : ℕ
accent_sign = 37

abbrev pub code_sign : ℕ
code_sign = 36

-- ---- Codes after the sign: P a paragraph, N a page, ' a single quote, and R after it for a right one, : a sign as it is

abbrev pub paragraph_code : ℕ
paragraph_code = 80

abbrev pub page_code : ℕ
page_code = 78

abbrev pub quote_code : ℕ
quote_code = 39

abbrev pub right_code : ℕ
right_code = 82

abbrev pub literal_code : ℕ
literal_code = 58

-- ---- Characters of a marked text that stand for others

abbrev pub line_feed : ℕ
line_feed = 10

abbrev pub blank : ℕ
blank = 32

abbrev pub double_quote : ℕ
double_quote = 34

abbrev pub apostrophe : ℕ
apostrophe = 39

abbrev pub hyphen : ℕ
hyphen = 45

abbrev pub period : ℕ
period = 46

abbrev pub left_bracket : ℕ
left_bracket = 60

abbrev pub right_bracket : ℕ
right_bracket = 62

-- ---- UTF-8: a broken character has a code past the last

abbrev pub broken : ℕ
broken = 1114112

-- ---- No text is longer, so that no count goes past the top

abbrev pub most_ink : ℕ
most_ink = 1073741824

-- ---- What comes back: a text too long, a character that has no mark, and an output too short

abbrev pub number_done : ℕ
number_done = 0

abbrev pub number_long : ℕ
number_long = 6

abbrev pub number_unmarked : ℕ
number_unmarked = 21

abbrev pub number_room : ℕ
number_room = 8
