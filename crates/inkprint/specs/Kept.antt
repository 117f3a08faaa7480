-- What is said of the marks as a whole: what a mark keeps of its character and what it adds, what is plain to read already, a text that ends in a blank line, and a
-- text in pieces. proofs/Kept.antt, proofs/Plain.antt and proofs/Parts.antt show it of every text.
use Rattle.std.specs.Prelude.{ℕ, Bool, true, false, cond, ◌||◌, ◌≡◌, eqb}
use mathlib.Core.List.{List, [], ◌∷◌, ◌++◌, Memᴰ}
use Rattle.table.specs.Lists.{All}
use Rattle.table.specs.Search.{within}
use Rattle.inkprint.specs.Numbers.{capital_sign, accent_sign, code_sign, paragraph_code, page_code, quote_code, right_code, literal_code, line_feed, blank, apostrophe, hyphen, period}
use Rattle.inkprint.specs.Characters.{characters_of}
use Rattle.inkprint.specs.Glyphs.{glyph_of}
use Rattle.inkprint.specs.Marks.{marked, marking}
use Rattle.inkprint.specs.declared.Character.{Character}
use Rattle.inkprint.specs.declared.Glyph.{Glyph}
use Rattle.inkprint.specs.declared.Glyph.TheVariants.{Letter, Plain, Literal, Gap, Nothing, Feed, Page, LongDash, Dots, Opens, Closes, Unmarked}

-- ---- Letters and digits

-- a capital or a digit of a marked text
unfoldable pub is_letter_or_digit : ℕ → Bool
is_letter_or_digit b = within 65 90 b || within 48 57 b

-- those of a marked text, in order
unfoldable pub letters_and_digits : List ℕ → List ℕ
letters_and_digits [] = []
letters_and_digits (b ∷ bs) = elim (is_letter_or_digit b) [ true ↦ b ∷ letters_and_digits bs | false ↦ letters_and_digits bs ]

-- a character of the ink text, folded: a letter to its capital without an accent, a digit to itself, any other to nothing
abbrev pub folded_of : Glyph → List ℕ
folded_of (Letter l c a) = l ∷ []
folded_of (Plain c) = cond (within 48 57 c) (c ∷ []) []
folded_of (Literal c) = []
folded_of Gap = []
folded_of Nothing = []
folded_of Feed = []
folded_of Page = []
folded_of LongDash = []
folded_of Dots = []
folded_of Opens = []
folded_of Closes = []
folded_of Unmarked = []

unfoldable pub folded_from : List Character → List ℕ
folded_from [] = []
folded_from (c ∷ cs) = folded_of (glyph_of c.code) ++ folded_from cs

-- the letters and digits of an ink text, folded to capitals
unfoldable pub folded : List ℕ → List ℕ
folded text = folded_from (characters_of text)

-- ---- A mark is what it adds, and then what its character keeps of itself

-- a letter keeps its capital, a sign that stands for itself that sign. The mark of any other character is all added
abbrev pub own_of : Glyph → List ℕ
own_of (Letter l c a) = l ∷ []
own_of (Plain c) = c ∷ []
own_of (Literal c) = []
own_of Gap = []
own_of Nothing = []
own_of Feed = []
own_of Page = []
own_of LongDash = []
own_of Dots = []
own_of Opens = []
own_of Closes = []
own_of Unmarked = []

-- before a letter, by whether it is a capital and whether it has an accent
abbrev pub before_letter : Bool → Bool → List (List ℕ)
before_letter false false = [] ∷ []
before_letter false true = (accent_sign ∷ []) ∷ []
before_letter true false = [] ∷ (capital_sign ∷ []) ∷ (capital_sign ∷ capital_sign ∷ []) ∷ []
before_letter true true = (accent_sign ∷ []) ∷ (capital_sign ∷ accent_sign ∷ []) ∷ (capital_sign ∷ capital_sign ∷ accent_sign ∷ []) ∷ []

-- what a mark may add
abbrev pub may_add : Glyph → List (List ℕ)
may_add (Letter l c a) = before_letter c a
may_add (Plain c) = [] ∷ []
may_add (Literal c) = (code_sign ∷ literal_code ∷ c ∷ []) ∷ []
may_add Gap = [] ∷ (blank ∷ []) ∷ []
may_add Nothing = [] ∷ []
may_add Feed = (line_feed ∷ []) ∷ (code_sign ∷ paragraph_code ∷ []) ∷ []
may_add Page = (code_sign ∷ page_code ∷ []) ∷ []
may_add LongDash = (hyphen ∷ hyphen ∷ []) ∷ []
may_add Dots = (period ∷ period ∷ period ∷ []) ∷ []
may_add Opens = (code_sign ∷ quote_code ∷ []) ∷ []
may_add Closes = (apostrophe ∷ []) ∷ (code_sign ∷ quote_code ∷ right_code ∷ []) ∷ []
may_add Unmarked = []

pub record Part : Type 0 where
  pub added : List ℕ
  pub own : List ℕ

-- a part is the mark of a character of this kind
pub record PartOf (g : Glyph) (p : Part) : Type 0 where
  pub adds : Memᴰ p.added (may_add g)
  pub keeps : p.own ≡ own_of g

-- one part for each character, in order
infixr 67 ◌then◌
pub data Parts : List Character → List Part → Type 0 where
  none : Parts [] []
  ◌then◌ : {c : Character} {cs : List Character} {p : Part} {ps : List Part} → PartOf (glyph_of c.code) p → Parts cs ps → Parts (c ∷ cs) (p ∷ ps)

-- all bytes of the parts, and those that are not added
unfoldable pub joined : List Part → List ℕ
joined [] = []
joined (p ∷ ps) = p.added ++ p.own ++ joined ps

unfoldable pub owned : List Part → List ℕ
owned [] = []
owned (p ∷ ps) = p.own ++ owned ps

-- nothing is lost: without what the marks add, the letters and digits of the marked text are those of the ink text
pub record NothingLost (text bytes : List ℕ) : Type 0 where
  pub parts : List Part
  pub each : Parts (characters_of text) parts
  pub joins : joined parts ≡ bytes
  pub keeps : letters_and_digits (owned parts) ≡ folded text

-- ---- A text of capitals and digits alone

-- a marked text without the signs of its capitals
unfoldable pub without_signs : List ℕ → List ℕ
without_signs [] = []
without_signs (b ∷ bs) = elim (eqb b capital_sign) [ true ↦ without_signs bs | false ↦ b ∷ without_signs bs ]

pub record StaysPlain (text : List ℕ) : Type 0 where
  pub bytes : List ℕ
  pub marks : marking text ≡ marked bytes
  pub same : without_signs bytes ≡ text

-- ---- The symbols of a marked text

unfoldable pub is_symbol : ℕ → Bool
is_symbol b = within 32 126 b || eqb b line_feed

-- ---- A text in pieces, each but the last ending in a blank line

-- a gap, or nothing
abbrev pub is_empty : Glyph → Bool
is_empty (Letter l c a) = false
is_empty (Plain c) = false
is_empty (Literal c) = false
is_empty Gap = true
is_empty Nothing = true
is_empty Feed = false
is_empty Page = false
is_empty LongDash = false
is_empty Dots = false
is_empty Opens = false
is_empty Closes = false
is_empty Unmarked = false

-- a line starts after this: it is empty, or ends in a line feed
pub data LineStarts : List ℕ → Type 0 where
  first : LineStarts []
  after : (lines : List ℕ) → LineStarts (lines ++ (line_feed ∷ []))

-- its last line is blank: gaps alone, and the line feed
pub record EndsBlank (text : List ℕ) : Type 0 where
  pub front : List ℕ
  pub gaps : List ℕ
  pub is : text ≡ front ++ (gaps ++ (line_feed ∷ []))
  pub starts : LineStarts front
  pub empties : All (λ (c : Character). is_empty (glyph_of c.code) ≡ true) (characters_of gaps)

-- a text in pieces, and the marked texts of the pieces, joined
pub data Pieces : List ℕ → List ℕ → Type 0 where
  last : {text bytes : List ℕ} → marking text ≡ marked bytes → Pieces text bytes
  before : {text rest bytes more : List ℕ} → EndsBlank text → marking text ≡ marked bytes → Pieces rest more → Pieces (text ++ rest) (bytes ++ more)
