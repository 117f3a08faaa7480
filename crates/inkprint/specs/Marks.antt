-- How inkprint is marked, character by character: a capital, an accent, a quote, a dash, the end of a line, a blank line. What a rule looks at past its own
-- character is the rest of the line at most.
use Rattle.std.specs.Prelude.{ℕ, ◌+◌, ◌-◌, Bool, true, false, cond, not, ◌&&◌, List, [], ◌∷◌, ◌++◌, ltb, eqb, length, take}
use Rattle.inkprint.specs.Numbers.{capital_sign, accent_sign, code_sign, paragraph_code, page_code, quote_code, right_code, literal_code, line_feed, blank, apostrophe, hyphen, period}
use Rattle.inkprint.specs.Characters.{characters_of}
use Rattle.inkprint.specs.Glyphs.{glyph_of, is_marked, is_letter, is_capital, is_apostrophe}
use Rattle.inkprint.specs.declared.Character.{Character}
use Rattle.inkprint.specs.declared.Glyph.{Glyph}
use Rattle.inkprint.specs.declared.Glyph.TheVariants.{Letter, Plain, Literal, Gap, Nothing, Feed, Page, LongDash, Dots, Opens, Closes, Unmarked}
use Rattle.inkprint.specs.declared.Line.{Line}
use Rattle.inkprint.specs.declared.Line.TheVariants.{Starts, Blank, Filled}
use Rattle.inkprint.specs.declared.Signs.{Signs}
use Rattle.inkprint.specs.declared.State.{State}
use Rattle.inkprint.specs.declared.Step.{Step}
use Rattle.inkprint.specs.declared.Word.{Word}
use Rattle.inkprint.specs.declared.Word.TheVariants.{Outside, Capitals, Mixed}

-- ---- A mark is at most four bytes

unfoldable pub bytes_of : Signs → List ℕ
bytes_of m = take m.count m.bytes

abbrev pub signs : List ℕ → Signs
signs bytes = record { count = length bytes; bytes = take 4 (bytes ++ 0 ∷ 0 ∷ 0 ∷ 0 ∷ []) }

-- ---- What comes next

unfoldable pub starts_letter : List Character → Bool
starts_letter [] = false
starts_letter (c ∷ cs) = is_letter (glyph_of c.code)

unfoldable pub starts_capital : List Character → Bool
starts_capital [] = false
starts_capital (c ∷ cs) = is_capital (glyph_of c.code)

-- a capital, also after an apostrophe
unfoldable pub capital_next : List Character → Bool
capital_next [] = false
capital_next (c ∷ cs) = cond (is_apostrophe (glyph_of c.code)) (starts_capital cs) (is_capital (glyph_of c.code))

-- the word that goes on here has capitals alone. An apostrophe belongs to it where a capital follows
unfoldable pub capitals_on : List Character → Bool
capitals_on [] = true
capitals_on (c ∷ cs) =
    elim (is_letter (glyph_of c.code)) [
      | true ↦ elim (is_capital (glyph_of c.code)) [ true ↦ capitals_on cs | false ↦ false ]
      | false ↦ elim (is_apostrophe (glyph_of c.code) && starts_capital cs) [ true ↦ capitals_on cs | false ↦ true ]
    ]

-- a word that begins with a capital before these has two or more, and nothing but capitals
unfoldable pub all_capitals : List Character → Bool
all_capitals rest = capital_next rest && capitals_on rest

-- the line goes on with gaps alone, and ends
unfoldable pub is_blank : List Character → Bool
is_blank [] = false
is_blank (c ∷ cs) =
    elim (glyph_of c.code) [
      | Letter l k a ↦ false
      | Plain s ↦ false
      | Literal s ↦ false
      | Gap ↦ is_blank cs
      | Nothing ↦ is_blank cs
      | Feed ↦ true
      | Page ↦ false
      | LongDash ↦ false
      | Dots ↦ false
      | Opens ↦ false
      | Closes ↦ false
      | Unmarked ↦ false
    ]

-- ---- The state: whether the line starts here, is known to be blank, or has something; whether a word stands here, one of capitals alone or another; and
-- whether a single quote is open

abbrev pub state : Line → Word → Bool → State
state l w s = record { line = l; word = w; single = s }

abbrev pub start : State
start = state Starts Outside false

abbrev pub step : Signs → State → Step
step m s = record { mark = m; next = s }

abbrev pub is_filled : Line → Bool
is_filled Starts = false
is_filled Blank = false
is_filled Filled = true

-- whether the line is blank, where its rest may be
abbrev pub stays_blank : Line → Bool → Bool
stays_blank Starts rest = rest
stays_blank Blank rest = true
stays_blank Filled rest = false

abbrev pub is_outside : Word → Bool
is_outside Outside = true
is_outside Capitals = false
is_outside Mixed = false

abbrev pub is_capitals : Word → Bool
is_capitals Outside = false
is_capitals Capitals = true
is_capitals Mixed = false

-- ---- A letter: = before a capital, == before a word of capitals alone, % before an accented one

-- which kind of word it stands in
unfoldable pub word_of : State → Bool → List Character → Word
word_of s capital rest = cond (is_outside s.word) (cond (capital && all_capitals rest) Capitals Mixed) s.word

-- how many signs of a capital stand before it
unfoldable pub capital_signs : State → Bool → Word → ℕ
capital_signs s capital word = cond capital (cond (is_capitals word) (cond (is_outside s.word) 2 0) 1) 0

unfoldable pub letter_mark : ℕ → Bool → ℕ → Signs
letter_mark capitals accented letter =
    cond accented
    (cond (eqb capitals 0) (signs (accent_sign ∷ letter ∷ []))
    (cond (eqb capitals 1) (signs (capital_sign ∷ accent_sign ∷ letter ∷ [])) (signs (capital_sign ∷ capital_sign ∷ accent_sign ∷ letter ∷ []))))
    (cond (eqb capitals 0) (signs (letter ∷ []))
    (cond (eqb capitals 1) (signs (capital_sign ∷ letter ∷ [])) (signs (capital_sign ∷ capital_sign ∷ letter ∷ []))))

unfoldable pub letter_step : State → ℕ → Bool → Bool → List Character → Step
letter_step s letter capital accented rest =
    step (letter_mark (capital_signs s capital (word_of s capital rest)) accented letter) (state Filled (word_of s capital rest) s.single)

-- ---- A sign that stands for itself. An apostrophe before a capital goes on with its word

unfoldable pub sign_step : State → ℕ → List Character → Step
sign_step s sign rest = step (signs (sign ∷ [])) (state Filled (cond (eqb sign apostrophe && starts_capital rest) s.word Outside) s.single)

-- ---- A right single quote is an apostrophe before a letter, and where none is open

unfoldable pub close_step : State → List Character → Step
close_step s rest =
    cond (s.single && not (starts_letter rest)) (step (signs (code_sign ∷ quote_code ∷ right_code ∷ [])) (state Filled Outside false))
    (sign_step s apostrophe rest)

-- ---- A gap, nothing in a blank line

unfoldable pub gap_step : State → List Character → Step
gap_step s rest =
    cond (stays_blank s.line (is_blank rest)) (step (signs []) (state Blank Outside s.single))
    (step (signs (blank ∷ [])) (state Filled Outside s.single))

-- ---- A line's end: $P where the line is blank, and then all begins anew

unfoldable pub feed_step : State → Step
feed_step s =
    cond (is_filled s.line) (step (signs (line_feed ∷ [])) (state Starts Outside s.single)) (step (signs (code_sign ∷ paragraph_code ∷ [])) start)

-- ---- Any character. `rest` is what follows it

abbrev pub step_of : State → Glyph → List Character → Step
step_of s (Letter l c a) rest = letter_step s l c a rest
step_of s (Plain c) rest = sign_step s c rest
step_of s (Literal c) rest = step (signs (code_sign ∷ literal_code ∷ c ∷ [])) (state Filled Outside s.single)
step_of s Gap rest = gap_step s rest
step_of s Nothing rest = step (signs []) (state s.line Outside s.single)
step_of s Feed rest = feed_step s
step_of s Page rest = step (signs (code_sign ∷ page_code ∷ [])) (state Filled Outside s.single)
step_of s LongDash rest = step (signs (hyphen ∷ hyphen ∷ [])) (state Filled Outside s.single)
step_of s Dots rest = step (signs (period ∷ period ∷ period ∷ [])) (state Filled Outside s.single)
step_of s Opens rest = step (signs (code_sign ∷ quote_code ∷ [])) (state Filled Outside true)
step_of s Closes rest = close_step s rest
step_of s Unmarked rest = step (signs []) s

-- ---- The whole text: its marked text, or the place of the first character that has no mark

pub data Marking : Type 0 where
  marked : List ℕ → Marking
  unmarked : ℕ → Marking

unfoldable pub mark_from : State → ℕ → List ℕ → List Character → Marking
mark_from s at sofar [] = marked sofar
mark_from s at sofar (c ∷ cs) =
    elim (is_marked (glyph_of c.code)) [
      | true ↦
          mark_from (step_of s (glyph_of c.code) cs).next (at + c.size) (sofar ++ bytes_of (step_of s (glyph_of c.code) cs).mark) cs
      | false ↦ unmarked at
    ]

unfoldable pub marking : List ℕ → Marking
marking text = mark_from start 0 [] (characters_of text)

-- ---- Where each byte of the marked text comes from: the place of its character in the ink text

-- the character whose mark has byte `n` of what is marked from here on; the end where it is past all
unfoldable pub source_from : State → ℕ → ℕ → List Character → ℕ
source_from s at n [] = at
source_from s at n (c ∷ cs) =
    elim (ltb n (step_of s (glyph_of c.code) cs).mark.count) [
      | true ↦ at
      | false ↦ source_from (step_of s (glyph_of c.code) cs).next (at + c.size) (n - (step_of s (glyph_of c.code) cs).mark.count) cs
    ]

unfoldable pub source_of : List ℕ → ℕ → ℕ
source_of text n = source_from start 0 n (characters_of text)
