-- Examples, proved by computing: the paper's table with years as `show` writes it; a text as a person writes it, which makes the paper's table; texts that
-- aren't of the form, each with its place, line and column; and the limits of the form in their numerals. What is mistyped in a definition is found here.
use Prim.Native.Nat.{ℕ}
use Prim.Native.String.{String}
use mathlib.Core.Bool.{Bool, true, false}
use mathlib.Core.List.{List, [], ◌∷◌, ◌++◌, flatten, map}
use mathlib.Core.Path.{◌≡◌, refl}
use lib.ListN.{replicate}
use Rattle.table.specs.Example.{ascii, image, dated_image}
use Rattle.form.specs.Reading.{has_room}
use Rattle.form.specs.Calls.{number_of, place_of, line_of, column_of, roomed, making}
use Rattle.form.specs.Showing.{shown}
use Rattle.form.specs.declared.Draft.{Draft}
use Rattle.form.specs.declared.Keyword.TheVariants.{Letter, Entry, Context, Transition, Decision}
use Rattle.form.specs.inside.Computing.{computing}

-- a text of these lines
unfoldable pub text_of : List String → List ℕ
text_of lines = flatten (map (λ (line : String). ascii line ++ 10 ∷ []) lines)

-- ---- What is shown

pub example_shown :
    shown dated_image
    ≡ text_of
    ("dated"
    ∷ "classes  5"
    ∷ "variables  1"
    ∷ ""
    ∷ "letter _   2  0"
    ∷ "letter .   3 50"
    ∷ "letter -   3 36"
    ∷ "letter $   2 99"
    ∷ "letter A   1  1"
    ∷ "letter B   1  3"
    ∷ "letter C   1  9"
    ∷ "letter D   1 25"
    ∷ "letter E   1 17"
    ∷ "letter F   1 11"
    ∷ "letter I   1 10"
    ∷ "letter L   1  7"
    ∷ "letter M   1 13"
    ∷ "letter N   1 29"
    ∷ "letter O   1 21"
    ∷ "letter P   1 15"
    ∷ "letter R   1 23"
    ∷ "letter S   1 14"
    ∷ "letter U   1 37"
    ∷ ""
    ∷ "entry COM         4 -  = : 36          from 1932 to 2015"
    ∷ "entry FUL         5 -  = : 48  7"
    ∷ "entry BLIND       4 1  = :  3  7"
    ∷ "entry $P          2 -  = : 72"
    ∷ "entry $L          2 -  = : 70"
    ∷ "entry $S          2 -  = : 70 71"
    ∷ "entry $N          2 -  = : 73"
    ∷ ""
    ∷ "context  2  3  3  3"
    ∷ ""
    ∷ "transition SR-SS"
    ∷ ""
    ∷ "decision GGGNY Y"
    ∷ "decision ---G- -"
    ∷ [])
unfolding computing text_of
example_shown = refl

-- ---- What is made: of a text in a person's own hand the paper's table

pub example_made :
    (out : List ℕ)
    → making
    (text_of
    ("# the paper's table"
    ∷ ""
    ∷ "  classes 005 # five"
    ∷ "variables\t1\r"
    ∷ "letter _ 2 0"
    ∷ "letter . 3 50"
    ∷ "letter - 3 36"
    ∷ "letter $ 2 99"
    ∷ "letter A 1 1"
    ∷ "letter B 1 3"
    ∷ "letter C 1 9"
    ∷ "letter D 1 25"
    ∷ "letter E 1 17"
    ∷ "letter F 1 11"
    ∷ "letter I 1 10"
    ∷ "letter L 1 7"
    ∷ "letter M 1 13"
    ∷ "letter N 1 29"
    ∷ "letter O 1 21"
    ∷ "letter P 1 15"
    ∷ "letter R 1 23"
    ∷ "letter S 1 14"
    ∷ "letter U 1 37"
    ∷ "entry COM 4 0 = : 36 # begins a word"
    ∷ "entry FUL   5 - = : 48 7"
    ∷ "entry BLIND 4 1 5 : 3 7 99 99"
    ∷ "entry $P    2 - = : 72"
    ∷ "entry $L    2 - = : 70"
    ∷ "entry $S    2 - = : 70 71"
    ∷ "entry $N    2 - = : 73"
    ∷ "context 2 3 3 3"
    ∷ "transition SR-SS"
    ∷ "decision GGGNY Y"
    ∷ "decision ---G- -"
    ∷ []))
    out
    ≡ roomed out image
unfolding computing text_of
example_made out = refl

-- ---- Years, of which either may be missing, to the last that there is

abbrev pub years_image : List ℕ
years_image =
    32 ∷ 1 ∷ 0 ∷ 65 ∷ 1 ∷ 1 ∷ 66 ∷ 1 ∷ 3
    ∷ 1 ∷ 65 ∷ 0 ∷ 0 ∷ 0 ∷ 0 ∷ 0 ∷ 0 ∷ 0 ∷ 0 ∷ 0 ∷ 0 ∷ 1 ∷ 1 ∷ 7 ∷ 99 ∷ 99 ∷ 99 ∷ 140 ∷ 7 ∷ 255 ∷ 255
    ∷ 1 ∷ 66 ∷ 0 ∷ 0 ∷ 0 ∷ 0 ∷ 0 ∷ 0 ∷ 0 ∷ 0 ∷ 0 ∷ 0 ∷ 1 ∷ 1 ∷ 99 ∷ 99 ∷ 99 ∷ 99 ∷ 0 ∷ 0 ∷ 223 ∷ 7
    ∷ 1 ∷ 32 ∷ 0 ∷ 0 ∷ 0 ∷ 0 ∷ 0 ∷ 0 ∷ 0 ∷ 0 ∷ 0 ∷ 0 ∷ 1 ∷ 1 ∷ 99 ∷ 99 ∷ 99 ∷ 99 ∷ 0 ∷ 0 ∷ 255 ∷ 255
    ∷ 2 ∷ 32 ∷ 65 ∷ 0 ∷ 0 ∷ 0 ∷ 0 ∷ 0 ∷ 0 ∷ 0 ∷ 0 ∷ 0 ∷ 1 ∷ 1 ∷ 1 ∷ 2 ∷ 3 ∷ 4 ∷ 255 ∷ 255 ∷ 255 ∷ 255
    ∷ 71
    ∷ 98 ∷ 0 ∷ 89 ∷ 0 ∷ 1 ∷ 0 ∷ 1 ∷ 0 ∷ 1 ∷ 0 ∷ 1 ∷ 0 ∷ 66 ∷ 52 ∷ []

pub example_years_made :
    (out : List ℕ)
    → making
    (text_of
    ("dated"
    ∷ "classes 1"
    ∷ "variables 0"
    ∷ "letter _ 1 0"
    ∷ "letter A 1 1"
    ∷ "letter B 1 3"
    ∷ "entry A 1 - = : 7 from 1932"
    ∷ "entry B 1 - = : to 2015"
    ∷ "entry _ 1 - = :"
    ∷ "entry _A 1 - 1 : 1 2 3 4 from 65535 to 65535"
    ∷ "decision G"
    ∷ []))
    out
    ≡ roomed out years_image
unfolding computing text_of
example_years_made out = refl

pub example_years_shown :
    shown years_image
    ≡ text_of
    ("dated"
    ∷ "classes  1"
    ∷ "variables  0"
    ∷ ""
    ∷ "letter _   1  0"
    ∷ "letter A   1  1"
    ∷ "letter B   1  3"
    ∷ ""
    ∷ "entry A           1 -  = :  7          from 1932"
    ∷ "entry B           1 -  = :             to 2015"
    ∷ "entry _           1 -  = :"
    ∷ "entry _A          1 -  1 :  1  2  3  4 from 65535"
    ∷ ""
    ∷ "decision G"
    ∷ [])
unfolding computing text_of
example_years_shown = refl

-- symbols that the form itself uses: the letters blank, #, _ and \, a string of three of them
pub example_symbols :
    making (text_of ("classes 1" ∷ "variables 0" ∷ "letter _ 1 0" ∷ "letter \\# 1 1" ∷ "letter \\_ 1 2" ∷ "letter \\\\ 1 3" ∷ "entry _\\#\\_\\\\ 1 - 2 :" ∷ "decision G" ∷ []))
    (replicate 46 7)
    ≡ roomed (replicate 46 7)
    (32 ∷ 1 ∷ 0 ∷ 35 ∷ 1 ∷ 1 ∷ 95 ∷ 1 ∷ 2 ∷ 92 ∷ 1 ∷ 3
    ∷ 4 ∷ 32 ∷ 35 ∷ 95 ∷ 92 ∷ 0 ∷ 0 ∷ 0 ∷ 0 ∷ 0 ∷ 0 ∷ 0 ∷ 1 ∷ 2 ∷ 99 ∷ 99 ∷ 99 ∷ 99
    ∷ 71
    ∷ 31 ∷ 0 ∷ 19 ∷ 0 ∷ 1 ∷ 0 ∷ 1 ∷ 0 ∷ 1 ∷ 0 ∷ 1 ∷ 0 ∷ 66 ∷ 51 ∷ [])
unfolding computing text_of
example_symbols = refl

-- ---- What isn't of the form

-- number, place, line and column
abbrev pub told : List String → List ℕ
told lines = let a = (making (text_of lines) []).answer in number_of a ∷ place_of a ∷ line_of a ∷ column_of a ∷ []

-- after the first lines of a table of one class and one variable, with a letter
unfoldable pub after : List String → List ℕ
after lines = told ("classes 1" ∷ "variables 1" ∷ "letter _ 1 0" ∷ lines)

pub example_slips :
    told [] ∷ told ("letter A 1 1" ∷ []) ∷ told ("classes 0" ∷ []) ∷ told ("classes 41" ∷ []) ∷ told ("classes 4x" ∷ []) ∷ told ("classes 1" ∷ "dated" ∷ [])
    ∷ told ("classes 40" ∷ "variables 16" ∷ []) ∷ told ("classes 40" ∷ "variables 15" ∷ [])
    ∷ []
    ≡ (22 ∷ 0 ∷ 1 ∷ 1 ∷ []) ∷ (22 ∷ 0 ∷ 1 ∷ 1 ∷ []) ∷ (22 ∷ 9 ∷ 1 ∷ 10 ∷ []) ∷ (22 ∷ 9 ∷ 1 ∷ 10 ∷ []) ∷ (22 ∷ 9 ∷ 1 ∷ 10 ∷ []) ∷ (22 ∷ 10 ∷ 2 ∷ 1 ∷ [])
    ∷ (22 ∷ 22 ∷ 2 ∷ 12 ∷ []) ∷ (22 ∷ 24 ∷ 3 ∷ 1 ∷ [])
    ∷ []
unfolding computing text_of
example_slips = refl

-- an unknown word; a row too short and too long; no transition; a letter after an entry; a class of 256; eleven symbols; a shift that isn't one; no colon; a fifth sign; a
-- year in a table that isn't dated; a backslash before another symbol; one transition too many
pub example_later_slips :
    after ("lettre A 1 1" ∷ []) ∷ after ("transition" ∷ []) ∷ after ("transition SS" ∷ []) ∷ after [] ∷ after ("entry _ 1 - = :" ∷ "letter A 1 1" ∷ [])
    ∷ after ("letter A 256 1" ∷ []) ∷ after ("entry ABCDEFGHIJK 1 - = :" ∷ []) ∷ after ("entry _ 1 - - : 1" ∷ []) ∷ after ("entry _ 1 - = 1" ∷ [])
    ∷ after ("entry _ 1 - = : 1 2 3 4 5" ∷ []) ∷ after ("entry _ 1 - = : 1 from 1932" ∷ []) ∷ after ("letter \\A 1 1" ∷ []) ∷ after ("transition S" ∷ "transition S" ∷ [])
    ∷ []
    ≡ (22 ∷ 35 ∷ 4 ∷ 1 ∷ []) ∷ (22 ∷ 45 ∷ 4 ∷ 11 ∷ []) ∷ (22 ∷ 47 ∷ 4 ∷ 13 ∷ []) ∷ (22 ∷ 35 ∷ 4 ∷ 1 ∷ []) ∷ (22 ∷ 51 ∷ 5 ∷ 1 ∷ [])
    ∷ (22 ∷ 46 ∷ 4 ∷ 12 ∷ []) ∷ (22 ∷ 51 ∷ 4 ∷ 17 ∷ []) ∷ (22 ∷ 47 ∷ 4 ∷ 13 ∷ []) ∷ (22 ∷ 49 ∷ 4 ∷ 15 ∷ [])
    ∷ (22 ∷ 59 ∷ 4 ∷ 25 ∷ []) ∷ (22 ∷ 53 ∷ 4 ∷ 19 ∷ []) ∷ (22 ∷ 43 ∷ 4 ∷ 9 ∷ []) ∷ (22 ∷ 48 ∷ 5 ∷ 1 ∷ [])
    ∷ []
unfolding computing text_of after
example_later_slips = refl

-- the last year and the largest byte, which are of the form (8: no byte is lent), and what is past them; the first and the last symbol, and what is beside them
pub example_ends :
    told ("dated" ∷ "classes 1" ∷ "variables 0" ∷ "letter _ 255 255" ∷ "entry _ 255 255 255 : 255 from 65535" ∷ [])
    ∷ told ("dated" ∷ "classes 1" ∷ "variables 0" ∷ "letter _ 1 0" ∷ "entry _ 1 - = : from 65536" ∷ []) ∷ told ("classes 1" ∷ "variables 0" ∷ "letter _ 1 256" ∷ [])
    ∷ []
    ≡ (8 ∷ 39 ∷ 0 ∷ 0 ∷ []) ∷ (22 ∷ 66 ∷ 5 ∷ 26 ∷ []) ∷ (22 ∷ 35 ∷ 3 ∷ 14 ∷ []) ∷ []
unfolding computing text_of
example_ends = refl

pub example_symbol_ends :
    map
    (λ (c : ℕ). let a = (making (ascii "classes 1\nvariables 0\nletter " ++ c ∷ ascii " 1 1") []).answer in number_of a ∷ place_of a ∷ [])
    (31 ∷ 33 ∷ 126 ∷ 127 ∷ [])
    ≡ (22 ∷ 29 ∷ []) ∷ (8 ∷ 17 ∷ []) ∷ (8 ∷ 17 ∷ []) ∷ (22 ∷ 29 ∷ []) ∷ []
unfolding computing
example_symbol_ends = refl

-- ---- How many lines of each kind there may be

-- a draft of two variables with so many of each
abbrev pub full : ℕ → ℕ → ℕ → ℕ → ℕ → Draft
full l e c t x = record { stage = 8; dated = false; classes = 5; variables = 2; letters = l; entries = e; contexts = c; transitions = t; decisions = x }

abbrev pub rooms : Draft → List Bool
rooms d = has_room d Letter ∷ has_room d Entry ∷ has_room d Context ∷ has_room d Transition ∷ has_room d Decision ∷ []

pub example_rooms :
    (rooms (full 62 1198 4 1 19) ≡ true ∷ true ∷ true ∷ true ∷ true ∷ [])
    × (rooms (full 63 1199 5 2 20) ≡ false ∷ false ∷ false ∷ false ∷ false ∷ [])
unfolding computing
example_rooms = (refl, refl)
