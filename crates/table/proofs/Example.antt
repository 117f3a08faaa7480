-- The table of document 01's examples, in the old form and with years: its length, its distances, that it is accepted, and that its image is
-- read as its lists. What one wrong byte of it does, and the grouping of document 01's reading. All by computing.
use Prim.Native.Nat.{ℕ, ◌+◌}
use mathlib.Core.Path.{◌≡◌, refl}
use mathlib.Core.List.{List, [], ◌∷◌, map}
use mathlib.Core.Option.{none, some}
use lib.ListN.{length, set, take, replicate}
use lib.Seq.{sets}
use Rattle.table.specs.Cells.{cell_of}
use Rattle.table.specs.inside.Computing.{computing}
use Rattle.table.specs.Sections.{distance}
use Rattle.table.specs.Table.{Entry, table_of}
use Rattle.table.specs.Grouping.{first_break}
use Rattle.table.specs.Verdict.{verdict_of}
use Rattle.table.specs.Refusals.{verdict_number, verdict_place}
use Rattle.table.specs.Example.{image, table, dated_image, dated_table, ascii}
use Rattle.std.specs.Prelude.{Ok}

-- all six dots, none, and the letters A, C and E of the table
cells_by_dots :
    map cell_of ((1 ∷ 2 ∷ 3 ∷ 4 ∷ 5 ∷ 6 ∷ []) ∷ [] ∷ (1 ∷ []) ∷ (1 ∷ 4 ∷ []) ∷ (1 ∷ 5 ∷ []) ∷ []) ≡ 63 ∷ 0 ∷ 1 ∷ 9 ∷ 17 ∷ []
unfolding computing
cells_by_dots = refl

pub image_length : length image ≡ 218
image_length = refl

pub image_distances : map (distance image) (0 ∷ 1 ∷ 2 ∷ 3 ∷ 4 ∷ []) ≡ 204 ∷ 147 ∷ 21 ∷ 17 ∷ 12 ∷ []
unfolding computing
image_distances = refl

pub image_accepted : verdict_of image ≡ (Ok tt)
unfolding computing
image_accepted = refl

pub image_decoded : table_of image ≡ table
unfolding computing
image_decoded = refl

-- ---- The same table with years

pub dated_length : length dated_image ≡ 246
dated_length = refl

pub dated_distances : map (distance dated_image) (0 ∷ 1 ∷ 2 ∷ 3 ∷ 4 ∷ []) ≡ 232 ∷ 175 ∷ 21 ∷ 17 ∷ 12 ∷ []
unfolding computing
dated_distances = refl

pub dated_accepted : verdict_of dated_image ≡ (Ok tt)
unfolding computing
dated_accepted = refl

pub dated_decoded : table_of dated_image ≡ dated_table
unfolding computing
dated_decoded = refl

-- the years of each entry: in the old form always
years_read : List ℕ → List (ℕ × ℕ)
years_read i = map (λ (e : Entry). (e.first, e.last)) (table_of i).entries

years_read_lem : map years_read (image ∷ dated_image ∷ []) ≡ replicate 7 (0, 65535) ∷ ((1932, 2015) ∷ replicate 6 (0, 65535)) ∷ []
unfolding computing years_read
years_read_lem = refl

-- ---- The verdicts on images with one byte put wrong: its offset, the byte, the number, the place

record Damage : Type 0 where
  offset : ℕ
  byte : ℕ
  number : ℕ
  place : ℕ

wrong : ℕ → ℕ → ℕ → ℕ → Damage
wrong o b n p = record { offset = o; byte = b; number = n; place = p }

-- the offsets of the eleventh letter, of the entries COM, BLIND and $L, of the context, the transition, both columns and the trailer
abbrev letter_i : ℕ
letter_i = 30

abbrev entry_com : ℕ
entry_com = 57

abbrev entry_blind : ℕ
entry_blind = 93

abbrev entry_l : ℕ
entry_l = 129

abbrev context1 : ℕ
context1 = 183

abbrev transition1 : ℕ
transition1 = 187

abbrev column1 : ℕ
column1 = 192

abbrev column2 : ℕ
column2 = 198

abbrev trailer : ℕ
trailer = 204

damages : List Damage
damages =
    wrong (trailer + 13) 52 1 0  -- the form with years: 126 bytes aren't whole records of 22
    ∷ wrong (trailer + 13) 53 1 0  -- the last mark
    ∷ wrong (trailer + 10) 0 1 0  -- no class
    ∷ wrong (trailer + 10) 41 1 0  -- too many classes
    ∷ wrong (trailer + 11) 16 1 0  -- too many variables
    ∷ wrong trailer 203 1 0  -- the first distance
    ∷ wrong (trailer + 4) 148 1 0  -- a distance that rises
    ∷ wrong (trailer + 2) 148 1 0  -- an alphabet that isn't whole records
    ∷ wrong letter_i 124 2 letter_i  -- the bar as a symbol
    ∷ wrong letter_i 31 2 letter_i  -- a symbol below 32
    ∷ wrong letter_i 65 2 letter_i  -- a repeated symbol
    ∷ wrong 0 31 2 0  -- the first record
    ∷ wrong 1 0 2 1  -- no class
    ∷ wrong (letter_i + 1) 6 2 (letter_i + 1)  -- a class that isn't there
    ∷ wrong (letter_i + 2) 70 2 (letter_i + 2)  -- a format sign in the alphabet
    ∷ wrong entry_com 0 11 entry_com  -- no length
    ∷ wrong entry_blind 11 11 entry_blind  -- a length over 10, whatever follows
    ∷ wrong (entry_com + 3) 88 11 (entry_com + 3)  -- a character outside the alphabet
    ∷ wrong (entry_blind + 1) 0 11 (entry_blind + 1)  -- no character where one is due
    ∷ wrong entry_blind 6 11 (entry_blind + 6)  -- a length over its string
    ∷ wrong (entry_com + 4) 77 11 (entry_com + 4)  -- a byte past the length
    ∷ wrong entry_blind 4 11 (entry_blind + 5)  -- a length under its string
    ∷ wrong (entry_blind + 10) 68 11 (entry_blind + 10)  -- the last string byte
    ∷ wrong (entry_blind + 11) 2 11 (entry_blind + 11)  -- a context that isn't there
    ∷ wrong (entry_com + 12) 6 11 (entry_com + 12)  -- a class that isn't there
    ∷ wrong (entry_blind + 13) 6 11 (entry_blind + 13)  -- a shift over the length
    ∷ wrong (entry_blind + 13) 0 11 (entry_blind + 13)  -- no shift
    ∷ wrong (entry_com + 14) 74 11 (entry_com + 14)  -- a sign above the format signs
    ∷ wrong (entry_blind + 15) 69 11 (entry_blind + 15)  -- a sign below the format signs
    ∷ wrong (entry_blind + 14) 99 11 (entry_blind + 15)  -- a 99 before a sign
    ∷ wrong (entry_com + 17) 7 11 (entry_com + 17)  -- a sign after a 99
    ∷ wrong (entry_com + 14) 99 0 0  -- an entry that prints nothing is right
    ∷ wrong context1 6 12 context1  -- a class that isn't there
    ∷ wrong (context1 + 3) 0 12 (context1 + 3)  -- no class in a context
    ∷ wrong transition1 71 13 transition1  -- G in a transition
    ∷ wrong (transition1 + 4) 89 13 (transition1 + 4)  -- Y in a transition
    ∷ wrong column1 82 14 column1  -- R in a decision
    ∷ wrong (column1 + 5) 71 14 (column1 + 5)  -- G as a variable's condition
    ∷ wrong (column2 + 3) 84 14 (column2 + 3)  -- T in the second column
    ∷ wrong (column2 + 5) 70 14 (column2 + 5)  -- F as its condition
    ∷ wrong 0 33 3 0  -- no blank
    ∷ wrong (entry_l + 1) 67 4 entry_l  -- CL after $P, where COM stands first
    ∷ []

-- the number and the place of the verdict on an image
told : List ℕ → ℕ × ℕ
told i = let v = verdict_of i in (verdict_number v, verdict_place v)

judged : List ℕ → Damage → ℕ × ℕ
judged i d = told (set i d.offset d.byte)

answers : List Damage → List (ℕ × ℕ)
answers = map (λ (d : Damage). (d.number, d.place))

damages_judged : map (judged image) damages ≡ answers damages
unfolding computing damages judged answers told wrong
damages_judged = refl

-- of two wrong bytes the first in image order is named, whatever their sections
two_damages_judged :
    map told
    (set (set image (entry_blind + 13) 6) (entry_blind + 17) 74 ∷ set (set image (context1 + 1) 0) (entry_l + 12) 0 ∷ set (set image (transition1 + 1) 0) (entry_com + 12) 0 ∷ set (set image column1 0) transition1 0 ∷ [])
    ≡ (11, entry_blind + 13) ∷ (11, entry_l + 12) ∷ (11, entry_com + 12) ∷ (13, transition1) ∷ []
unfolding computing told
two_damages_judged = refl

-- an image that is cut short, down to nothing
short_images_judged : map (λ n. verdict_number (verdict_of (take n image))) (0 ∷ 13 ∷ 14 ∷ 217 ∷ []) ≡ 1 ∷ 1 ∷ 1 ∷ 1 ∷ []
unfolding computing
short_images_judged = refl

-- a ten-character string: right with context 0, and wrong with a context
ten : ℕ → List ℕ
ten c = sets image entry_com (10 ∷ 67 ∷ 79 ∷ 77 ∷ 67 ∷ 79 ∷ 77 ∷ 67 ∷ 79 ∷ 77 ∷ 67 ∷ c ∷ [])

ten_characters_judged : map told (map ten (0 ∷ 1 ∷ [])) ≡ (0, 0) ∷ (11, entry_com + 11) ∷ []
unfolding computing ten told
ten_characters_judged = refl

-- ---- The verdicts on the image with years. A record has 22 bytes: the offsets of the entries COM, FUL, $L and $N, and of the trailer

abbrev dated_com : ℕ
dated_com = 57

abbrev dated_ful : ℕ
dated_ful = 79

abbrev dated_l : ℕ
dated_l = 145

abbrev dated_n : ℕ
dated_n = 189

abbrev dated_trailer : ℕ
dated_trailer = 232

dated_damages : List Damage
dated_damages =
    wrong (dated_trailer + 13) 51 1 0  -- the old form: 154 bytes aren't whole records of 18
    ∷ wrong (dated_trailer + 13) 53 1 0  -- the last mark
    ∷ wrong (dated_com + 18) 224 11 (dated_com + 18)  -- 2016 to 2015
    ∷ wrong (dated_com + 18) 223 0 0  -- 2015 alone
    ∷ wrong (dated_com + 19) 8 11 (dated_com + 18)  -- 2188 to 2015
    ∷ wrong (dated_com + 20) 139 11 (dated_com + 18)  -- 1932 to 1931
    ∷ wrong (dated_com + 20) 140 0 0  -- 1932 alone
    ∷ wrong (dated_com + 21) 6 11 (dated_com + 18)  -- 1932 to 1759
    ∷ wrong (dated_ful + 1) 88 11 (dated_ful + 1)  -- a character outside the alphabet
    ∷ wrong (dated_n + 13) 3 11 (dated_n + 13)  -- a shift over the length
    ∷ wrong (dated_n + 17) 7 11 (dated_n + 17)  -- a sign after a 99
    ∷ wrong (dated_l + 1) 67 4 dated_l  -- CL after $P, where COM stands first
    ∷ []

dated_damages_judged : map (judged dated_image) dated_damages ≡ answers dated_damages
unfolding computing dated_damages judged answers told wrong
dated_damages_judged = refl

-- the years of a record, low byte first: 255 to 256, 256 to 255, of COM; 1 to 0 of $N. And of two wrong bytes the first: a sign before the year, a year
-- before the next record
dated_years_judged :
    map told
    (sets dated_image (dated_com + 18) (255 ∷ 0 ∷ 0 ∷ 1 ∷ []) ∷ sets dated_image (dated_com + 18) (0 ∷ 1 ∷ 255 ∷ 0 ∷ []) ∷ sets dated_image (dated_n + 18) (1 ∷ 0 ∷ 0 ∷ 0 ∷ []) ∷ set (set dated_image (dated_com + 19) 8) (dated_com + 17) 7 ∷ set (set dated_image (dated_com + 19) 8) dated_ful 0 ∷ [])
    ≡ (0, 0) ∷ (11, dated_com + 18) ∷ (11, dated_n + 18) ∷ (11, dated_com + 17) ∷ (11, dated_com + 18) ∷ []
unfolding computing told
dated_years_judged = refl

-- ---- Grouping: padding is never compared

grouping_read :
    map first_break
    ((ascii "AB" ∷ ascii "ABC" ∷ ascii "AB" ∷ []) ∷ (ascii "ABC" ∷ ascii "AB" ∷ ascii "ABC" ∷ []) ∷ (ascii "ABC" ∷ ascii "AB" ∷ ascii "ABD" ∷ []) ∷ [])
    ≡ none ∷ some 2 ∷ none ∷ []
unfolding computing
grouping_read = refl

-- $P, $PA, $P in an image
padding_not_compared : verdict_of (sets (sets image entry_l (3 ∷ 36 ∷ 80 ∷ 65 ∷ [])) (entry_l + 18) (2 ∷ 36 ∷ 80 ∷ [])) ≡ (Ok tt)
unfolding computing
padding_not_compared = refl
