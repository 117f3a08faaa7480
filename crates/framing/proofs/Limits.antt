-- The limits of 'Cells' and 'The table image' and the answers of 'What comes back' with the paper's numerals written out. At each limit of an image stands
-- a table that is right, and one past it a table that is right in all the rest and refused for that alone. No name of Numbers.antt stands here, so a number
-- that is mistyped there and in the code alike is refused here. All by computing; the images are built here and not in specs/, as nothing else is said of them.
use Prim.Native.Nat.{ℕ, zero, suc, ◌+◌, ◌-◌, ◌*◌, ◌/◌, ◌%◌}
use mathlib.Core.Bool.{true, false}
use mathlib.Core.List.{List, [], ◌∷◌, ◌++◌, map}
use mathlib.Core.Path.{◌≡◌, refl}
use lib.ListN.{length, get_or, set, replicate}
use Rattle.table.specs.Cells.{is_cell}
use Rattle.table.specs.Answers.{refusal_number, refusal_place}
use Rattle.table.specs.Sections.{frame_right}
use Rattle.table.specs.Verdict.{verdict_of}
use Rattle.table.specs.Refusals.{verdict_number, verdict_place}
use Rattle.table.specs.Example.{always}
use Rattle.table.specs.inside.Computing.{computing}
use Rattle.table.specs.declared.Refusal.{Refusal}
use Rattle.table.specs.declared.Refusal.TheVariants.{Frame, Alphabet, Contraction, Context, Transition, Decision, NoBlank, Grouping, Size, LongText, Unknown, Following, File, Dated, Room}

-- ---- An image from its parts, in the old form. The distances are those of the parts' lengths

record Parts : Type 0 where
  letters : List ℕ
  entries : List ℕ
  contexts : List ℕ
  transitions : List ℕ
  decisions : List ℕ
  classes : ℕ
  variables : ℕ

-- a two-byte number, low byte first
two_bytes : ℕ → List ℕ
two_bytes n = n % 256 ∷ n / 256 ∷ []

image_of : Parts → List ℕ
image_of p =
    let d4 : ℕ = length p.decisions in
    let d3 : ℕ = length p.transitions + d4 in
    let d2 : ℕ = length p.contexts + d3 in
    let d1 : ℕ = length p.entries + d2 in
    let d0 : ℕ = length p.letters + d1 in
    p.letters
    ++ p.entries
    ++ p.contexts
    ++ p.transitions
    ++ p.decisions
    ++ two_bytes d0
    ++ two_bytes d1
    ++ two_bytes d2
    ++ two_bytes d3
    ++ two_bytes d4
    ++ p.classes ∷ p.variables ∷ 66 ∷ 51 ∷ []

-- with another last byte: 52 is that of the form with years
marked : ℕ → List ℕ → List ℕ
marked mark image = set image (length image - 1) mark

-- ---- Tables that are right but for the numbers that they are given

-- letters of class 1 and sign 0, by their symbols from `c` on
letters_from : ℕ → ℕ → List ℕ
letters_from c zero = []
letters_from c (suc n) = c ∷ 1 ∷ 0 ∷ letters_from (suc c) n

-- these entries, and so many letters from the blank on, contexts, classes, variables and columns. Every class in a context is 1; every transition, decision
-- and condition is a hyphen
full : List ℕ → ℕ → ℕ → ℕ → ℕ → ℕ → List ℕ
full entries letters contexts classes variables columns =
    image_of
    (record {
      letters = letters_from 32 letters;
      entries = entries;
      contexts = replicate (4 * contexts) 1;
      transitions = replicate (variables * classes) 45;
      decisions = replicate (columns * (classes + variables)) 45;
      classes = classes;
      variables = variables;
    })

-- no entry
sized : ℕ → ℕ → ℕ → ℕ → ℕ → List ℕ
sized = full []

-- one class, the blank, and a second letter with this symbol and this sign
second : ℕ → ℕ → List ℕ
second symbol sign =
    image_of
    (record {
      letters = 32 ∷ 1 ∷ 0 ∷ symbol ∷ 1 ∷ sign ∷ [];
      entries = [];
      contexts = [];
      transitions = [];
      decisions = [];
      classes = 1;
      variables = 0;
    })

-- entries of one blank: length, string, context, class, shift, signs, and these years
entries_of : List ℕ → ℕ → List ℕ
entries_of years zero = []
entries_of years (suc n) =
    (1 ∷ 32 ∷ 0 ∷ 0 ∷ 0 ∷ 0 ∷ 0 ∷ 0 ∷ 0 ∷ 0 ∷ 0 ∷ 0 ∷ 1 ∷ 1 ∷ 0 ∷ 0 ∷ 0 ∷ 0 ∷ years) ++ entries_of years n

-- one class, the blank, and so many entries: without years, and with these
entered : ℕ → List ℕ
entered n = full (entries_of [] n) 1 0 1 0 0

dated : List ℕ → ℕ → List ℕ
dated years n = marked 52 (full (entries_of years n) 1 0 1 0 0)

-- as much of everything as there may be
largest : List ℕ
largest = marked 52 (full (entries_of always 1199) 63 5 40 15 20)

-- the two bytes of distance `k` exchanged
exchanged : ℕ → List ℕ → List ℕ
exchanged k image =
    let at : ℕ = length image - 14 + 2 * k in set (set image at (get_or image (at + 1) 0)) (at + 1) (get_or image at 0)

-- 338 bytes before the trailer, and each of the five distances is 320 or more
long : List ℕ
long = sized 1 0 1 15 20

-- ---- The cases: an image, the number and the place of its verdict

record Case : Type 0 where
  image : List ℕ
  number : ℕ
  place : ℕ

case : List ℕ → ℕ → ℕ → Case
case i n p = record { image = i; number = n; place = p }

cases : List Case
cases =
    -- letters 1 to 63
    case (sized 0 0 1 0 0) 1 0
    ∷ case (sized 1 0 1 0 0) 0 0
    ∷ case (sized 63 0 1 0 0) 0 0
    ∷ case (sized 64 0 1 0 0) 1 0
    -- contexts 0 to 5
    ∷ case (sized 1 5 1 0 0) 0 0
    ∷ case (sized 1 6 1 0 0) 1 0
    -- classes 1 to 40. With none no letter can be right: were the number allowed, the answer would be 2
    ∷ case (sized 1 0 0 0 0) 1 0
    ∷ case (sized 1 0 40 0 0) 0 0
    ∷ case (sized 1 0 41 0 0) 1 0
    -- state variables 0 to 15
    ∷ case (sized 1 0 1 15 0) 0 0
    ∷ case (sized 1 0 1 16 0) 1 0
    -- columns 0 to 20
    ∷ case (sized 1 0 1 0 20) 0 0
    ∷ case (sized 1 0 1 0 21) 1 0
    -- symbols 32 to 126
    ∷ case (second 31 0) 2 3
    ∷ case (second 126 0) 0 0
    ∷ case (second 127 0) 2 3
    -- signs 0 to 64
    ∷ case (second 65 64) 0 0
    ∷ case (second 65 65) 2 5
    -- low byte first
    ∷ case long 0 0
    ∷ case (exchanged 0 long) 1 0
    ∷ case (exchanged 1 long) 1 0
    ∷ case (exchanged 2 long) 1 0
    ∷ case (exchanged 3 long) 1 0
    ∷ case (exchanged 4 long) 1 0
    -- the entries of `entered` are right
    ∷ case (entered 2) 0 0
    -- the last byte 51 or 52
    ∷ case (marked 50 (sized 1 0 1 0 0)) 1 0
    ∷ case (marked 52 (sized 1 0 1 0 0)) 0 0
    ∷ case (marked 53 (sized 1 0 1 0 0)) 1 0
    -- records of 18 bytes with the one, of 22 with the other
    ∷ case (marked 52 (entered 2)) 1 0
    ∷ case (dated always 2) 0 0
    ∷ case (marked 51 (dated always 2)) 1 0
    -- years 0 to 65,535, the first not after the last: bytes 18 and 20 of the record, which lies at 3
    ∷ case (dated (255 ∷ 255 ∷ 255 ∷ 255 ∷ []) 2) 0 0
    ∷ case (dated (255 ∷ 255 ∷ 254 ∷ 255 ∷ []) 2) 11 21
    ∷ case (dated (1 ∷ 0 ∷ 0 ∷ 0 ∷ []) 2) 11 21 ∷ []

judged : Case → ℕ × ℕ
judged c = let v = verdict_of c.image in (verdict_number v, verdict_place v)

-- ---- The limits

-- each answer that refuses, in the order in which they are met; one that has a place of its own is given 3
refusals : List Refusal
refusals =
    Frame ∷ Alphabet 3 ∷ Contraction 3 ∷ Context 3 ∷ Transition 3 ∷ Decision 3 ∷ NoBlank ∷ Grouping 3 ∷ Size ∷ LongText ∷ Unknown 3 ∷ Following ∷ File 3 ∷ Dated 3 ∷ Room 3 ∷ []

record LimitsAsWritten : Type 0 where
  -- a cell is a number 0 to 63
  cells : map is_cell (0 ∷ 63 ∷ 64 ∷ []) ≡ true ∷ true ∷ false ∷ []
  image_limits : map judged cases ≡ map (λ (c : Case). (c.number, c.place)) cases
  -- entries 0 to 1,199: by the frame, as the verdict on so many would be long to compute
  entry_limit : map (λ n. frame_right (entered n)) (1199 ∷ 1200 ∷ []) ≡ true ∷ false ∷ []
  -- the largest image, in bytes
  largest_right : frame_right largest ≡ true
  largest_length : length largest ≡ 28301
  -- the columns 'No.' and 'Place'
  numbers : map refusal_number refusals ≡ 1 ∷ 2 ∷ 11 ∷ 12 ∷ 13 ∷ 14 ∷ 3 ∷ 4 ∷ 5 ∷ 6 ∷ 7 ∷ 15 ∷ 16 ∷ 17 ∷ 8 ∷ []
  places : map refusal_place refusals ≡ 0 ∷ 3 ∷ 3 ∷ 3 ∷ 3 ∷ 3 ∷ 0 ∷ 3 ∷ 0 ∷ 16384 ∷ 3 ∷ 0 ∷ 3 ∷ 3 ∷ 3 ∷ []

limits_as_written : LimitsAsWritten
unfolding computing two_bytes image_of marked letters_from full sized second entries_of entered dated largest exchanged long case cases judged refusals
limits_as_written =
    record {
      cells = refl;
      image_limits = refl;
      entry_limit = refl;
      largest_right = refl;
      largest_length = refl;
      numbers = refl;
      places = refl;
    }
