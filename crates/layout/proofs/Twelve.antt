-- The twelve examples of document 01: one table, one statement, over the whole call with W 8 and P 2. A second statement has the readings of the
-- paper's corners that the twelve don't show. All by computing.
use Prim.Native.Nat.{ℕ, ◌-◌}
use Prim.Native.String.{String}
use mathlib.Core.List.{List, [], ◌∷◌, ◌++◌, map}
use mathlib.Core.Bool.{Bool, true, false}
use mathlib.Core.Path.{◌≡◌, refl, sym, ◌∙◌, ap}
use native.Mathlib.Omega.{arith}
use lib.ListN.{length, replicate}
use Rattle.table.specs.Example.{image, dated_image, table, ascii}
use Rattle.translation.specs.Pieces.{pieces_of, signs_of}
use Rattle.table.specs.Numbers.{blank}
use Rattle.translation.specs.declared.Setting.{Setting}
use Rattle.pages.specs.Words.{Item, word, line_end, empty_line, items_of}
use Rattle.pages.specs.Permitted.{Layout, Permitted}
use Rattle.pages.specs.Spots.{layout_of, with_choices}
use Rattle.layout.specs.Emboss.{Outcome, embossing, number, place, written, pieces, lines, pages}
use Rattle.pages.specs.declared.Sheet.{Sheet}
use Rattle.layout.specs.inside.Computing.{computing}
use Rattle.pages.proofs.Permitted.{choices_permitted, permitted_by_choices}

-- ---- A row: the text, the output, and the counts of pieces, lines and pages

record Row : Type 0 where
  text : String
  output : List ℕ
  pieces : ℕ
  lines : ℕ
  pages : ℕ

row : String → List ℕ → ℕ → ℕ → ℕ → Row
row t o n l g = record { text = t; output = o; pieces = n; lines = l; pages = g }

-- what the call hands back: number, place, bytes written, pieces, lines, pages, and the output afterwards
abbrev Shown : Type 0
Shown = ℕ × ℕ × ℕ × ℕ × ℕ × ℕ × List ℕ

shown : Outcome → Shown
shown c = let a = c.answer in (number a, place a, written a, pieces a, lines a, pages a, c.output)

-- what follows the text
follows : ℕ → Setting
follows c = record { following = c; year = 65535 }

abbrev blank_follows : Setting
blank_follows = record { following = blank; year = 65535 }

-- W 8 and P 2
abbrev small : Sheet
small = record { width = 8; length = 2 }

-- the output as lent: some room, filled with a byte that no output has
abbrev room : ℕ
room = 24

lent : ℕ → List ℕ
lent n = replicate n 200

embossed : Row → Shown
embossed r = shown (embossing blank_follows image (ascii r.text) small (lent room))

expected : Row → Shown
expected r = (0, 0, length r.output, r.pieces, r.lines, r.pages, r.output ++ lent (room - length r.output))

-- ---- The twelve

twelve : List Row
twelve =
    row "" [] 0 0 0
    ∷ row "COME" (36 ∷ 17 ∷ 64 ∷ 65 ∷ []) 2 1 1
    ∷ row "BECOME" (3 ∷ 17 ∷ 9 ∷ 21 ∷ 13 ∷ 17 ∷ 64 ∷ 65 ∷ []) 6 1 1
    ∷ row "FULFUL" (11 ∷ 37 ∷ 7 ∷ 48 ∷ 7 ∷ 64 ∷ 65 ∷ []) 4 1 1
    ∷ row "BLIND" (3 ∷ 7 ∷ 64 ∷ 65 ∷ []) 1 1 1
    ∷ row "BLINDED" (3 ∷ 7 ∷ 10 ∷ 29 ∷ 25 ∷ 17 ∷ 25 ∷ 64 ∷ 65 ∷ []) 7 1 1
    ∷ row "A.   B" (1 ∷ 50 ∷ 0 ∷ 3 ∷ 64 ∷ 65 ∷ []) 5 1 1
    ∷ row "AAAA AAA" (1 ∷ 1 ∷ 1 ∷ 1 ∷ 0 ∷ 1 ∷ 1 ∷ 1 ∷ 64 ∷ 65 ∷ []) 8 1 1
    ∷ row "AAAA AAAA" (1 ∷ 1 ∷ 1 ∷ 1 ∷ 64 ∷ 1 ∷ 1 ∷ 1 ∷ 1 ∷ 64 ∷ 65 ∷ []) 9 2 1
    ∷ row "A$S$SB" (1 ∷ 64 ∷ 64 ∷ 65 ∷ 3 ∷ 64 ∷ 65 ∷ []) 4 3 2
    ∷ row "$PA" (0 ∷ 0 ∷ 1 ∷ 64 ∷ 65 ∷ []) 2 1 1
    ∷ row "$N$N" [] 2 0 0 ∷ []

twelve_embossed : map embossed twelve ≡ map expected twelve
unfolding computing row shown lent embossed expected twelve
twelve_embossed = refl

-- ---- Corners: bars before blanks; a line feed at the end is a character; 99 ends no word; 71 where ending the line fills the page; 72 through 73,
-- twice in a row; a paragraph too wide for its blanks; the end of a page by its lines

corners : List Row
corners =
    row "A.|   B" (1 ∷ 50 ∷ 0 ∷ 3 ∷ 64 ∷ 65 ∷ []) 5 1 1
    ∷ row "A |\n B" (1 ∷ 0 ∷ 3 ∷ 64 ∷ 65 ∷ []) 3 1 1
    ∷ row "COME\n" (36 ∷ 17 ∷ 64 ∷ 65 ∷ []) 3 1 1
    ∷ row "A$B" (1 ∷ 3 ∷ 64 ∷ 65 ∷ []) 3 1 1
    ∷ row "A$LB$SC" (1 ∷ 64 ∷ 3 ∷ 64 ∷ 65 ∷ 9 ∷ 64 ∷ 65 ∷ []) 5 3 2
    ∷ row "$P$NAAAAAA" (0 ∷ 0 ∷ 1 ∷ 1 ∷ 1 ∷ 1 ∷ 1 ∷ 1 ∷ 64 ∷ 65 ∷ []) 8 1 1
    ∷ row "A$P$PA" (1 ∷ 64 ∷ 0 ∷ 0 ∷ 1 ∷ 64 ∷ 65 ∷ []) 4 2 1
    ∷ row "$PAAAAAAA" (1 ∷ 1 ∷ 1 ∷ 1 ∷ 1 ∷ 1 ∷ 1 ∷ 64 ∷ 65 ∷ []) 8 1 1
    ∷ row "A$L$S$NA" (1 ∷ 64 ∷ 64 ∷ 65 ∷ 1 ∷ 64 ∷ 65 ∷ []) 5 3 2
    ∷ row "A A A A A A" (1 ∷ 0 ∷ 1 ∷ 0 ∷ 1 ∷ 0 ∷ 1 ∷ 64 ∷ 1 ∷ 0 ∷ 1 ∷ 64 ∷ 65 ∷ []) 11 2 1 ∷ []

corners_embossed : map embossed corners ≡ map expected corners
unfolding computing row shown lent embossed expected corners
corners_embossed = refl

-- ---- Request 2, cut words carry a hyphen: nine A, eight, fifteen, sixteen; `$P` and nine, where the first part has W cells, so it starts in column 0; a word
-- of W cells that ends in a hyphen of its own, which is whole, and one whose own hyphen stands before the one that cutting put there

seven : List ℕ
seven = 1 ∷ 1 ∷ 1 ∷ 1 ∷ 1 ∷ 1 ∷ 1 ∷ []

cut_words : List Row
cut_words =
    row "AAAAAAAAA" (seven ++ 36 ∷ 64 ∷ 1 ∷ 1 ∷ 64 ∷ 65 ∷ []) 9 2 1
    ∷ row "AAAAAAAA" (seven ++ 1 ∷ 64 ∷ 65 ∷ []) 8 1 1
    ∷ row "AAAAAAAAAAAAAAA" (seven ++ 36 ∷ 64 ∷ seven ++ 1 ∷ 64 ∷ 65 ∷ []) 15 2 1
    ∷ row "AAAAAAAAAAAAAAAA" (seven ++ 36 ∷ 64 ∷ seven ++ 36 ∷ 64 ∷ 65 ∷ 1 ∷ 1 ∷ 64 ∷ 65 ∷ []) 16 3 2
    ∷ row "$PAAAAAAAAA" (seven ++ 36 ∷ 64 ∷ 1 ∷ 1 ∷ 64 ∷ 65 ∷ []) 10 2 1
    ∷ row "AAAAAAA-" (seven ++ 36 ∷ 64 ∷ 65 ∷ []) 8 1 1
    ∷ row "AAAAAA-AA" (1 ∷ 1 ∷ 1 ∷ 1 ∷ 1 ∷ 1 ∷ 36 ∷ 36 ∷ 64 ∷ 1 ∷ 1 ∷ 64 ∷ 65 ∷ []) 9 2 1 ∷ []

cut_words_embossed : map embossed cut_words ≡ map expected cut_words
unfolding computing row shown lent embossed expected seven cut_words
cut_words_embossed = refl

-- ---- Sections: BLIND followed by a blank, by `.`, by E, by `a`: contracted, contracted, the five letters, and refused with 15

blind : ℕ → Shown
blind c = shown (embossing (follows c) image (ascii "BLIND") small (lent room))

short : List ℕ
short = 3 ∷ 7 ∷ 64 ∷ 65 ∷ []

long : List ℕ
long = 3 ∷ 7 ∷ 10 ∷ 29 ∷ 25 ∷ 64 ∷ 65 ∷ []

blind_followed :
    map blind (ascii " .Ea")
    ≡ (0, 0, 4, 1, 1, 1, short ++ lent 20)
    ∷ (0, 0, 4, 1, 1, 1, short ++ lent 20)
    ∷ (0, 0, 7, 5, 1, 1, long ++ lent 17)
    ∷ (15, 0, 0, 0, 0, 0, lent 24)
    ∷ []
unfolding computing shown lent follows blind short long
blind_followed = refl

-- 7 is met before 15, and 15 before 8; a line feed and a bar are in no alphabet
following_refused_in_order :
    map (λ (o : Outcome). number o.answer)
    (embossing (follows 97) image (ascii "a") small (lent room)
    ∷ embossing (follows 97) image (ascii "A") small []
    ∷ embossing (follows 32) image (ascii "A") small []
    ∷ embossing (follows 10) image (ascii "A") small (lent room)
    ∷ embossing (follows 124) image (ascii "A") small (lent room)
    ∷ embossing (follows 97) image (ascii "") small (lent room)
    ∷ [])
    ≡ 7 ∷ 15 ∷ 8 ∷ 15 ∷ 15 ∷ 15 ∷ []
unfolding computing shown lent follows
following_refused_in_order = refl

-- ---- Request 6, dates on entries: COME by the table in which COM is in force from 1932 to 2015, before, in the first and in the last of these years, and
-- after: four letters, COM and a letter, the same, four letters

in_year : List ℕ → ℕ → Shown
in_year table y = shown (embossing (record { following = blank; year = y }) table (ascii "COME") small (lent room))

contracted : Shown
contracted = (0, 0, 4, 2, 1, 1, 36 ∷ 17 ∷ 64 ∷ 65 ∷ [] ++ lent 20)

spelled : Shown
spelled = (0, 0, 6, 4, 1, 1, 9 ∷ 21 ∷ 13 ∷ 17 ∷ 64 ∷ 65 ∷ [] ++ lent 18)

come_in_years : map (in_year dated_image) (1931 ∷ 1932 ∷ 2015 ∷ 2016 ∷ []) ≡ spelled ∷ contracted ∷ contracted ∷ spelled ∷ []
unfolding computing shown lent in_year contracted spelled
come_in_years = refl

-- the paper's table, which has no years, is always in force: in the first year, the last, and between
come_always : map (in_year image) (0 ∷ 1931 ∷ 65535 ∷ []) ≡ contracted ∷ contracted ∷ contracted ∷ []
unfolding computing shown lent in_year contracted
come_always = refl

-- ---- A permitted layout that isn't ours: `AAAA AAA` at W 8 on two lines

four_and_three : List Item
four_and_three = word (1 ∷ 1 ∷ 1 ∷ 1 ∷ []) ∷ word (1 ∷ 1 ∷ 1 ∷ []) ∷ []

four_and_three_items : items_of 8 (signs_of (pieces_of table blank_follows (ascii "AAAA AAA"))) ≡ four_and_three
unfolding computing four_and_three
four_and_three_items = refl

two_lines_permitted :
    Permitted small four_and_three
    (record { spots = record { line = 0; column = 4 } ∷ record { line = 1; column = 3 } ∷ []; lines = 2; pages = 2 ∷ [] })
unfolding computing four_and_three
two_lines_permitted = choices_permitted small (omega arith) four_and_three (false ∷ true ∷ [])

-- ---- Pages end after P lines: at P 3 `A$S$SB` has a page of three lines and one of one, however its lines are ended before words

empty_lines : List Item
empty_lines = word (1 ∷ []) ∷ line_end ∷ empty_line ∷ line_end ∷ empty_line ∷ word (3 ∷ []) ∷ []

empty_lines_items : items_of 8 (signs_of (pieces_of table blank_follows (ascii "A$S$SB"))) ≡ empty_lines
unfolding computing empty_lines
empty_lines_items = refl

abbrev three : Sheet
three = record { width = 8; length = 3 }

three_and_one : (layout : Layout) → Permitted three empty_lines layout → layout.pages ≡ 3 ∷ 1 ∷ []
unfolding computing empty_lines
three_and_one layout permitted =
    let c = permitted_by_choices three (omega arith) empty_lines layout permitted in
    sym (ap (λ (l : Layout). l.pages) c.same) ∙ go c.choices c.one_each
  where
    go : (choices : List Bool) → length choices ≡ 2 → (layout_of three (with_choices choices empty_lines)).pages ≡ 3 ∷ 1 ∷ []
    go [] e = absurd (omega arith)
    go (a ∷ []) e = absurd (omega arith)
    go (false ∷ false ∷ []) e = refl
    go (false ∷ true ∷ []) e = refl
    go (true ∷ false ∷ []) e = refl
    go (true ∷ true ∷ []) e = refl
    go (a ∷ b ∷ c ∷ choices) e = absurd (omega arith)
