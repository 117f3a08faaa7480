-- Embosser files by example, all by computing, with W 8 and P 2: the chart in its own characters, files written and read back, and wrong files and layouts of
-- each kind with their places.
use Prim.Native.Nat.{ℕ}
use mathlib.Core.List.{List, [], ◌∷◌, ◌++◌, map}
use Rattle.std.specs.Prelude.{None, Some}
use mathlib.Core.Path.{◌≡◌, refl}
use lib.ListN.{length, drop, replicate}
use Rattle.table.specs.Example.{table, ascii}
use Rattle.table.specs.Table.{Letter}
use Rattle.pages.specs.declared.Sheet.{Sheet}
use Rattle.embosser.specs.Chart.{chart, character_of}
use Rattle.embosser.specs.Judging.{wrong_at}
use Rattle.embosser.specs.Filing.{number, place, written, Outcome, filing}
use Rattle.embosser.specs.inside.Computing.{computing}
use Rattle.embosser.specs.declared.Kind.{Kind}
use Rattle.embosser.specs.declared.Kind.TheVariants.{Layout, File}

-- ---- The chart

-- its 64 characters, the blank first
pub chart_as_written : (chart ≡ ascii " A1B'K2L@CIF/MSP\"E3H9O6R^DJG>NTQ,*5<-U8V.%[$+X!&;:4\\0Z7(_?W]#Y)=") × (length chart ≡ 64)
unfolding computing
chart_as_written = (refl, refl)

-- the letters of document 01's table, A to U, have there the cells that are their signs; 64 is a line feed, 65 a form feed
pub letters_in_the_chart :
    (map (λ (l : Letter). character_of l.sign) (drop 4 table.letters) ≡ map (λ (l : Letter). l.symbol) (drop 4 table.letters))
    × (map character_of (64 ∷ 65 ∷ []) ≡ 10 ∷ 12 ∷ [])
unfolding computing
letters_in_the_chart = (refl, refl)

-- ---- Good ones

abbrev sized : ℕ → ℕ → Sheet
sized W P = record { width = W; length = P }

-- W 8 and P 2
abbrev small : Sheet
small = sized 8 2

-- a line of a file, and a page's end
abbrev line : List ℕ → List ℕ
line cells = cells ++ 10 ∷ []

abbrev ff : List ℕ
ff = 12 ∷ []

-- number, place, bytes written, and the output afterwards, of which ten bytes were lent
abbrev shown : Outcome → ℕ × ℕ × ℕ × List ℕ
shown o = let a = o.answer in (number a, place a, written a, o.output)

abbrev filed : Kind → Sheet → List ℕ → ℕ × ℕ × ℕ × List ℕ
filed kind sheet bytes = shown (filing kind sheet bytes (replicate 10 200))

-- outputs of document 01's examples, and the files of them
abbrev layouts : List (List ℕ)
layouts =
    []
    ∷ (36 ∷ 17 ∷ 64 ∷ 65 ∷ [])
    ∷ (3 ∷ 17 ∷ 9 ∷ 21 ∷ 13 ∷ 17 ∷ 64 ∷ 65 ∷ [])
    ∷ (1 ∷ 50 ∷ 0 ∷ 3 ∷ 64 ∷ 65 ∷ [])
    ∷ (1 ∷ 1 ∷ 1 ∷ 1 ∷ 0 ∷ 1 ∷ 1 ∷ 1 ∷ 64 ∷ 65 ∷ [])
    ∷ (1 ∷ 64 ∷ 64 ∷ 65 ∷ 3 ∷ 64 ∷ 65 ∷ [])
    ∷ (0 ∷ 0 ∷ 1 ∷ 64 ∷ 65 ∷ [])
    ∷ []

abbrev files : List (List ℕ)
files =
    []
    ∷ (line (ascii "-E") ++ ff)
    ∷ (line (ascii "BECOME") ++ ff)
    ∷ (line (ascii "A4 B") ++ ff)
    ∷ (line (ascii "AAAA AAA") ++ ff)
    ∷ (line (ascii "A") ++ line [] ++ ff ++ line (ascii "B") ++ ff)
    ∷ (line (ascii "  A") ++ ff)
    ∷ []

-- done, with as many bytes as there are, and the rest as it was
abbrev finished : List ℕ → ℕ × ℕ × ℕ × List ℕ
finished bytes = (0, 0, length bytes, bytes ++ drop (length bytes) (replicate 10 200))

pub example_files : (map (filed Layout small) layouts ≡ map finished files) × (map (filed File small) files ≡ map finished layouts)
unfolding computing
example_files = (refl, refl)

-- ---- Wrong ones

pub wrong_files :
    map (wrong_at File small)
    -- a small letter; a character that isn't in the chart; a carriage return
    ((line (ascii "-e") ++ ff)
    ∷ (line (ascii "A`") ++ ff)
    ∷ (ascii "A" ++ 13 ∷ 10 ∷ 12 ∷ [])
    -- a line over W; a blank in the last column; a line that ends in a blank
    ∷ (line (ascii "AAAAAAAAA") ++ ff)
    ∷ (line (ascii "AAAAAAA ") ++ ff)
    ∷ (line (ascii "A ") ++ ff)
    -- a page without a line, at the front and after another; a page that ends inside a line
    ∷ (ff)
    ∷ (line (ascii "A") ++ ff ++ ff)
    ∷ (ascii "A" ++ ff)
    -- a page over P: a cell, and a line's end
    ∷ (line (ascii "A") ++ line (ascii "B") ++ line (ascii "C") ++ ff)
    ∷ (line [] ++ line [] ++ line [] ++ ff)
    -- text after the last form feed: it merely stops short
    ∷ (line (ascii "A") ++ ff ++ ascii "B")
    ∷ (line (ascii "A") ++ ff ++ ascii "B ")
    ∷ (line (ascii "A") ++ ff ++ line (ascii "B"))
    ∷ (line (ascii "A") ++ line (ascii "B"))
    -- and good ones: no page; empty lines; a blank in the last column but one; a full line and a full page
    ∷ []
    ∷ (line [] ++ line [] ++ ff)
    ∷ (line (ascii "AAAAAA A") ++ ff)
    ∷ (line (ascii "AAAAAAAA") ++ line (ascii "A B C DE") ++ ff)
    ∷ [])
    ≡ Some 1
    ∷ Some 1
    ∷ Some 1
    ∷ Some 8
    ∷ Some 7
    ∷ Some 2
    ∷ Some 0
    ∷ Some 3
    ∷ Some 1
    ∷ Some 4
    ∷ Some 2
    ∷ Some 4
    ∷ Some 5
    ∷ Some 5
    ∷ Some 4
    ∷ None
    ∷ None
    ∷ None
    ∷ None
    ∷ []
unfolding computing
wrong_files = refl

pub wrong_layouts :
    map (wrong_at Layout small)
    -- a byte over 65; a blank at the end of a line; a page of no line; a page over P; without its last mark
    ((1 ∷ 66 ∷ 64 ∷ 65 ∷ [])
    ∷ (1 ∷ 0 ∷ 64 ∷ 65 ∷ [])
    ∷ (65 ∷ [])
    ∷ (64 ∷ 64 ∷ 1 ∷ 64 ∷ 65 ∷ [])
    ∷ (1 ∷ 64 ∷ [])
    ∷ [])
    ≡ Some 1
    ∷ Some 2
    ∷ Some 0
    ∷ Some 2
    ∷ Some 2
    ∷ []
unfolding computing
wrong_layouts = refl

-- 5 first, then 16, then 8: sizes outside their limits, with a wrong file and without; a wrong file of 11 bytes, and a good one, with 10 lent
pub example_refusals :
    map (filed File (sized 7 2)) (ascii "e" ∷ [] ∷ [])
    ++ map (λ (s : Sheet). filed File s []) (sized 61 2 ∷ sized 8 1 ∷ sized 8 41 ∷ sized 60 40 ∷ [])
    ++ map (filed File small) ((line (ascii "AAAAAAAA") ++ ascii "e" ++ ff) ∷ (line (ascii "AAAAAAAA") ++ line [] ++ ff) ∷ [])
    ≡ (5, 0, 0, replicate 10 200)
    ∷ (5, 0, 0, replicate 10 200)
    ∷ (5, 0, 0, replicate 10 200)
    ∷ (5, 0, 0, replicate 10 200)
    ∷ (5, 0, 0, replicate 10 200)
    ∷ (0, 0, 0, replicate 10 200)
    ∷ (16, 9, 0, replicate 10 200)
    ∷ (8, 11, 0, replicate 10 200)
    ∷ []
unfolding computing
example_refusals = refl
