-- 'Embosser files': the chart, and the characters that output bytes are written as. Pages are written in two kinds of bytes, as the layout of document 01 and
-- as a file; both have one byte for each cell, for each line's end and for each page's end.
use Rattle.std.specs.Prelude.{ℕ, suc, cond, List, [], ◌∷◌, ◌++◌, eqb, get_or}
use Rattle.translation.specs.Numbers.{line_feed}
use Rattle.embosser.specs.Numbers.{form_feed}
use Rattle.embosser.specs.declared.Kind.{Kind}
use Rattle.embosser.specs.declared.Kind.TheVariants.{Layout, File}

-- the public North American braille ASCII chart: the characters of the cells 0 to 63
abbrev pub chart : List ℕ
chart =
    32 ∷ 65 ∷ 49 ∷ 66 ∷ 39 ∷ 75 ∷ 50 ∷ 76
    ∷ 64 ∷ 67 ∷ 73 ∷ 70 ∷ 47 ∷ 77 ∷ 83 ∷ 80
    ∷ 34 ∷ 69 ∷ 51 ∷ 72 ∷ 57 ∷ 79 ∷ 54 ∷ 82
    ∷ 94 ∷ 68 ∷ 74 ∷ 71 ∷ 62 ∷ 78 ∷ 84 ∷ 81
    ∷ 44 ∷ 42 ∷ 53 ∷ 60 ∷ 45 ∷ 85 ∷ 56 ∷ 86
    ∷ 46 ∷ 37 ∷ 91 ∷ 36 ∷ 43 ∷ 88 ∷ 33 ∷ 38
    ∷ 59 ∷ 58 ∷ 52 ∷ 92 ∷ 48 ∷ 90 ∷ 55 ∷ 40
    ∷ 95 ∷ 63 ∷ 87 ∷ 93 ∷ 35 ∷ 89 ∷ 41 ∷ 61
    ∷ []

-- the characters of the output bytes 0 to 65: each cell becomes one by the chart, a line ends in line feed, a page in form feed
unfoldable pub characters : List ℕ
characters = chart ++ line_feed ∷ form_feed ∷ []

unfoldable pub character_of : ℕ → ℕ
character_of byte = get_or characters byte 0

-- the first place at which a number stands in a list, and the list's length where it stands nowhere
unfoldable pub place_in : List ℕ → ℕ → ℕ
place_in [] c = 0
place_in (x ∷ xs) c = cond (eqb x c) 0 (suc (place_in xs c))

-- ---- The two kinds

-- how an output byte is written
abbrev pub written_as : Kind → ℕ → ℕ
written_as Layout byte = byte
written_as File byte = character_of byte

-- the output byte that a byte stands for; one that stands for none gives a number above 65
abbrev pub stands_for : Kind → ℕ → ℕ
stands_for Layout byte = byte
stands_for File c = place_in characters c

abbrev pub other : Kind → Kind
other Layout = File
other File = Layout

-- the byte of the other kind: what a byte stands for, as the other writes it
abbrev pub turned : Kind → ℕ → ℕ
turned kind byte = written_as (other kind) (stands_for kind byte)
