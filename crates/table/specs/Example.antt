-- 'A table and examples to prove': the table, as the 218 bytes of its image and as lists. And 'Dates on entries': the same table with years, of which COM
-- has those from 1932 to 2015 and the other entries all, as 246 bytes and as lists. proofs/Example.antt shows that an image is read as its lists.
use Rattle.std.specs.Prelude.{ℕ, List, [], ◌∷◌, ◌++◌}
use Prim.Native.Char.{code}
use Prim.Native.String.{String, len, char_at}
use Rattle.table.specs.Search.{list_of}
use Rattle.table.specs.Table.{Table, Letter, Entry, Column}

-- ---- A text in ASCII, and a table's records from such texts

unfoldable pub ascii : String → List ℕ
ascii s = list_of (λ i. code (char_at s i)) (len s)

unfoldable pub a_letter : String → ℕ → ℕ → Letter
a_letter s c g = record { symbol = code (char_at s 0); class = c; sign = g }

-- an entry that is always in force
unfoldable pub an_entry : String → ℕ → ℕ → ℕ → List ℕ → Entry
an_entry s x c n gs = record { string = ascii s; context = x; class = c; shift = n; signs = gs; first = 0; last = 65535 }

-- the same entry, in force from one year to another
unfoldable pub in_years : ℕ → ℕ → Entry → Entry
in_years f l e =
    record { string = e.string; context = e.context; class = e.class; shift = e.shift; signs = e.signs; first = f; last = l }

unfoldable pub a_column : String → String → Column
a_column c v = record { by_class = ascii c; conditions = ascii v }

-- ---- The image

abbrev pub alphabet_bytes : List ℕ
alphabet_bytes =
    32 ∷ 2 ∷ 0
    ∷ 46 ∷ 3 ∷ 50
    ∷ 45 ∷ 3 ∷ 36
    ∷ 36 ∷ 2 ∷ 99
    ∷ 65 ∷ 1 ∷ 1
    ∷ 66 ∷ 1 ∷ 3
    ∷ 67 ∷ 1 ∷ 9
    ∷ 68 ∷ 1 ∷ 25
    ∷ 69 ∷ 1 ∷ 17
    ∷ 70 ∷ 1 ∷ 11
    ∷ 73 ∷ 1 ∷ 10
    ∷ 76 ∷ 1 ∷ 7
    ∷ 77 ∷ 1 ∷ 13
    ∷ 78 ∷ 1 ∷ 29
    ∷ 79 ∷ 1 ∷ 21
    ∷ 80 ∷ 1 ∷ 15
    ∷ 82 ∷ 1 ∷ 23
    ∷ 83 ∷ 1 ∷ 14
    ∷ 85 ∷ 1 ∷ 37 ∷ []

abbrev pub bytes_com : List ℕ
bytes_com =
    3 ∷ 67 ∷ 79 ∷ 77 ∷ 0 ∷ 0 ∷ 0 ∷ 0 ∷ 0 ∷ 0 ∷ 0 ∷ 0 ∷ 4 ∷ 3 ∷ 36 ∷ 99 ∷ 99 ∷ 99 ∷ []

abbrev pub bytes_ful : List ℕ
bytes_ful =
    3 ∷ 70 ∷ 85 ∷ 76 ∷ 0 ∷ 0 ∷ 0 ∷ 0 ∷ 0 ∷ 0 ∷ 0 ∷ 0 ∷ 5 ∷ 3 ∷ 48 ∷ 7 ∷ 99 ∷ 99 ∷ []

abbrev pub bytes_blind : List ℕ
bytes_blind =
    5 ∷ 66 ∷ 76 ∷ 73 ∷ 78 ∷ 68 ∷ 0 ∷ 0 ∷ 0 ∷ 0 ∷ 0 ∷ 1 ∷ 4 ∷ 5 ∷ 3 ∷ 7 ∷ 99 ∷ 99 ∷ []

abbrev pub bytes_p : List ℕ
bytes_p =
    2 ∷ 36 ∷ 80 ∷ 0 ∷ 0 ∷ 0 ∷ 0 ∷ 0 ∷ 0 ∷ 0 ∷ 0 ∷ 0 ∷ 2 ∷ 2 ∷ 72 ∷ 99 ∷ 99 ∷ 99 ∷ []

abbrev pub bytes_l : List ℕ
bytes_l =
    2 ∷ 36 ∷ 76 ∷ 0 ∷ 0 ∷ 0 ∷ 0 ∷ 0 ∷ 0 ∷ 0 ∷ 0 ∷ 0 ∷ 2 ∷ 2 ∷ 70 ∷ 99 ∷ 99 ∷ 99 ∷ []

abbrev pub bytes_s : List ℕ
bytes_s =
    2 ∷ 36 ∷ 83 ∷ 0 ∷ 0 ∷ 0 ∷ 0 ∷ 0 ∷ 0 ∷ 0 ∷ 0 ∷ 0 ∷ 2 ∷ 2 ∷ 70 ∷ 71 ∷ 99 ∷ 99 ∷ []

abbrev pub bytes_n : List ℕ
bytes_n =
    2 ∷ 36 ∷ 78 ∷ 0 ∷ 0 ∷ 0 ∷ 0 ∷ 0 ∷ 0 ∷ 0 ∷ 0 ∷ 0 ∷ 2 ∷ 2 ∷ 73 ∷ 99 ∷ 99 ∷ 99 ∷ []

abbrev pub contractions_bytes : List ℕ
contractions_bytes = bytes_com ++ bytes_ful ++ bytes_blind ++ bytes_p ++ bytes_l ++ bytes_s ++ bytes_n

abbrev pub contexts_bytes : List ℕ
contexts_bytes =
    2 ∷ 3 ∷ 3 ∷ 3 ∷ []

abbrev pub transitions_bytes : List ℕ
transitions_bytes =
    83 ∷ 82 ∷ 45 ∷ 83 ∷ 83 ∷ []

abbrev pub decisions_bytes : List ℕ
decisions_bytes =
    71 ∷ 71 ∷ 71 ∷ 78 ∷ 89 ∷ 89
    ∷ 45 ∷ 45 ∷ 45 ∷ 71 ∷ 45 ∷ 45 ∷ []

-- the five distances, the classes, the variables, the marks
abbrev pub trailer_bytes : List ℕ
trailer_bytes =
    204 ∷ 0 ∷ 147 ∷ 0 ∷ 21 ∷ 0 ∷ 17 ∷ 0 ∷ 12 ∷ 0 ∷ 5 ∷ 1 ∷ 66 ∷ 51 ∷ []

abbrev pub image : List ℕ
image = alphabet_bytes ++ contractions_bytes ++ contexts_bytes ++ transitions_bytes ++ decisions_bytes ++ trailer_bytes

-- ---- The image with years

-- 1932 to 2015, and 0 to 65,535
abbrev pub years_com : List ℕ
years_com = 140 ∷ 7 ∷ 223 ∷ 7 ∷ []

abbrev pub always : List ℕ
always = 0 ∷ 0 ∷ 255 ∷ 255 ∷ []

abbrev pub dated_contractions_bytes : List ℕ
dated_contractions_bytes =
    bytes_com
    ++ years_com
    ++ bytes_ful
    ++ always
    ++ bytes_blind
    ++ always
    ++ bytes_p
    ++ always
    ++ bytes_l
    ++ always
    ++ bytes_s
    ++ always
    ++ bytes_n
    ++ always

abbrev pub dated_trailer_bytes : List ℕ
dated_trailer_bytes =
    232 ∷ 0 ∷ 175 ∷ 0 ∷ 21 ∷ 0 ∷ 17 ∷ 0 ∷ 12 ∷ 0 ∷ 5 ∷ 1 ∷ 66 ∷ 52 ∷ []

abbrev pub dated_image : List ℕ
dated_image = alphabet_bytes ++ dated_contractions_bytes ++ contexts_bytes ++ transitions_bytes ++ decisions_bytes ++ dated_trailer_bytes

-- ---- The same table as lists

abbrev pub entry_com : Entry
entry_com = an_entry "COM" 0 4 3 (36 ∷ 99 ∷ 99 ∷ 99 ∷ [])

abbrev pub other_entries : List Entry
other_entries =
    an_entry "FUL" 0 5 3 (48 ∷ 7 ∷ 99 ∷ 99 ∷ [])
    ∷ an_entry "BLIND" 1 4 5 (3 ∷ 7 ∷ 99 ∷ 99 ∷ [])
    ∷ an_entry "$P" 0 2 2 (72 ∷ 99 ∷ 99 ∷ 99 ∷ [])
    ∷ an_entry "$L" 0 2 2 (70 ∷ 99 ∷ 99 ∷ 99 ∷ [])
    ∷ an_entry "$S" 0 2 2 (70 ∷ 71 ∷ 99 ∷ 99 ∷ [])
    ∷ an_entry "$N" 0 2 2 (73 ∷ 99 ∷ 99 ∷ 99 ∷ []) ∷ []

-- the table with these entries
abbrev pub table_with : List Entry → Table
table_with entries =
    record {
      letters =
          a_letter " " 2 0
          ∷ a_letter "." 3 50
          ∷ a_letter "-" 3 36
          ∷ a_letter "$" 2 99
          ∷ a_letter "A" 1 1
          ∷ a_letter "B" 1 3
          ∷ a_letter "C" 1 9
          ∷ a_letter "D" 1 25
          ∷ a_letter "E" 1 17
          ∷ a_letter "F" 1 11
          ∷ a_letter "I" 1 10
          ∷ a_letter "L" 1 7
          ∷ a_letter "M" 1 13
          ∷ a_letter "N" 1 29
          ∷ a_letter "O" 1 21
          ∷ a_letter "P" 1 15
          ∷ a_letter "R" 1 23
          ∷ a_letter "S" 1 14
          ∷ a_letter "U" 1 37 ∷ [];
      entries = entries;
      contexts = (2 ∷ 3 ∷ 3 ∷ 3 ∷ []) ∷ [];
      transitions = ascii "SR-SS" ∷ [];
      decisions = a_column "GGGNY" "Y" ∷ a_column "---G-" "-" ∷ [];
    }

abbrev pub table : Table
table = table_with (entry_com ∷ other_entries)

abbrev pub dated_table : Table
dated_table = table_with (in_years 1932 2015 entry_com ∷ other_entries)
