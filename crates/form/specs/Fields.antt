-- The records of a readable table: the word that begins each line, the fields that follow it, in order, and the bytes of each in the image. A record's bytes
-- are those of its fields, joined.
use Rattle.std.specs.Prelude.{ℕ, zero, suc, ◌+◌, ◌-◌, ◌/◌, ◌%◌, Bool, true, false, cond, List, [], ◌∷◌, ◌++◌, eqb, length, get_or, drop, replicate}
use Rattle.table.specs.Numbers.{least_classes, most_classes, most_variables, most_length, no_context, no_cell, entry_signs, earliest_year, latest_year, low_byte_room}
use Rattle.form.specs.Numbers.{equals, hyphen, colon, from_word, to_word, most_byte, most_year}
use Rattle.form.specs.Words.{Read, got, wrong, after, after_gap, starts_number, number, byte_number, mark_or, is_word, row, string}
use Rattle.form.specs.declared.Draft.{Draft}
use Rattle.form.specs.declared.Expected.TheVariants as expected
use Rattle.form.specs.declared.Field.{Field}
use Rattle.form.specs.declared.Field.TheVariants.{Number, Symbol, Row, String, Classed, Shift, Tail}
use Rattle.form.specs.declared.Keyword.{Keyword}
use Rattle.form.specs.declared.Keyword.TheVariants.{Dated, Classes, Variables, Letter, Entry, Context, Transition, Decision}

-- ---- The word that begins a line: dated, classes, variables, letter, entry, context, transition, decision

abbrev pub spelled : Keyword → List ℕ
spelled Dated = 100 ∷ 97 ∷ 116 ∷ 101 ∷ 100 ∷ []
spelled Classes = 99 ∷ 108 ∷ 97 ∷ 115 ∷ 115 ∷ 101 ∷ 115 ∷ []
spelled Variables = 118 ∷ 97 ∷ 114 ∷ 105 ∷ 97 ∷ 98 ∷ 108 ∷ 101 ∷ 115 ∷ []
spelled Letter = 108 ∷ 101 ∷ 116 ∷ 116 ∷ 101 ∷ 114 ∷ []
spelled Entry = 101 ∷ 110 ∷ 116 ∷ 114 ∷ 121 ∷ []
spelled Context = 99 ∷ 111 ∷ 110 ∷ 116 ∷ 101 ∷ 120 ∷ 116 ∷ []
spelled Transition = 116 ∷ 114 ∷ 97 ∷ 110 ∷ 115 ∷ 105 ∷ 116 ∷ 105 ∷ 111 ∷ 110 ∷ []
spelled Decision = 100 ∷ 101 ∷ 99 ∷ 105 ∷ 115 ∷ 105 ∷ 111 ∷ 110 ∷ []

-- ---- The fields of each line, by what the table's first lines say

abbrev pub byte_field : Field
byte_field = Number 0 most_byte

unfoldable pub fields_of : Draft → Keyword → List Field
fields_of d Dated = []
fields_of d Classes = Number least_classes most_classes ∷ []
fields_of d Variables = Number 0 most_variables ∷ []
fields_of d Letter = Symbol ∷ byte_field ∷ byte_field ∷ []
fields_of d Entry = String ∷ Classed ∷ Shift ∷ Tail d.dated ∷ []
fields_of d Context = byte_field ∷ byte_field ∷ byte_field ∷ byte_field ∷ []
fields_of d Transition = Row d.classes ∷ []
fields_of d Decision = Row d.classes ∷ cond (eqb d.variables 0) [] (Row d.variables ∷ [])

-- ---- The bytes of a field

abbrev pub size_of : Field → ℕ
size_of (Number least most) = 1
size_of Symbol = 1
size_of (Row n) = n
size_of String = suc most_length
size_of Classed = 2
size_of Shift = 1
size_of (Tail dated) = cond dated 8 4

unfoldable pub sizes_of : List Field → ℕ
sizes_of [] = 0
sizes_of (f ∷ fs) = size_of f + sizes_of fs

-- a two-byte number, low byte first
unfoldable pub number_bytes : ℕ → List ℕ
number_bytes n = n % low_byte_room ∷ n / low_byte_room ∷ []

-- ---- How each is read

-- a class, then a right context or - for none. In the image the context stands first
unfoldable pub classed : List ℕ → Read
classed rest = after (byte_number rest) (λ class later. after (mark_or hyphen no_context (after_gap later)) (λ context last. got (context ++ class) last))

-- as many signs as there are numbers, at most four
unfoldable pub signs_from : ℕ → List ℕ → List ℕ → Read
signs_from zero sofar rest = got sofar rest
signs_from (suc n) sofar rest =
    elim (starts_number (after_gap rest)) [
      | true ↦ elim (byte_number (after_gap rest)) [ got sign later ↦ signs_from n (sofar ++ sign) later | wrong e later ↦ wrong e later ]
      | false ↦ got sofar rest
    ]

-- where there are fewer, 99 stands for each that is missing
unfoldable pub signs : List ℕ → Read
signs rest = after (signs_from entry_signs [] rest) (λ bytes later. got (bytes ++ replicate (entry_signs - length bytes) no_cell) later)

-- a year after its word, or what is meant where the word isn't there
unfoldable pub year : List ℕ → ℕ → List ℕ → Read
year word unsaid rest =
    cond (is_word word (after_gap rest)) (number 0 most_year (after_gap (drop (length word) (after_gap rest)))) (got (unsaid ∷ []) rest)

-- from the first year to the last
unfoldable pub years : List ℕ → Read
years rest =
    after (year from_word earliest_year rest)
    (λ first later. after (year to_word latest_year later) (λ last end. got (number_bytes (get_or first 0 0) ++ number_bytes (get_or last 0 0)) end))

-- the signs after a colon, and in a dated table the years
unfoldable pub tail : Bool → List ℕ → Read
tail dated rest =
    cond (is_word colon rest)
    (after (signs (drop (length colon) rest))
    (λ written later. cond dated (after (years later) (λ when end. got (written ++ when) end)) (got written later)))
    (wrong expected.Colon rest)

-- `sofar` is what the fields before it have given: a shift may say that it is the string's length, which is the first byte
unfoldable pub read_field : Field → List ℕ → List ℕ → Read
read_field (Number least most) sofar rest = number least most rest
read_field Symbol sofar rest = row 1 rest
read_field (Row n) sofar rest = row n rest
read_field String sofar rest = string rest
read_field Classed sofar rest = classed rest
read_field Shift sofar rest = mark_or equals (get_or sofar 0 0) rest
read_field (Tail dated) sofar rest = tail dated rest

unfoldable pub read_fields : List Field → List ℕ → List ℕ → Read
read_fields [] sofar rest = got sofar rest
read_fields (f ∷ fs) sofar rest =
    elim (read_field f sofar (after_gap rest)) [ got bytes later ↦ read_fields fs (sofar ++ bytes) later | wrong e later ↦ wrong e later ]
