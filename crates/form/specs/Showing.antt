-- The readable form of an image: a line for each record, in the image's order, its fields in columns. Numbers end in their column, symbols begin in it.
use Rattle.std.specs.Prelude.{ℕ, zero, suc, ◌+◌, ◌-◌, ◌*◌, ◌/◌, ◌%◌, Bool, true, false, cond, ◌&&◌, ltb, eqb, length, get_or, replicate}
use mathlib.Core.List.{List, [], ◌∷◌, ◌++◌, flatten}
use Rattle.table.specs.Numbers.{blank, most_length, no_context, no_cell, entry_signs, earliest_year, latest_year, dated_entry_size}
use Rattle.table.specs.Search.{list_of}
use Rattle.table.specs.Sections.{number_at, record_part, sections_of}
use Rattle.table.specs.declared.Section.{Section}
use Rattle.table.specs.declared.Sections.{Sections}
use Rattle.form.specs.Numbers.{line_feed, space, underscore, backslash, zero_digit, equals, hyphen, colon, from_word, to_word}
use Rattle.form.specs.Words.{is_escaped}
use Rattle.form.specs.Fields.{spelled, fields_of, size_of}
use Rattle.form.specs.declared.Draft.{Draft}
use Rattle.form.specs.declared.Field.{Field}
use Rattle.form.specs.declared.Field.TheVariants.{Number, Symbol, Row, String, Classed, Shift, Tail}
use Rattle.form.specs.declared.Keyword.{Keyword}
use Rattle.form.specs.declared.Keyword.TheVariants.{Dated, Classes, Variables, Letter, Entry, Context, Transition, Decision}

-- ---- Words

abbrev pub spaces : ℕ → List ℕ
spaces n = replicate n space

-- in decimal, in at most `digits` digits more than one
unfoldable pub decimal_in : ℕ → ℕ → List ℕ
decimal_in zero n = (zero_digit + n % 10) ∷ []
decimal_in (suc digits) n = elim (ltb n 10) [ true ↦ (zero_digit + n) ∷ [] | false ↦ decimal_in digits (n / 10) ++ (zero_digit + n % 10) ∷ [] ]

-- no number here has more than five digits
unfoldable pub decimal : ℕ → List ℕ
decimal n = decimal_in 4 n

-- a word after a blank at least, which ends in column `width`
unfoldable pub rightward : ℕ → List ℕ → List ℕ
rightward width word = spaces (suc (width - length word)) ++ word

unfoldable pub shown_number : ℕ → ℕ → List ℕ
shown_number width n = rightward width (decimal n)

-- a mark where the number is the value that the mark stands for
unfoldable pub shown_mark_or : ℕ → ℕ → ℕ → ℕ → List ℕ
shown_mark_or width mark value n = elim (eqb n value) [ true ↦ rightward width (mark ∷ []) | false ↦ shown_number width n ]

unfoldable pub shown_symbol : ℕ → List ℕ
shown_symbol c = cond (eqb c blank) (underscore ∷ []) (cond (is_escaped c) (backslash ∷ c ∷ []) (c ∷ []))

-- the `n` symbols from byte `at` of a record on
unfoldable pub shown_symbols : List ℕ → ℕ → ℕ → List ℕ
shown_symbols bytes at zero = []
shown_symbols bytes at (suc n) = shown_symbol (get_or bytes at 0) ++ shown_symbols bytes (suc at) n

-- a word after a blank, which fills `width` columns
unfoldable pub leftward : ℕ → List ℕ → List ℕ
leftward width word = space ∷ word ++ spaces (width - length word)

-- ---- Signs and years

-- how many of the `n` signs from byte `at` on stand before a 99
unfoldable pub signs_before : List ℕ → ℕ → ℕ → ℕ
signs_before bytes at zero = 0
signs_before bytes at (suc n) = elim (eqb (get_or bytes at 0) no_cell) [ true ↦ 0 | false ↦ suc (signs_before bytes (suc at) n) ]

unfoldable pub shown_numbers : List ℕ → ℕ → ℕ → List ℕ
shown_numbers bytes at zero = []
shown_numbers bytes at (suc n) = shown_number 2 (get_or bytes at 0) ++ shown_numbers bytes (suc at) n

-- a year after its word, or nothing where it needn't be said
unfoldable pub shown_year : List ℕ → ℕ → ℕ → List ℕ
shown_year word unsaid n = elim (eqb n unsaid) [ true ↦ [] | false ↦ rightward 0 word ++ shown_number 4 n ]

-- the years, in their column past four signs; nothing for always
unfoldable pub shown_years : ℕ → ℕ → ℕ → List ℕ
shown_years missing first last =
    elim (eqb first earliest_year && eqb last latest_year) [
      | true ↦ []
      | false ↦ spaces (3 * missing) ++ shown_year from_word earliest_year first ++ shown_year to_word latest_year last
    ]

unfoldable pub shown_signs : List ℕ → ℕ → List ℕ
shown_signs bytes at = rightward 0 colon ++ shown_numbers bytes at (signs_before bytes at entry_signs)

unfoldable pub shown_tail : Bool → List ℕ → ℕ → List ℕ
shown_tail dated bytes at =
    shown_signs bytes at
    ++ elim dated [
      | true ↦ shown_years (entry_signs - signs_before bytes at entry_signs) (number_at bytes (at + 4)) (number_at bytes (at + 6))
      | false ↦ []
    ]

-- ---- Fields and lines

-- the field at byte `at` of a record
unfoldable pub shown_field : Field → List ℕ → ℕ → List ℕ
shown_field (Number least most) bytes at = shown_number 2 (get_or bytes at 0)
shown_field Symbol bytes at = leftward 2 (shown_symbols bytes at 1)
shown_field (Row n) bytes at = leftward 0 (shown_symbols bytes at n)
shown_field String bytes at = leftward most_length (shown_symbols bytes (at + 1) (get_or bytes at 0))
shown_field Classed bytes at = shown_number 2 (get_or bytes (at + 1) 0) ++ shown_mark_or 1 hyphen no_context (get_or bytes at 0)
shown_field Shift bytes at = shown_mark_or 2 equals (get_or bytes 0 0) (get_or bytes at 0)
shown_field (Tail dated) bytes at = shown_tail dated bytes at

unfoldable pub shown_fields : List Field → List ℕ → ℕ → List ℕ
shown_fields [] bytes at = []
shown_fields (f ∷ fs) bytes at = shown_field f bytes at ++ shown_fields fs bytes (at + size_of f)

unfoldable pub shown_line : Draft → Keyword → List ℕ → List ℕ
shown_line d k bytes = spelled k ++ shown_fields (fields_of d k) bytes 0 ++ line_feed ∷ []

-- ---- The whole

-- what the first lines say
unfoldable pub head_of : Sections → Draft
head_of s =
    record {
      stage = 3;
      dated = eqb s.contractions.size dated_entry_size;
      classes = s.classes;
      variables = s.variables;
      letters = 0;
      entries = 0;
      contexts = 0;
      transitions = 0;
      decisions = 0;
    }

unfoldable pub shown_head : Draft → List ℕ
shown_head d =
    elim d.dated [ true ↦ shown_line d Dated [] | false ↦ [] ]
    ++ shown_line d Classes (d.classes ∷ [])
    ++ shown_line d Variables (d.variables ∷ [])

unfoldable pub shown_record : Draft → Keyword → List ℕ → Section → ℕ → List ℕ
shown_record d k image s i = shown_line d k (record_part image s i 0 s.size)

-- an empty line, and a line for each record; nothing where there is none
unfoldable pub shown_section : Draft → Keyword → List ℕ → Section → List ℕ
shown_section d k image s =
    elim (eqb s.records 0) [ true ↦ [] | false ↦ line_feed ∷ flatten (list_of (shown_record d k image s) s.records) ]

unfoldable pub shown_in : List ℕ → Draft → Sections → List ℕ
shown_in image d s =
    shown_head d
    ++ shown_section d Letter image s.alphabet
    ++ shown_section d Entry image s.contractions
    ++ shown_section d Context image s.contexts
    ++ shown_section d Transition image s.transitions
    ++ shown_section d Decision image s.decisions

unfoldable pub shown : List ℕ → List ℕ
shown image = shown_in image (head_of (sections_of image)) (sections_of image)
