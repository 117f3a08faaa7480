-- A line that `show` writes is read back as its record. A line has no line feed in it, so a text of such lines has just these lines.
use Prim.Native.Nat.{ℕ, zero, suc, ◌+◌, ◌-◌, ◌*◌, ◌/◌, ◌%◌}
use mathlib.Core.Bool.{Bool, true, false, cond, ◌&&◌}
use mathlib.Core.List.{List, [], ◌∷◌, ◌++◌}
use mathlib.Core.Path.{◌≡◌, refl, ◌∙◌}
use native.Mathlib.Omega.{arith}
use lib.Dec.{eqb, ltb}
use lib.ListN.{length, get_or}
use lib.Seq.{drop-append_seam}
use borrow.Author.Tests.{ne_eqb}
use Rattle.table.specs.Lists.{All, empty, ◌and◌}
use Rattle.table.specs.Numbers.{blank, least_symbol, most_symbol, most_length, no_context, entry_signs, earliest_year, latest_year}
use Rattle.table.specs.Refusals.{Between}
use Rattle.table.specs.Sections.{number_at}
use Rattle.table.proofs.Lists.{all_append, all_replicate}
use Rattle.form.specs.Numbers.{line_feed, space, underscore, backslash, zero_digit, equals, hyphen, colon, from_word, to_word}
use Rattle.form.specs.Words.{Read, is_gap, after_gap, ends_word, ends_line, begins, is_word, is_escaped}
use Rattle.form.specs.Fields.{spelled, fields_of, size_of, sizes_of}
use Rattle.form.specs.Reading.{lines_of, on_first, in_order, has_room, says, keyword_in, ended, line_of, read_line}
use Rattle.form.specs.Showing.{spaces, decimal_in, decimal, rightward, shown_number, shown_mark_or, shown_symbol, shown_symbols, leftward, signs_before, shown_numbers, shown_year, shown_years, shown_signs, shown_tail, shown_field, shown_fields}
use Rattle.tables.specs.inside.Writing.{SymbolsAt, WritableField, Writable}
use Rattle.form.specs.declared.Draft.{Draft}
use Rattle.form.specs.declared.Field.{Field}
use Rattle.form.specs.declared.Field.TheVariants.{Number, Symbol, Row, String, Classed, Shift, Tail}
use Rattle.form.specs.declared.Keyword.{Keyword}
use Rattle.form.specs.declared.Keyword.TheVariants.{Dated, Classes, Variables, Letter, Entry, Context, Transition, Decision}
use Rattle.tables.proofs.FieldsBack.{Back, Apts, fields_end, fields_back}

-- none of these is a line feed
abbrev pub Unbroken : List ℕ → Type 0
Unbroken line = All (λ c. eqb c line_feed ≡ false) line

pub lines_cons : (line rest : List ℕ) → Unbroken line → lines_of (line ++ line_feed ∷ rest) ≡ line ∷ lines_of rest
unfolding lines_of on_first
lines_cons [] rest empty = refl
lines_cons (c ∷ line) rest (h and hs) = rw (h, lines_cons line rest hs, lines_of)

-- ---- No line feed is written

unbroken_spaces : (n : ℕ) → Unbroken (spaces n)
unbroken_spaces n = all_replicate n space refl

unbroken_digits : (f n : ℕ) → Unbroken (decimal_in f n)
unfolding decimal_in
unbroken_digits zero n = ne_eqb (zero_digit + n % 10) line_feed (λ e. omega arith) and empty
unbroken_digits (suc f) n = go (ltb n 10) refl (unbroken_digits f (n / 10))
  where
    go : (t : Bool) → ltb n 10 ≡ t → Unbroken (decimal_in f (n / 10)) → Unbroken (decimal_in (suc f) n)
    go true e h = rw (e, decimal_in) (ne_eqb (zero_digit + n) line_feed (λ e. omega arith) and empty)
    go false e h = rw (e, decimal_in) (all_append h (ne_eqb (zero_digit + n % 10) line_feed (λ e. omega arith) and empty))

unbroken_right : (width : ℕ) (word : List ℕ) → Unbroken word → Unbroken (rightward width word)
unfolding rightward
unbroken_right width word h = all_append (unbroken_spaces (suc (width - length word))) h

unbroken_number : (width n : ℕ) → Unbroken (shown_number width n)
unfolding shown_number decimal
unbroken_number width n = unbroken_right width (decimal_in 4 n) (unbroken_digits 4 n)

unbroken_mark : (width mark value n : ℕ) → eqb mark line_feed ≡ false → Unbroken (shown_mark_or width mark value n)
unfolding shown_mark_or
unbroken_mark width mark value n h = go (eqb n value) refl
  where
    go : (t : Bool) → eqb n value ≡ t → Unbroken (shown_mark_or width mark value n)
    go true e = rw (e, shown_mark_or) (unbroken_right width (mark ∷ []) (h and empty))
    go false e = rw (e, shown_mark_or) (unbroken_number width n)

unbroken_symbol : (c : ℕ) → Between least_symbol most_symbol c → Unbroken (shown_symbol c)
unfolding shown_symbol
unbroken_symbol c h = go (eqb c blank) (is_escaped c)
  where
    stays : eqb c line_feed ≡ false
    stays = ne_eqb c line_feed (λ e. omega (arith, h.low))

    go : (t u : Bool) → Unbroken (cond t (underscore ∷ []) (cond u (backslash ∷ c ∷ []) (c ∷ [])))
    go true u = refl and empty
    go false true = refl and stays and empty
    go false false = stays and empty

unbroken_symbols : (bytes : List ℕ) (at n : ℕ) → SymbolsAt bytes at n → Unbroken (shown_symbols bytes at n)
unfolding shown_symbols
unbroken_symbols bytes at zero h = empty
unbroken_symbols bytes at (suc n) h =
    let here : at + 0 ≡ at = omega arith in
    all_append (unbroken_symbol (get_or bytes at 0) (rw here at (h 0 (omega arith))))
    (unbroken_symbols bytes (suc at) n (λ k l. let same : at + suc k ≡ suc at + k = omega arith in rw same at (h (suc k) (omega arith))))

unbroken_left : (width : ℕ) (word : List ℕ) → Unbroken word → Unbroken (leftward width word)
unfolding leftward
unbroken_left width word h = refl and all_append h (unbroken_spaces (width - length word))

unbroken_numbers : (bytes : List ℕ) (at n : ℕ) → Unbroken (shown_numbers bytes at n)
unfolding shown_numbers
unbroken_numbers bytes at zero = empty
unbroken_numbers bytes at (suc n) = all_append (unbroken_number 2 (get_or bytes at 0)) (unbroken_numbers bytes (suc at) n)

unbroken_year : (word : List ℕ) (unsaid n : ℕ) → Unbroken word → Unbroken (shown_year word unsaid n)
unfolding shown_year
unbroken_year word unsaid n h = go (eqb n unsaid) refl
  where
    go : (t : Bool) → eqb n unsaid ≡ t → Unbroken (shown_year word unsaid n)
    go true e = rw (e, shown_year) empty
    go false e = rw (e, shown_year) (all_append (unbroken_right 0 word h) (unbroken_number 4 n))

unbroken_years : (missing first last : ℕ) → Unbroken (shown_years missing first last)
unfolding shown_years
unbroken_years missing first last = go (eqb first earliest_year && eqb last latest_year) refl
  where
    go : (t : Bool) → (eqb first earliest_year && eqb last latest_year) ≡ t → Unbroken (shown_years missing first last)
    go true e = rw (e, shown_years) empty
    go false e =
        rw (e, shown_years)
        (all_append
        (all_append (unbroken_spaces (3 * missing)) (unbroken_year from_word earliest_year first (refl and refl and refl and refl and empty)))
        (unbroken_year to_word latest_year last (refl and refl and empty)))

unbroken_tail : (dated : Bool) (bytes : List ℕ) (at : ℕ) → Unbroken (shown_tail dated bytes at)
unfolding shown_tail shown_signs
unbroken_tail dated bytes at = all_append (all_append (unbroken_right 0 colon (refl and empty)) (unbroken_numbers bytes at _)) (go dated)
  where
    go : (t : Bool)
        → Unbroken (elim t [
          | true ↦ shown_years (entry_signs - signs_before bytes at entry_signs) (number_at bytes (at + 4)) (number_at bytes (at + 6))
          | false ↦ []
        ])
    go true = unbroken_years (entry_signs - signs_before bytes at entry_signs) (number_at bytes (at + 4)) (number_at bytes (at + 6))
    go false = empty

unbroken_field : (f : Field) (bytes : List ℕ) (at : ℕ) → WritableField f bytes at → Unbroken (shown_field f bytes at)
unfolding shown_field
unbroken_field (Number least most) bytes at w = unbroken_number 2 (get_or bytes at 0)
unbroken_field Symbol bytes at w = unbroken_left 2 (shown_symbols bytes at 1) (unbroken_symbols bytes at 1 (λ k l. let same : at ≡ at + k = omega arith in rw same at w))
unbroken_field (Row n) bytes at w = unbroken_left 0 (shown_symbols bytes at n) (unbroken_symbols bytes at n w.symbols)
unbroken_field String bytes at w =
    let next : at + 1 ≡ suc at = omega arith in
    rw next (unbroken_left most_length (shown_symbols bytes (suc at) (get_or bytes at 0)) (unbroken_symbols bytes (suc at) (get_or bytes at 0) w.symbols))
unbroken_field Classed bytes at w = all_append (unbroken_number 2 (get_or bytes (at + 1) 0)) (unbroken_mark 1 hyphen no_context (get_or bytes at 0) refl)
unbroken_field Shift bytes at w = unbroken_mark 2 equals (get_or bytes 0 0) (get_or bytes at 0) refl
unbroken_field (Tail dated) bytes at w = unbroken_tail dated bytes at

unbroken_fields : (fs : List Field) (bytes : List ℕ) (at : ℕ) → Writable fs bytes at → Unbroken (shown_fields fs bytes at)
unfolding shown_fields
unbroken_fields [] bytes at w = empty
unbroken_fields (f ∷ fs) bytes at w = all_append (unbroken_field f bytes at w.0) (unbroken_fields fs bytes (at + size_of f) w.1)

unbroken_word : (k : Keyword) → Unbroken (spelled k)
unbroken_word Dated = refl and refl and refl and refl and refl and empty
unbroken_word Classes = refl and refl and refl and refl and refl and refl and refl and empty
unbroken_word Variables = refl and refl and refl and refl and refl and refl and refl and refl and refl and empty
unbroken_word Letter = refl and refl and refl and refl and refl and refl and empty
unbroken_word Entry = refl and refl and refl and refl and refl and empty
unbroken_word Context = refl and refl and refl and refl and refl and refl and refl and empty
unbroken_word Transition = refl and refl and refl and refl and refl and refl and refl and refl and refl and refl and empty
unbroken_word Decision = refl and refl and refl and refl and refl and refl and refl and refl and empty

pub line_no_feed : (d : Draft) (k : Keyword) (bytes : List ℕ) → Writable (fields_of d k) bytes 0
    → Unbroken (spelled k ++ shown_fields (fields_of d k) bytes 0)
line_no_feed d k bytes w = all_append (unbroken_word k) (unbroken_fields (fields_of d k) bytes 0 w)

-- ---- A line

-- the word that begins the line is found
pub keyword_back : (d : Draft) (k : Keyword) (rest : List ℕ) → ends_word rest ≡ true → read_line d (spelled k ++ rest) ≡ line_of d k (spelled k ++ rest)
unfolding read_line ends_line after_gap is_gap keyword_in is_word begins ends_word line_of
keyword_back d Dated rest e = rw e
keyword_back d Classes rest e = rw e
keyword_back d Variables rest e = rw e
keyword_back d Letter rest e = rw e
keyword_back d Entry rest e = rw e
keyword_back d Context rest e = rw e
keyword_back d Transition rest e = rw e
keyword_back d Decision rest e = rw e

-- each field may stand where it does
pub apts : (d : Draft) (k : Keyword) (bytes : List ℕ) → Apts (fields_of d k) bytes 0
unfolding fields_of shown_fields
apts d Dated bytes = tt
apts d Classes bytes = (omega arith, tt)
apts d Variables bytes = (omega arith, tt)
apts d Letter bytes = (tt, (omega arith, (omega arith, tt)))
apts d Entry bytes = (tt, (tt, (omega arith, (refl, tt))))
apts d Context bytes = (omega arith, (omega arith, (omega arith, (omega arith, tt))))
apts d Transition bytes = (tt, tt)
apts d Decision bytes = go (eqb d.variables 0)
  where
    go : (t : Bool) → Apts (Row d.classes ∷ cond t [] (Row d.variables ∷ [])) bytes 0
    go true = (tt, tt)
    go false = (tt, (tt, tt))

ended_back : (k : Keyword) {read : Read} {bytes : List ℕ} → Back read bytes [] → ended k read ≡ says k bytes
unfolding ended ends_line after_gap
ended_back k b = rw b.reads (rw (b.same, ended))

pub line_back : (d : Draft) (k : Keyword) (bytes : List ℕ) → in_order d k ≡ true → has_room d k ≡ true
    → length bytes ≡ sizes_of (fields_of d k) → Writable (fields_of d k) bytes 0
    → read_line d (spelled k ++ shown_fields (fields_of d k) bytes 0) ≡ says k bytes
unfolding line_of
line_back d k bytes ordered room sized w =
    keyword_back d k text (fields_end fs bytes 0)
    ∙ rw (ordered, room, drop-append_seam (spelled k) text, line_of) (ended_back k (fields_back fs bytes 0 text (apts d k bytes) (omega arith) w refl))
  where
    fs : List Field
    fs = fields_of d k

    text : List ℕ
    text = shown_fields fs bytes 0
