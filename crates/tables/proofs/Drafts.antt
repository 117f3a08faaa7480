-- What a good line and a good text come to: each field gives as many bytes as its size says, a number that was read is within its limits, so a draft stays
-- within those of the frame, and at the text's end the sections have just the bytes that the trailer will say. The invariant over the lines: the draft is
-- modest, the body has the bytes of all sections, before the variables' line there is no record, and from the classes' line on there is a class.
use Prim.Native.Nat.{ℕ, zero, suc, ◌+◌, ◌-◌, ◌*◌, ◌≤◌, ◌<◌}
use mathlib.Core.Bool.{Bool, true, false, cond, not, ◌&&◌, ◌||◌, true≢false}
use mathlib.Core.List.{List, [], ◌∷◌, ◌++◌}
use Rattle.std.specs.Prelude.{Option, None, Some}
use mathlib.Core.Path.{◌≡◌, refl, sym, ◌∙◌, ap, subst}
use native.Mathlib.Nat.{add-zero, mul-suc, mul-zero}
use native.Mathlib.Numerals.{add-one}
use native.Mathlib.Omega.{arith}
use lib.Dec.{leb, ltb, eqb}
use lib.ListN.{length, get_or, drop, replicate, length-append, length-replicate}
use borrow.Author.Tests.{leb-true, ltb-true, ltb-false, eqb-true}
use Rattle.table.specs.Numbers.{least_classes, most_classes, most_variables, most_length, least_letters, entry_signs, no_cell, no_context, padding, blank, least_symbol, most_symbol, earliest_year, latest_year, most_letters, most_entries, most_contexts, most_columns, entry_size, dated_entry_size}
use Rattle.table.specs.Search.{within}
use Rattle.table.proofs.Tests.{both}
use Rattle.form.specs.Numbers.{equals, hyphen, colon, from_word, to_word, most_byte, hash, underscore, backslash}
use Rattle.form.specs.Words.{Read, got, wrong, after, after_gap, ends_word, ends_line, whole, is_word, is_digit, starts_number, with_digit, digits_from, at_least, number, byte_number, mark_or, is_escaped, escaped, symbol, symbols_from, row, string_bytes, string}
use Rattle.form.specs.Fields.{spelled, fields_of, size_of, sizes_of, number_bytes, classed, signs_from, signs, year, years, tail, read_field, read_fields}
use Rattle.form.specs.Reading.{lines_of, rank, in_order, has_room, start, with_line, image_bytes, Line, nothing, says, unlike, keyword_in, keywords, ended, line_of, read_line, Reading, good, bad, read_end, read_lines, reading, entry_size_for, decisions_for, transitions_for, contexts_for, entries_for, letters_for}
use Rattle.form.specs.inside.Steps.{Modest}
use Rattle.form.specs.declared.Draft.{Draft}
use Rattle.form.specs.declared.Expected.{Expected}
use Rattle.form.specs.declared.Expected.TheVariants as expected
use Rattle.form.specs.declared.Field.{Field}
use Rattle.form.specs.declared.Field.TheVariants.{Number, Symbol, Row, String, Classed, Shift, Tail}
use Rattle.form.specs.declared.Keyword.{Keyword}
use Rattle.form.specs.declared.Keyword.TheVariants.{Dated, Classes, Variables, Letter, Entry, Context, Transition, Decision}

-- ---- What a read gives, where it gives something

pub data Gives (P : List ℕ → Type 0) : Read → Type 0 where
  gives : (bytes : List ℕ) {rest : List ℕ} → P bytes → Gives P (got bytes rest)
  fails : {e : Expected} {rest : List ℕ} → Gives P (wrong e rest)

pub gave : {P : List ℕ → Type 0} {bytes rest : List ℕ} → Gives P (got bytes rest) → P bytes
gave (gives bytes h) = h

gives_weaker : {P Q : List ℕ → Type 0} {r : Read} → ((bytes : List ℕ) → P bytes → Q bytes) → Gives P r → Gives Q r
gives_weaker f (gives bytes h) = gives bytes (f bytes h)
gives_weaker f fails = fails

gives_after : {P Q : List ℕ → Type 0} (r : Read) (f : List ℕ → List ℕ → Read) → Gives P r
    → ((bytes rest : List ℕ) → P bytes → Gives Q (f bytes rest)) → Gives Q (after r f)
gives_after (got bytes rest) f (gives _ h) k = k bytes rest h
gives_after (wrong e rest) f fails k = fails

gives_cond : {P : List ℕ → Type 0} (t : Bool) {x y : Read} → (t ≡ true → Gives P x) → (t ≡ false → Gives P y) → Gives P (cond t x y)
gives_cond true f g = f refl
gives_cond false f g = g refl

gives_whole : {P : List ℕ → Type 0} {r : Read} → Gives P r → Gives P (whole r)
unfolding whole
gives_whole (gives bytes {rest} h) = gives_cond (ends_word rest) (λ _. gives bytes h) (λ _. fails)
gives_whole fails = fails

-- so many bytes
abbrev pub Long : ℕ → List ℕ → Type 0
Long n bytes = length bytes ≡ n

-- ---- Numbers

-- one byte, from `least` to `most`
pub record IsNumber (least most : ℕ) (bytes : List ℕ) : Type 0 where
  pub one_byte : length bytes ≡ 1
  pub low : least ≤ get_or bytes 0 0
  pub high : get_or bytes 0 0 ≤ most

gives_digits : (least most n : ℕ) (rest : List ℕ) → n ≤ most → Gives (IsNumber 0 most) (digits_from least most n rest)
unfolding digits_from
gives_digits least most n [] l = gives (n ∷ []) (record { one_byte = refl; low = omega arith; high = l })
gives_digits least most n (c ∷ cs) l =
    go (is_digit c) (leb (with_digit n c) most) refl (gives_digits least most (with_digit n c) cs)
  where
    go : (t u : Bool) → leb (with_digit n c) most ≡ u
        → (with_digit n c ≤ most → Gives (IsNumber 0 most) (digits_from least most (with_digit n c) cs))
        → Gives (IsNumber 0 most)
        (elim t [
          | true ↦ elim u [ true ↦ digits_from least most (with_digit n c) cs | false ↦ wrong (expected.Number least most) (c ∷ cs) ]
          | false ↦ got (n ∷ []) (c ∷ cs)
        ])
    go true true e later = later (leb-true _ _ e)
    go true false e later = fails
    go false u e later = gives (n ∷ []) (record { one_byte = refl; low = omega arith; high = l })

pub gives_number : (least most : ℕ) (rest : List ℕ) → Gives (IsNumber least most) (number least most rest)
unfolding number at_least
gives_number least most rest =
    gives_cond (starts_number rest)
    (λ _.
    gives_whole
    (gives_after (digits_from least most 0 rest) _ (gives_digits least most 0 rest (omega arith))
    (λ bytes later h.
    gives_cond (leb least (get_or bytes 0 0))
    (λ e. gives bytes (record { one_byte = h.one_byte; low = leb-true _ _ e; high = h.high }))
    (λ _. fails))))
    (λ _. fails)

gives_byte : (least most : ℕ) (rest : List ℕ) → Gives (Long 1) (number least most rest)
gives_byte least most rest = gives_weaker (λ bytes h. h.one_byte) (gives_number least most rest)

gives_mark : (mark value : ℕ) (rest : List ℕ) → Gives (Long 1) (mark_or mark value rest)
unfolding mark_or
gives_mark mark value [] = gives_byte 0 most_byte []
gives_mark mark value (c ∷ cs) = gives_cond (eqb c mark) (λ _. gives_whole (gives (value ∷ []) refl)) (λ _. gives_byte 0 most_byte (c ∷ cs))

-- ---- Symbols

gives_escaped : (rest : List ℕ) → Gives (Long 1) (escaped rest)
unfolding escaped
gives_escaped [] = fails
gives_escaped (c ∷ cs) = gives_cond (is_escaped c) (λ _. gives (c ∷ []) refl) (λ _. fails)

gives_symbol : (rest : List ℕ) → Gives (Long 1) (symbol rest)
unfolding symbol
gives_symbol [] = fails
gives_symbol (c ∷ cs) =
    gives_cond (eqb c underscore) (λ _. gives (blank ∷ []) refl)
    (λ _.
    gives_cond (eqb c backslash) (λ _. gives_escaped cs)
    (λ _. gives_cond (within (suc least_symbol) most_symbol c && not (eqb c hash)) (λ _. gives (c ∷ []) refl) (λ _. fails)))

-- at most so many bytes
abbrev AtMost : ℕ → List ℕ → Type 0
AtMost n bytes = length bytes ≤ n

gives_symbols : (n : ℕ) (sofar rest : List ℕ) → Gives (AtMost (length sofar + n)) (symbols_from n sofar rest)
unfolding symbols_from
gives_symbols zero sofar rest = gives sofar (omega arith)
gives_symbols (suc n) sofar rest = go (ends_word rest) (symbol rest) (gives_symbol rest) (λ c later. gives_symbols n (sofar ++ c) later)
  where
    go : (t : Bool) (r : Read) → Gives (Long 1) r
        → ((c later : List ℕ) → Gives (AtMost (length (sofar ++ c) + n)) (symbols_from n (sofar ++ c) later))
        → Gives (AtMost (length sofar + suc n))
        (elim t [
          | true ↦ got sofar rest
          | false ↦ elim r [ got c later ↦ symbols_from n (sofar ++ c) later | wrong e later ↦ wrong e later ]
        ])
    go true r g k = gives sofar (omega arith)
    go false (got c later) (gives _ h) k = gives_weaker (λ bytes l. omega (arith, length-append sofar c)) (k c later)
    go false (wrong e later) fails k = fails

gives_row : (n : ℕ) (rest : List ℕ) → Gives (Long n) (row n rest)
unfolding row
gives_row n rest =
    gives_whole
    (gives_after (symbols_from n [] rest) _ (gives_symbols n [] rest)
    (λ bytes later h. gives_cond (eqb (length bytes) n) (λ e. gives bytes (eqb-true _ _ e)) (λ _. fails)))

string_long : (s : List ℕ) → length s ≤ most_length → length (string_bytes s) ≡ suc most_length
unfolding string_bytes
string_long s l = omega (arith, length-append s (replicate (most_length - length s) padding), length-replicate (most_length - length s) padding)

gives_string : (rest : List ℕ) → Gives (Long (suc most_length)) (string rest)
unfolding string
gives_string rest =
    gives_whole
    (gives_after (symbols_from most_length [] rest) _ (gives_symbols most_length [] rest)
    (λ bytes later h. gives_cond (eqb (length bytes) 0) (λ _. fails) (λ _. gives (string_bytes bytes) (string_long bytes h))))

-- ---- The other fields

gives_classed : (rest : List ℕ) → Gives (Long 2) (classed rest)
unfolding classed
gives_classed rest =
    gives_after (byte_number rest) _ (gives_byte 0 most_byte rest)
    (λ class later h.
    gives_after (mark_or hyphen no_context (after_gap later)) _ (gives_mark hyphen no_context (after_gap later))
    (λ context last g. gives (context ++ class) (omega (arith, length-append context class))))

gives_signs_from : (n : ℕ) (sofar rest : List ℕ) → Gives (AtMost (length sofar + n)) (signs_from n sofar rest)
unfolding signs_from
gives_signs_from zero sofar rest = gives sofar (omega arith)
gives_signs_from (suc n) sofar rest =
    go (starts_number (after_gap rest)) (byte_number (after_gap rest)) (gives_byte 0 most_byte (after_gap rest)) (λ c later. gives_signs_from n (sofar ++ c) later)
  where
    go : (t : Bool) (r : Read) → Gives (Long 1) r
        → ((c later : List ℕ) → Gives (AtMost (length (sofar ++ c) + n)) (signs_from n (sofar ++ c) later))
        → Gives (AtMost (length sofar + suc n))
        (elim t [
          | true ↦ elim r [ got sign later ↦ signs_from n (sofar ++ sign) later | wrong e later ↦ wrong e later ]
          | false ↦ got sofar rest
        ])
    go false r g k = gives sofar (omega arith)
    go true (got c later) (gives _ h) k = gives_weaker (λ bytes l. omega (arith, length-append sofar c)) (k c later)
    go true (wrong e later) fails k = fails

gives_signs : (rest : List ℕ) → Gives (Long entry_signs) (signs rest)
unfolding signs
gives_signs rest =
    gives_after (signs_from entry_signs [] rest) _ (gives_signs_from entry_signs [] rest)
    (λ bytes later h.
    gives (bytes ++ replicate (entry_signs - length bytes) no_cell)
    (omega (arith, length-append bytes (replicate (entry_signs - length bytes) no_cell), length-replicate (entry_signs - length bytes) no_cell)))

gives_years : (rest : List ℕ) → Gives (Long 4) (years rest)
unfolding years number_bytes
gives_years rest =
    gives_after (year from_word earliest_year rest) _ (gives_any (year from_word earliest_year rest))
    (λ first later h. gives_after (year to_word latest_year later) _ (gives_any (year to_word latest_year later)) (λ last end g. gives _ refl))
  where
    gives_any : (r : Read) → Gives (λ _. Unit {0}) r
    gives_any (got bytes rest) = gives bytes tt
    gives_any (wrong e rest) = fails

gives_tail : (dated : Bool) (rest : List ℕ) → Gives (Long (cond dated 8 4)) (tail dated rest)
unfolding tail
gives_tail dated rest =
    gives_cond (is_word colon rest)
    (λ _. gives_after (signs (drop (length colon) rest)) _ (gives_signs (drop (length colon) rest)) (λ written later h. go dated written later h))
    (λ _. fails)
  where
    go : (dated : Bool) (written later : List ℕ) → length written ≡ 4
        → Gives (Long (cond dated 8 4)) (cond dated (after (years later) (λ when end. got (written ++ when) end)) (got written later))
    go true written later h =
        gives_after (years later) (λ when end. got (written ++ when) end) (gives_years later)
        (λ when end g. gives (written ++ when) (omega (arith, length-append written when)))
    go false written later h = gives written h

gives_field : (f : Field) (sofar rest : List ℕ) → Gives (Long (size_of f)) (read_field f sofar rest)
unfolding read_field
gives_field (Number least most) sofar rest = gives_byte least most rest
gives_field Symbol sofar rest = gives_row 1 rest
gives_field (Row n) sofar rest = gives_row n rest
gives_field String sofar rest = gives_string rest
gives_field Classed sofar rest = gives_classed rest
gives_field Shift sofar rest = gives_mark equals (get_or sofar 0 0) rest
gives_field (Tail dated) sofar rest = gives_tail dated rest

-- after the fields there are as many bytes as they have
gives_fields : (fs : List Field) (sofar rest : List ℕ) → Gives (Long (length sofar + sizes_of fs)) (read_fields fs sofar rest)
unfolding read_fields sizes_of
gives_fields [] sofar rest = gives sofar (omega arith)
gives_fields (f ∷ fs) sofar rest = go (read_field f sofar (after_gap rest)) (gives_field f sofar (after_gap rest)) (λ bytes later. gives_fields fs (sofar ++ bytes) later)
  where
    go : (r : Read) → Gives (Long (size_of f)) r
        → ((bytes later : List ℕ) → Gives (Long (length (sofar ++ bytes) + sizes_of fs)) (read_fields fs (sofar ++ bytes) later))
        → Gives (Long (length sofar + (size_of f + sizes_of fs)))
        (elim r [ got bytes later ↦ read_fields fs (sofar ++ bytes) later | wrong e later ↦ wrong e later ])
    go (got bytes later) (gives _ h) k = gives_weaker (λ all l. omega (arith, length-append sofar bytes)) (k bytes later)
    go (wrong e later) fails k = fails

-- a line that has one number gives it
gives_one : (least most : ℕ) (rest : List ℕ) → Gives (IsNumber least most) (read_fields (Number least most ∷ []) [] rest)
unfolding read_fields read_field
gives_one least most rest = go (number least most (after_gap rest)) (gives_number least most (after_gap rest))
  where
    go : (r : Read) → Gives (IsNumber least most) r
        → Gives (IsNumber least most) (elim r [ got bytes later ↦ got bytes later | wrong e later ↦ wrong e later ])
    go (got bytes later) g = g
    go (wrong e later) g = fails

-- ---- What a line says, where it says something

-- the first byte of the two lines that speak of the trailer
abbrev FirstRight : Keyword → List ℕ → Type 0
FirstRight Dated bytes = Unit {0}
FirstRight Classes bytes = IsNumber least_classes most_classes bytes
FirstRight Variables bytes = IsNumber 0 most_variables bytes
FirstRight Letter bytes = Unit {0}
FirstRight Entry bytes = Unit {0}
FirstRight Context bytes = Unit {0}
FirstRight Transition bytes = Unit {0}
FirstRight Decision bytes = Unit {0}

pub record Said (d : Draft) (k : Keyword) (bytes : List ℕ) : Type 0 where
  pub order : in_order d k ≡ true
  pub room : has_room d k ≡ true
  pub size : length bytes ≡ sizes_of (fields_of d k)
  pub first : FirstRight k bytes

data Says (d : Draft) : Line → Type 0 where
  quiet : Says d nothing
  told : {k : Keyword} {bytes : List ℕ} → Said d k bytes → Says d (says k bytes)
  off : {e : Expected} {rest : List ℕ} → Says d (unlike e rest)

says_first : (d : Draft) (k : Keyword) (rest : List ℕ) → Gives (FirstRight k) (read_fields (fields_of d k) [] rest)
unfolding fields_of
says_first d Dated rest = gives_weaker (λ _ _. tt) (gives_fields [] [] rest)
says_first d Classes rest = gives_one least_classes most_classes rest
says_first d Variables rest = gives_one 0 most_variables rest
says_first d Letter rest = gives_weaker (λ _ _. tt) (gives_fields (fields_of d Letter) [] rest)
says_first d Entry rest = gives_weaker (λ _ _. tt) (gives_fields (fields_of d Entry) [] rest)
says_first d Context rest = gives_weaker (λ _ _. tt) (gives_fields (fields_of d Context) [] rest)
says_first d Transition rest = gives_weaker (λ _ _. tt) (gives_fields (fields_of d Transition) [] rest)
says_first d Decision rest = gives_weaker (λ _ _. tt) (gives_fields (fields_of d Decision) [] rest)

says_ended : (d : Draft) (k : Keyword) (r : Read) → in_order d k ≡ true → has_room d k ≡ true → Gives (Long (sizes_of (fields_of d k))) r → Gives (FirstRight k) r
    → Says d (ended k r)
unfolding ended
says_ended d k (got bytes rest) order room (gives _ size) (gives _ first) = go (ends_line (after_gap rest))
  where
    go : (t : Bool) → Says d (elim t [ true ↦ says k bytes | false ↦ unlike expected.LineEnd (after_gap rest) ])
    go true = told (record { order = order; room = room; size = size; first = first })
    go false = off
says_ended d k (wrong e rest) order room size first = off

says_keyword : (d : Draft) (k : Keyword) (rest : List ℕ) → Says d (line_of d k rest)
unfolding line_of
says_keyword d k rest = go (in_order d k) (has_room d k) refl refl
  where
    go : (t u : Bool) → in_order d k ≡ t → has_room d k ≡ u
        → Says d
        (elim t [
          | true ↦ elim u [ true ↦ ended k (read_fields (fields_of d k) [] (drop (length (spelled k)) rest)) | false ↦ unlike expected.Fewer rest ]
          | false ↦ unlike (expected.Line d.stage) rest
        ])
    go true true e f =
        says_ended d k (read_fields (fields_of d k) [] (drop (length (spelled k)) rest)) e f
        (gives_weaker (λ bytes l. omega arith) (gives_fields (fields_of d k) [] (drop (length (spelled k)) rest))) (says_first d k (drop (length (spelled k)) rest))
    go true false e f = off
    go false u e f = off

says_line : (d : Draft) (line : List ℕ) → Says d (read_line d line)
unfolding read_line
says_line d line = go (ends_line (after_gap line)) (keyword_in (after_gap line) keywords)
  where
    go : (t : Bool) (o : Option Keyword)
        → Says d
        (elim t [
          | true ↦ nothing
          | false ↦ elim o [ Some k ↦ line_of d k (after_gap line) | None ↦ unlike (expected.Line d.stage) (after_gap line) ]
        ])
    go true o = quiet
    go false (Some k) = says_keyword d k (after_gap line)
    go false None = off

pub line_said : (d : Draft) (line : List ℕ) (k : Keyword) (bytes : List ℕ) → read_line d line ≡ says k bytes → Said d k bytes
line_said d line k bytes e = go (subst (Says d) e (says_line d line))
  where
    go : Says d (says k bytes) → Said d k bytes
    go (told s) = s

pub says_size : (d : Draft) (line : List ℕ) (k : Keyword) (bytes : List ℕ) → read_line d line ≡ says k bytes → length bytes ≡ sizes_of (fields_of d k)
says_size d line k bytes e = (line_said d line k bytes e).size

-- ---- The draft stays within the limits

pub said_modest : (d : Draft) (k : Keyword) (bytes : List ℕ) → Modest d → Said d k bytes → Modest (with_line d k (get_or bytes 0 0))
unfolding with_line
said_modest d Dated bytes m s = search arith
said_modest d Classes bytes m s = let h = s.first.high in search arith
said_modest d Variables bytes m s = let h = s.first.high in search arith
said_modest d Letter bytes m s = let r = ltb-true d.letters most_letters s.room in search arith
said_modest d Entry bytes m s = let r = ltb-true d.entries most_entries s.room in search arith
said_modest d Context bytes m s = let r = ltb-true d.contexts most_contexts s.room in search arith
said_modest d Transition bytes m s = let r = ltb-true d.transitions d.variables s.room in search arith
said_modest d Decision bytes m s = let r = ltb-true d.decisions most_columns s.room in search arith

pub says_modest : (d : Draft) (line : List ℕ) (k : Keyword) (bytes : List ℕ) → Modest d → read_line d line ≡ says k bytes
    → Modest (with_line d k (get_or bytes 0 0))
says_modest d line k bytes m e = said_modest d k bytes m (line_said d line k bytes e)

-- ---- One record more is as many bytes more

or_false : (t : Bool) → (t || false) ≡ t
or_false true = refl
or_false false = refl

mul_more : (a n : ℕ) → a * (n + 1) ≡ a * n + a
mul_more a n = rw (add-one n) (mul-suc a n)

entry_more : (dated : Bool) → cond dated dated_entry_size entry_size ≡ 14 + cond dated 8 4
entry_more true = refl
entry_more false = refl

-- the second row of a decision is there where there are variables
second_row : (n : ℕ) → sizes_of (cond (eqb n 0) [] (Row n ∷ [])) ≡ n
unfolding sizes_of
second_row n = go (eqb n 0) refl
  where
    go : (t : Bool) → eqb n 0 ≡ t → sizes_of (cond t [] (Row n ∷ [])) ≡ n
    go true e = sym (eqb-true n 0 e)
    go false e = omega arith

module _ (d : Draft) (n : ℕ) where
  letter_more : letters_for (with_line d Letter n) ≡ letters_for d + sizes_of (fields_of d Letter)
  unfolding letters_for entries_for contexts_for transitions_for decisions_for entry_size_for with_line fields_of sizes_of
  letter_more = simp (or_false, add-zero, mul_more) (omega arith)

  entry_longer : letters_for (with_line d Entry n) ≡ letters_for d + sizes_of (fields_of d Entry)
  unfolding letters_for entries_for contexts_for transitions_for decisions_for entry_size_for with_line fields_of sizes_of
  entry_longer = simp (or_false, add-zero, mul_more) (omega (arith, entry_more d.dated))

  context_more : letters_for (with_line d Context n) ≡ letters_for d + sizes_of (fields_of d Context)
  unfolding letters_for entries_for contexts_for transitions_for decisions_for entry_size_for with_line fields_of sizes_of
  context_more = simp (or_false, add-zero, mul_more) (omega arith)

  transition_more : letters_for (with_line d Transition n) ≡ letters_for d + sizes_of (fields_of d Transition)
  unfolding letters_for entries_for contexts_for transitions_for decisions_for entry_size_for with_line fields_of sizes_of
  transition_more = simp (or_false, add-zero, mul_more) (omega arith)

  decision_more : letters_for (with_line d Decision n) ≡ letters_for d + sizes_of (fields_of d Decision)
  unfolding letters_for entries_for contexts_for transitions_for decisions_for entry_size_for with_line fields_of sizes_of
  decision_more = simp (or_false, add-zero, mul_more) (omega (arith, second_row d.variables))

record NoRecords (d : Draft) : Type 0 where
  no_letter_lem : d.letters ≡ 0
  no_entry : d.entries ≡ 0
  no_context_lem : d.contexts ≡ 0
  no_transition : d.transitions ≡ 0
  no_decision : d.decisions ≡ 0

none_long : (d : Draft) → NoRecords d → letters_for d ≡ 0
unfolding letters_for entries_for contexts_for transitions_for decisions_for
none_long d n = simp (n.no_letter_lem, n.no_entry, n.no_context_lem, n.no_transition, n.no_decision, mul-zero)

-- ---- The invariant over the lines

record Grows (d : Draft) (body : List ℕ) : Type 0 where
  modest : Modest d
  size : length body ≡ letters_for d
  early : d.stage < 3 → NoRecords d
  some_class : 2 ≤ d.stage → least_classes ≤ d.classes
  few : d.transitions ≤ d.variables

start_grows : Grows start []
unfolding letters_for entries_for contexts_for transitions_for decisions_for entry_size_for
start_grows =
    record {
      modest = search arith;
      size = refl;
      early = λ _. search arith;
      some_class = λ l. absurd (omega arith);
      few = omega arith;
    }

-- the three first lines give no bytes, as there are no records yet
grows_early : (d : Draft) (k : Keyword) (bytes body : List ℕ) → Grows d body → Said d k bytes → NoRecords d
    → NoRecords (with_line d k (get_or bytes 0 0)) → image_bytes k bytes ≡ []
    → (2 ≤ (with_line d k (get_or bytes 0 0)).stage → least_classes ≤ (with_line d k (get_or bytes 0 0)).classes)
    → Grows (with_line d k (get_or bytes 0 0)) (body ++ image_bytes k bytes)
grows_early d k bytes body g s n m e c =
    record {
      modest = said_modest d k bytes g.modest s;
      size =
          length-append body (image_bytes k bytes)
          ∙ ap (λ (xs : List ℕ). length body + length xs) e
          ∙ omega (arith, g.size, none_long d n, none_long (with_line d k (get_or bytes 0 0)) m);
      early = λ _. m;
      some_class = c;
      few = omega (arith, m.no_transition);
    }

grows_late : (d : Draft) (k : Keyword) (bytes body : List ℕ) → Grows d body → Said d k bytes → 3 ≤ d.stage → 3 ≤ (with_line d k (get_or bytes 0 0)).stage
    → letters_for (with_line d k (get_or bytes 0 0)) ≡ letters_for d + sizes_of (fields_of d k)
    → image_bytes k bytes ≡ bytes
    → (with_line d k (get_or bytes 0 0)).classes ≡ d.classes
    → (with_line d k (get_or bytes 0 0)).transitions ≤ (with_line d k (get_or bytes 0 0)).variables
    → Grows (with_line d k (get_or bytes 0 0)) (body ++ image_bytes k bytes)
grows_late d k bytes body g s l m long e c few =
    record {
      modest = said_modest d k bytes g.modest s;
      size =
          length-append body (image_bytes k bytes)
          ∙ ap (λ (xs : List ℕ). length body + length xs) e
          ∙ omega (arith, g.size, s.size, long);
      early = λ u. absurd (omega arith);
      some_class = λ _. omega (arith, g.some_class (omega arith));
      few = few;
    }

none_still : (d : Draft) (k : Keyword) (n : ℕ) → ltb 3 (rank k) ≡ false → NoRecords d → NoRecords (with_line d k n)
unfolding with_line
none_still d Dated n e h = search arith
none_still d Classes n e h = search arith
none_still d Variables n e h = search arith
none_still d Letter n e h = absurd (true≢false e)
none_still d Entry n e h = absurd (true≢false e)
none_still d Context n e h = absurd (true≢false e)
none_still d Transition n e h = absurd (true≢false e)
none_still d Decision n e h = absurd (true≢false e)

said_grows : (d : Draft) (k : Keyword) (bytes body : List ℕ) → Grows d body → Said d k bytes → Grows (with_line d k (get_or bytes 0 0)) (body ++ image_bytes k bytes)
unfolding with_line image_bytes
said_grows d Dated bytes body g s =
    let at = eqb-true d.stage 0 s.order in
    let n = g.early (omega arith) in
    grows_early d Dated bytes body g s n (none_still d Dated (get_or bytes 0 0) refl n) refl (λ l. absurd (omega arith))
said_grows d Classes bytes body g s =
    let at = leb-true d.stage 1 s.order in
    let n = g.early (omega arith) in
    grows_early d Classes bytes body g s n (none_still d Classes (get_or bytes 0 0) refl n) refl (λ _. s.first.low)
said_grows d Variables bytes body g s =
    let at = eqb-true d.stage 2 s.order in
    let n = g.early (omega arith) in
    grows_early d Variables bytes body g s n (none_still d Variables (get_or bytes 0 0) refl n) refl (λ _. g.some_class (omega arith))
said_grows d Letter bytes body g s =
    let l = leb-true 3 d.stage (both _ _ s.order).0 in
    grows_late d Letter bytes body g s l (omega arith) (letter_more d (get_or bytes 0 0)) refl refl (omega (arith, g.few))
said_grows d Entry bytes body g s =
    let l = leb-true 3 d.stage (both _ _ s.order).0 in
    grows_late d Entry bytes body g s l (omega arith) (entry_longer d (get_or bytes 0 0)) refl refl (omega (arith, g.few))
said_grows d Context bytes body g s =
    let l = leb-true 3 d.stage (both _ _ s.order).0 in
    grows_late d Context bytes body g s l (omega arith) (context_more d (get_or bytes 0 0)) refl refl (omega (arith, g.few))
said_grows d Transition bytes body g s =
    let l = leb-true 3 d.stage (both _ _ s.order).0 in
    let r = ltb-true d.transitions d.variables s.room in
    grows_late d Transition bytes body g s l (omega arith) (transition_more d (get_or bytes 0 0)) refl refl (omega arith)
said_grows d Decision bytes body g s =
    let l = leb-true 3 d.stage (both _ _ s.order).0 in
    grows_late d Decision bytes body g s l (omega arith) (decision_more d (get_or bytes 0 0)) refl refl (omega (arith, g.few))

-- ---- The text

-- a draft and the sections' bytes that a good text comes to
pub record Comes (d : Draft) (body : List ℕ) : Type 0 where
  pub modest : Modest d
  pub size : length body ≡ letters_for d
  pub letters : least_letters ≤ d.letters
  pub transitions : d.transitions ≡ d.variables
  pub classes : least_classes ≤ d.classes

data Reads : Reading → Type 0 where
  well : {d : Draft} {body : List ℕ} → Comes d body → Reads (good d body)
  ill : {e : Expected} {at : ℕ} → Reads (bad e at)

reads_end : (d : Draft) (body : List ℕ) (end : ℕ) → Grows d body → Reads (read_end d body end)
unfolding read_end
reads_end d body end g = go (ltb d.stage 3) (ltb d.letters least_letters) (ltb d.transitions d.variables) refl refl refl
  where
    go : (a b c : Bool) → ltb d.stage 3 ≡ a → ltb d.letters least_letters ≡ b → ltb d.transitions d.variables ≡ c
        → Reads
        (elim (cond a (Some (expected.Line d.stage)) (cond b (Some expected.Letter) (cond c (Some expected.Transition) None))) [
          | None ↦ good d body
          | Some e ↦ bad e end
        ])
    go true b c e f h = ill
    go false true c e f h = ill
    go false false true e f h = ill
    go false false false e f h =
        let at = ltb-false d.stage 3 e in
        let all = ltb-false d.transitions d.variables h in
        let few = g.few in
        well
        (record {
          modest = g.modest;
          size = g.size;
          letters = ltb-false d.letters least_letters f;
          transitions = omega arith;
          classes = g.some_class (omega arith);
        })

reads_lines : (d : Draft) (body : List ℕ) (at : ℕ) (lines : List (List ℕ)) → Grows d body → Reads (read_lines d body at lines)
unfolding read_lines
reads_lines d body at [] g = reads_end d body (at - 1) g
reads_lines d body at (line ∷ lines) g = go (read_line d line) (says_line d line) (λ e b h. reads_lines e b (at + length line + 1) lines h)
  where
    go : (l : Line) → Says d l → ((e : Draft) (b : List ℕ) → Grows e b → Reads (read_lines e b (at + length line + 1) lines))
        → Reads
        (elim l [
          | nothing ↦ read_lines d body (at + length line + 1) lines
          | says k bytes ↦ read_lines (with_line d k (get_or bytes 0 0)) (body ++ image_bytes k bytes) (at + length line + 1) lines
          | unlike e rest ↦ bad e (at + (length line - length rest))
        ])
    go nothing s later = later d body g
    go (says k bytes) (told s) later = later (with_line d k (get_or bytes 0 0)) (body ++ image_bytes k bytes) (said_grows d k bytes body g s)
    go (unlike e rest) s later = ill

pub reading_good : (text : List ℕ) (d : Draft) (body : List ℕ) → reading text ≡ good d body → Comes d body
unfolding reading
reading_good text d body e = go (subst Reads e (reads_lines start [] 0 (lines_of text) start_grows))
  where
    go : Reads (good d body) → Comes d body
    go (well c) = c
