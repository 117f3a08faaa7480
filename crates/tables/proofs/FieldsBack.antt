-- Each field that `show` writes is read back as its bytes: what is left of the line is what followed it, blanks at its front aside. So a list of fields is
-- read back as all its bytes.
use Prim.Native.Nat.{ℕ, zero, suc, ◌+◌, ◌-◌, ◌*◌, ◌≤◌, ◌<◌}
use mathlib.Core.Bool.{Bool, true, false, cond}
use mathlib.Core.List.{List, [], ◌∷◌, ◌++◌, append_assoc, append-nil}
use mathlib.Core.Path.{◌≡◌, refl, sym, ap, ap₂, ◌∙◌}
use native.Mathlib.Omega.{arith}
use lib.Arith.{digits_div, digits_mod}
use lib.Dec.{eqb}
use lib.ListN.{length, get_or, take, drop, replicate, length-drop}
use lib.Seq.{take-add, drop-drop, length-take-le, drop-append_seam, take_all, get_or-take}
use borrow.Author.Tests.{eqb-true, eq-eqb, ne_eqb}
use Rattle.table.specs.Numbers.{most_length, no_context, no_cell, entry_signs, earliest_year, latest_year, padding}
use Rattle.table.specs.Sections.{byte_at, number_at, bytes_from}
use Rattle.form.specs.Numbers.{colon, equals, hyphen, from_word, to_word, most_byte, most_year}
use Rattle.form.specs.Words.{Read, got, after, after_gap, is_gap, ends_word, whole, begins, is_word, is_digit, starts_number, row, string, string_bytes}
use Rattle.form.specs.Fields.{size_of, sizes_of, number_bytes, classed, signs_from, signs, year, years, tail, read_field, read_fields}
use Rattle.form.specs.Showing.{spaces, rightward, shown_number, shown_mark_or, shown_symbols, leftward, signs_before, shown_numbers, shown_year, shown_years, shown_signs, shown_tail, shown_field, shown_fields}
use Rattle.tables.specs.inside.Writing.{SymbolsAt, WritableString, WritableTail, WritableField, Writable}
use Rattle.form.specs.declared.Field.{Field}
use Rattle.form.specs.declared.Field.TheVariants.{Number, Symbol, Row, String, Classed, Shift, Tail}
use Rattle.tables.proofs.WordsBack.{after_gap_spaces, rightward_back, rightward_ends, is_word_front, decimal_start, shown_number_front, shown_number_ends, shown_number_back, mark_back, mark_ends, symbols_no_end, symbols_back, bytes_cons, leftward_back, spaces_end}

-- these bytes are read, and what is left is this rest, blanks at its front aside
pub record Back (read : Read) (bytes rest : List ℕ) : Type 0 where
  pub later : List ℕ
  pub reads : read ≡ got bytes later
  pub same : after_gap later ≡ after_gap rest

-- ---- Bytes

bytes_one : (bytes : List ℕ) (at : ℕ) → at < length bytes → bytes_from bytes at 1 ≡ get_or bytes at 0 ∷ []
unfolding bytes_from
bytes_one bytes at h = bytes_cons bytes at 0 h

bytes_long : (bytes : List ℕ) (at n : ℕ) → at + n ≤ length bytes → length (bytes_from bytes at n) ≡ n
unfolding bytes_from
bytes_long bytes at n h = length-take-le n (drop at bytes) (simp length-drop (omega arith))

bytes_add : (bytes : List ℕ) (at m n : ℕ) → bytes_from bytes at (m + n) ≡ bytes_from bytes at m ++ bytes_from bytes (at + m) n
unfolding bytes_from
bytes_add bytes at m n = take-add m n (drop at bytes) ∙ ap (λ (xs : List ℕ). take m (drop at bytes) ++ take n xs) (drop-drop m at bytes)

bytes_taken : (bytes : List ℕ) (at n : ℕ) → take (at + n) bytes ≡ take at bytes ++ bytes_from bytes at n
unfolding bytes_from
bytes_taken bytes at n = take-add at n bytes

-- bytes that are all alike
bytes_alike : (bytes : List ℕ) (at n c : ℕ) → at + n ≤ length bytes → ((k : ℕ) → k < n → get_or bytes (at + k) 0 ≡ c) → bytes_from bytes at n ≡ replicate n c
unfolding bytes_from
bytes_alike bytes at zero c fits h = refl
bytes_alike bytes at (suc n) c fits h =
    bytes_cons bytes at n (omega arith)
    ∙ ap₂ ◌∷◌ (rw here at (h 0 (omega arith))) (bytes_alike bytes (suc at) n c (omega arith) (λ k l. let e : at + suc k ≡ suc at + k = omega arith in rw e at (h (suc k) (omega arith))))
  where
    here : at + 0 ≡ at
    here = omega arith

-- ---- A row of symbols

pub row_back : (width n : ℕ) (bytes : List ℕ) (at : ℕ) (rest : List ℕ) → 1 ≤ n → SymbolsAt bytes at n → at + n ≤ length bytes → ends_word rest ≡ true
    → Back (row n (after_gap (leftward width (shown_symbols bytes at n) ++ rest))) (bytes_from bytes at n) rest
unfolding row whole
row_back width n bytes at rest some h fits e = record { later = gap ++ rest; reads = reads; same = after_gap_spaces missing rest }
  where
    missing : ℕ
    missing = width - length (shown_symbols bytes at n)

    gap : List ℕ
    gap = spaces missing

    reads : row n (after_gap (leftward width (shown_symbols bytes at n) ++ rest)) ≡ got (bytes_from bytes at n) (gap ++ rest)
    reads =
        rw (
          leftward_back width (shown_symbols bytes at n) rest (symbols_no_end bytes at n (gap ++ rest) some h),
          symbols_back bytes at n n [] (gap ++ rest) (omega arith) h fits (spaces_end missing rest e),
          eq-eqb (length (bytes_from bytes at n)) n (bytes_long bytes at n fits),
          spaces_end missing rest e,
        )

-- ---- A string

string_bytes_lem : (bytes : List ℕ) (at : ℕ) → WritableString bytes at → at + 11 ≤ length bytes
    → string_bytes (bytes_from bytes (suc at) (get_or bytes at 0)) ≡ bytes_from bytes at 11
unfolding string_bytes
string_bytes_lem bytes at w fits =
    rw (bytes_long bytes (suc at) n (omega (arith, w.length.high)))
    (sym (bytes_cons bytes at 10 (omega arith)
    ∙ ap (λ (xs : List ℕ). n ∷ xs)
    (ap (bytes_from bytes (suc at)) split ∙ bytes_add bytes (suc at) n (10 - n)
    ∙ ap (λ (xs : List ℕ). bytes_from bytes (suc at) n ++ xs) (bytes_alike bytes (suc at + n) (10 - n) padding (omega (arith, w.length.high)) zeros))))
  where
    n : ℕ
    n = get_or bytes at 0

    split : 10 ≡ n + (10 - n)
    split = omega (arith, w.length.high)

    zeros : (k : ℕ) → k < 10 - n → get_or bytes (suc at + n + k) 0 ≡ padding
    zeros k l = let e : suc at + (n + k) ≡ suc at + n + k = omega arith in rw e at (w.padded (n + k) (omega arith) (omega arith))

pub string_back : (bytes : List ℕ) (at : ℕ) (rest : List ℕ) → WritableString bytes at → at + 11 ≤ length bytes → ends_word rest ≡ true
    → Back (string (after_gap (leftward most_length (shown_symbols bytes (suc at) (get_or bytes at 0)) ++ rest))) (bytes_from bytes at 11) rest
unfolding string whole
string_back bytes at rest w fits e = record { later = spaces missing ++ rest; reads = reads; same = after_gap_spaces missing rest }
  where
    n : ℕ
    n = get_or bytes at 0

    missing : ℕ
    missing = most_length - length (shown_symbols bytes (suc at) n)

    within_line : suc at + n ≤ length bytes
    within_line = omega (arith, w.length.high)

    reads : string (after_gap (leftward most_length (shown_symbols bytes (suc at) n) ++ rest)) ≡ got (bytes_from bytes at 11) (spaces missing ++ rest)
    reads =
        rw (
          leftward_back most_length (shown_symbols bytes (suc at) n) rest (symbols_no_end bytes (suc at) n (spaces missing ++ rest) w.length.low w.symbols),
          symbols_back bytes (suc at) n most_length [] (spaces missing ++ rest) w.length.high w.symbols within_line (spaces_end missing rest e),
          ne_eqb (length (bytes_from bytes (suc at) n)) 0 (λ z. omega (arith, bytes_long bytes (suc at) n within_line, w.length.low)),
          spaces_end missing rest e,
        )
        (ap (λ (xs : List ℕ). got xs (spaces missing ++ rest)) (string_bytes_lem bytes at w fits))

-- ---- A class and its right context

pub classed_back : (class context : ℕ) (rest : List ℕ) → class ≤ most_byte → context ≤ most_byte → ends_word rest ≡ true
    → classed (after_gap ((shown_number 2 class ++ shown_mark_or 1 hyphen no_context context) ++ rest)) ≡ got (context ∷ class ∷ []) rest
unfolding classed is_digit is_gap
classed_back class context rest l k e =
    rw (
      append_assoc (shown_number 2 class) (shown_mark_or 1 hyphen no_context context) rest,
      shown_number_back 2 0 most_byte class (shown_mark_or 1 hyphen no_context context ++ rest) (omega arith) l (omega arith) (mark_ends 1 hyphen no_context context rest),
      mark_back 1 hyphen no_context context rest refl refl k e,
    )

-- ---- Signs

pub numbers_end : (bytes : List ℕ) (at m : ℕ) (rest : List ℕ) → ends_word rest ≡ true → ends_word (shown_numbers bytes at m ++ rest) ≡ true
unfolding shown_numbers
numbers_end bytes at zero rest e = e
numbers_end bytes at (suc m) rest e =
    rw (append_assoc (shown_number 2 (get_or bytes at 0)) (shown_numbers bytes (suc at) m) rest) (shown_number_ends 2 (get_or bytes at 0) (shown_numbers bytes (suc at) m ++ rest))

sign_step : (n b : ℕ) (sofar rest : List ℕ) → b ≤ most_byte → ends_word rest ≡ true
    → signs_from (suc n) sofar (shown_number 2 b ++ rest) ≡ signs_from n (sofar ++ b ∷ []) rest
unfolding signs_from
sign_step n b sofar rest low e = rw (starts, signs_from) (rw (shown_number_back 2 0 most_byte b rest (omega arith) low (omega arith) e))
  where
    starts : starts_number (after_gap (shown_number 2 b ++ rest)) ≡ true
    starts = rw (shown_number_front 2 b rest) (decimal_start b rest)

-- up to the first 99
pub signs_read : (bytes : List ℕ) (at n : ℕ) (sofar rest : List ℕ) → ((k : ℕ) → k < n → get_or bytes (at + k) 0 ≤ most_byte) → at + n ≤ length bytes
    → ends_word rest ≡ true → starts_number (after_gap rest) ≡ false
    → signs_from n sofar (shown_numbers bytes at (signs_before bytes at n) ++ rest) ≡ got (sofar ++ bytes_from bytes at (signs_before bytes at n)) rest
unfolding signs_from signs_before shown_numbers bytes_from
signs_read bytes at zero sofar rest h fits e f = ap (λ (xs : List ℕ). got xs rest) (sym (append-nil sofar))
signs_read bytes at (suc n) sofar rest h fits e f =
    go (eqb b no_cell) refl
    (signs_read bytes (suc at) n (sofar ++ b ∷ []) rest
    (λ k l. let same : at + suc k ≡ suc at + k = omega arith in rw same at (h (suc k) (omega arith))) (omega arith) e f)
  where
    b : ℕ
    b = get_or bytes at 0

    m : ℕ
    m = signs_before bytes (suc at) n

    low : b ≤ most_byte
    low = let same : at + 0 ≡ at = omega arith in rw same at (h 0 (omega arith))

    go : (t : Bool) → eqb b no_cell ≡ t
        → signs_from n (sofar ++ b ∷ []) (shown_numbers bytes (suc at) m ++ rest) ≡ got (sofar ++ b ∷ [] ++ bytes_from bytes (suc at) m) rest
        → signs_from (suc n) sofar (shown_numbers bytes at (signs_before bytes at (suc n)) ++ rest) ≡ got (sofar ++ bytes_from bytes at (signs_before bytes at (suc n))) rest
    go true t later = rw (t, signs_before) (rw (f, signs_from) (ap (λ (xs : List ℕ). got xs rest) (sym (append-nil sofar))))
    go false t later =
        rw (t, signs_before)
        (rw (append_assoc (shown_number 2 b) (shown_numbers bytes (suc at) m) rest)
        (sign_step n b sofar (shown_numbers bytes (suc at) m ++ rest) low (numbers_end bytes (suc at) m rest e)
        ∙ later
        ∙ ap (λ (xs : List ℕ). got xs rest)
        (append_assoc sofar (b ∷ []) (bytes_from bytes (suc at) m) ∙ ap (λ (xs : List ℕ). sofar ++ xs) (sym (bytes_cons bytes at m (omega arith))))))

pub before_most : (bytes : List ℕ) (at n : ℕ) → signs_before bytes at n ≤ n
unfolding signs_before
before_most bytes at zero = omega arith
before_most bytes at (suc n) = go (eqb (get_or bytes at 0) no_cell) refl (before_most bytes (suc at) n)
  where
    go : (t : Bool) → eqb (get_or bytes at 0) no_cell ≡ t → signs_before bytes (suc at) n ≤ n → signs_before bytes at (suc n) ≤ suc n
    go true t l = rw (t, signs_before) (omega arith)
    go false t l = rw (t, signs_before) (omega arith)

-- after a 99 all are
after_missing : (bytes : List ℕ) (at n : ℕ) → ((k : ℕ) → suc k < n → get_or bytes (at + k) 0 ≡ no_cell → get_or bytes (at + suc k) 0 ≡ no_cell)
    → get_or bytes at 0 ≡ no_cell → (k : ℕ) → k < n → get_or bytes (at + k) 0 ≡ no_cell
after_missing bytes at n h first zero l = let same : at ≡ at + 0 = omega arith in rw same at first
after_missing bytes at n h first (suc k) l = h k l (after_missing bytes at n h first k (omega arith))

pub signs_padded : (bytes : List ℕ) (at n : ℕ) → ((k : ℕ) → suc k < n → get_or bytes (at + k) 0 ≡ no_cell → get_or bytes (at + suc k) 0 ≡ no_cell)
    → at + n ≤ length bytes → bytes_from bytes at (signs_before bytes at n) ++ replicate (n - signs_before bytes at n) no_cell ≡ bytes_from bytes at n
unfolding signs_before bytes_from
signs_padded bytes at zero h fits = refl
signs_padded bytes at (suc n) h fits =
    go (eqb (get_or bytes at 0) no_cell) refl
    (signs_padded bytes (suc at) n
    (λ k l e. let one : at + suc k ≡ suc at + k = omega arith in let two : at + suc (suc k) ≡ suc at + suc k = omega arith in rw two at (h (suc k) (omega arith) (rw one e)))
    (omega arith))
  where
    m : ℕ
    m = signs_before bytes (suc at) n

    go : (t : Bool) → eqb (get_or bytes at 0) no_cell ≡ t → bytes_from bytes (suc at) m ++ replicate (n - m) no_cell ≡ bytes_from bytes (suc at) n
        → bytes_from bytes at (signs_before bytes at (suc n)) ++ replicate (suc n - signs_before bytes at (suc n)) no_cell ≡ bytes_from bytes at (suc n)
    go true t later =
        let all : suc n - 0 ≡ suc n = omega arith in
        rw (t, signs_before)
        (rw all (sym (bytes_alike bytes at (suc n) no_cell fits (after_missing bytes at (suc n) h (eqb-true (get_or bytes at 0) no_cell t)))))
    go false t later =
        let less : suc n - suc m ≡ n - m = omega arith in
        rw (t, signs_before)
        (rw (bytes_cons bytes at m (omega arith), bytes_cons bytes at n (omega arith), less) (ap (λ (xs : List ℕ). get_or bytes at 0 ∷ xs) later))

pub signs_back : (bytes : List ℕ) (at : ℕ) (rest : List ℕ) → ((k : ℕ) → k < entry_signs → get_or bytes (at + k) 0 ≤ most_byte)
    → ((k : ℕ) → suc k < entry_signs → get_or bytes (at + k) 0 ≡ no_cell → get_or bytes (at + suc k) 0 ≡ no_cell) → at + 4 ≤ length bytes
    → ends_word rest ≡ true → starts_number (after_gap rest) ≡ false
    → signs (shown_numbers bytes at (signs_before bytes at entry_signs) ++ rest) ≡ got (bytes_from bytes at 4) rest
unfolding signs
signs_back bytes at rest h missing fits e f =
    let l = before_most bytes at 4 in
    rw (signs_read bytes at 4 [] rest h fits e f, bytes_long bytes at (signs_before bytes at 4) (omega arith))
    (ap (λ (xs : List ℕ). got xs rest) (signs_padded bytes at 4 missing fits))

-- ---- Years

year_front : (word : List ℕ) (n gap : ℕ) (rest : List ℕ) → ((later : List ℕ) → ends_word (word ++ later) ≡ false)
    → after_gap (spaces gap ++ ((rightward 0 word ++ shown_number 4 n) ++ rest)) ≡ word ++ (shown_number 4 n ++ rest)
year_front word n gap rest h =
    after_gap_spaces gap ((rightward 0 word ++ shown_number 4 n) ++ rest)
    ∙ ap after_gap (append_assoc (rightward 0 word) (shown_number 4 n) rest)
    ∙ rightward_back 0 word (shown_number 4 n ++ rest) (h (shown_number 4 n ++ rest))

year_said : (word : List ℕ) (unsaid n gap : ℕ) (rest : List ℕ) → ((later : List ℕ) → ends_word (word ++ later) ≡ false) → n ≤ most_year → ends_word rest ≡ true
    → year word unsaid (spaces gap ++ ((rightward 0 word ++ shown_number 4 n) ++ rest)) ≡ got (n ∷ []) rest
unfolding year
year_said word unsaid n gap rest h low e =
    rw (year_front word n gap rest h, is_word_front word (shown_number 4 n ++ rest) (shown_number_ends 4 n rest), drop-append_seam word (shown_number 4 n ++ rest))
    (shown_number_back 4 0 most_year n rest (omega arith) low (omega arith) e)

shown_said : (word : List ℕ) (unsaid n : ℕ) → eqb n unsaid ≡ false → shown_year word unsaid n ≡ rightward 0 word ++ shown_number 4 n
unfolding shown_year
shown_said word unsaid n e = rw (e, shown_year)

shown_unsaid : (word : List ℕ) (unsaid n : ℕ) → eqb n unsaid ≡ true → shown_year word unsaid n ≡ []
unfolding shown_year
shown_unsaid word unsaid n e = rw (e, shown_year)

shown_end : (word : List ℕ) (unsaid n : ℕ) (rest : List ℕ) → ends_word rest ≡ true → ends_word (shown_year word unsaid n ++ rest) ≡ true
shown_end word unsaid n rest e = go (eqb n unsaid) refl
  where
    go : (t : Bool) → eqb n unsaid ≡ t → ends_word (shown_year word unsaid n ++ rest) ≡ true
    go true t = rw (shown_unsaid word unsaid n t) e
    go false t = rw (shown_said word unsaid n t, append_assoc (rightward 0 word) (shown_number 4 n) rest) (rightward_ends 0 word (shown_number 4 n ++ rest))

-- the last year, which stands at the line's end
to_said : (n gap : ℕ) → n ≤ most_year → eqb n latest_year ≡ false → year to_word latest_year (spaces gap ++ shown_year to_word latest_year n) ≡ got (n ∷ []) []
unfolding ends_word is_gap
to_said n gap low e =
    rw (shown_said to_word latest_year n e, ← append-nil (rightward 0 to_word ++ shown_number 4 n)) (year_said to_word latest_year n gap [] (λ later. refl) low refl)

to_back : (n : ℕ) → n ≤ most_year → year to_word latest_year (shown_year to_word latest_year n) ≡ got (n ∷ []) []
unfolding year after_gap is_word begins
to_back n low = go (eqb n latest_year) refl
  where
    go : (t : Bool) → eqb n latest_year ≡ t → year to_word latest_year (shown_year to_word latest_year n) ≡ got (n ∷ []) []
    go true t = rw (shown_unsaid to_word latest_year n t) (ap (λ (m : ℕ). got (m ∷ []) []) (sym (eqb-true n latest_year t)))
    go false t = to_said n 0 low t

-- what the years of an entry are written as
pub data Written (gap first last : ℕ) : List ℕ → Type 0 where
  always : first ≡ earliest_year → last ≡ latest_year → Written gap first last []
  until : first ≡ earliest_year → eqb last latest_year ≡ false → Written gap first last (spaces gap ++ shown_year to_word latest_year last)
  since : Written gap first last (spaces gap ++ ((rightward 0 from_word ++ shown_number 4 first) ++ shown_year to_word latest_year last))

pub written_as : (missing first last : ℕ) → Written (3 * missing) first last (shown_years missing first last)
unfolding shown_years
written_as missing first last = go (eqb first earliest_year) (eqb last latest_year) refl refl
  where
    go : (s t : Bool) → eqb first earliest_year ≡ s → eqb last latest_year ≡ t → Written (3 * missing) first last (shown_years missing first last)
    go true true p q = rw (p, q, shown_years) (always (eqb-true first earliest_year p) (eqb-true last latest_year q))
    go true false p q =
        rw (p, q, shown_years)
        (rw (shown_unsaid from_word earliest_year first p, append-nil (spaces (3 * missing))) (until (eqb-true first earliest_year p) q))
    go false t p q =
        rw (p, shown_years)
        (rw (
          shown_said from_word earliest_year first p,
          append_assoc (spaces (3 * missing)) (rightward 0 from_word ++ shown_number 4 first) (shown_year to_word latest_year last),
        )
        since)

to_front : (n gap : ℕ) → eqb n latest_year ≡ false → after_gap (spaces gap ++ shown_year to_word latest_year n) ≡ to_word ++ (shown_number 4 n ++ [])
unfolding ends_word is_gap
to_front n gap e =
    rw (shown_said to_word latest_year n e, ← append-nil (rightward 0 to_word ++ shown_number 4 n)) (year_front to_word n gap [] (λ later. refl))

from_front : (n gap : ℕ) (rest : List ℕ)
    → after_gap (spaces gap ++ ((rightward 0 from_word ++ shown_number 4 n) ++ rest)) ≡ from_word ++ (shown_number 4 n ++ rest)
unfolding ends_word is_gap
from_front n gap rest = year_front from_word n gap rest (λ later. refl)

years_end : {gap first last : ℕ} {text : List ℕ} → Written gap first last text → ends_word text ≡ true
unfolding ends_word is_gap
years_end (always p q) = refl
years_end {gap} {first} {last} (until p q) =
    spaces_end gap (shown_year to_word latest_year last)
    (rw (append-nil (shown_year to_word latest_year last)) at (shown_end to_word latest_year last [] refl))
years_end {gap} {first} {last} since =
    spaces_end gap ((rightward 0 from_word ++ shown_number 4 first) ++ shown_year to_word latest_year last)
    (rw (append_assoc (rightward 0 from_word) (shown_number 4 first) (shown_year to_word latest_year last))
    (rightward_ends 0 from_word (shown_number 4 first ++ shown_year to_word latest_year last)))

years_no_number : {gap first last : ℕ} {text : List ℕ} → Written gap first last text → starts_number (after_gap text) ≡ false
unfolding starts_number is_digit after_gap
years_no_number (always p q) = refl
years_no_number {gap} {first} {last} (until p q) = ap starts_number (to_front last gap q)
years_no_number {gap} {first} {last} since = ap starts_number (from_front first gap (shown_year to_word latest_year last))

years_steps : {first last : ℕ} (text : List ℕ) {later end : List ℕ} → year from_word earliest_year text ≡ got (first ∷ []) later
    → year to_word latest_year later ≡ got (last ∷ []) end → years text ≡ got (number_bytes first ++ number_bytes last) end
unfolding years
years_steps text p q = rw (p, q)

years_back : {gap first last : ℕ} {text : List ℕ} → Written gap first last text → first ≤ most_year → last ≤ most_year
    → years text ≡ got (number_bytes first ++ number_bytes last) []
unfolding years year is_word begins after_gap ends_word is_gap
years_back (always p q) low high = rw (p, q)
years_back {gap} {first} {last} (until p q) low high = rw (to_front last gap q) (rw (to_said last gap high q) (rw p))
years_back {gap} {first} {last} since low high =
    years_steps (spaces gap ++ ((rightward 0 from_word ++ shown_number 4 first) ++ shown_year to_word latest_year last))
    (year_said from_word earliest_year first gap (shown_year to_word latest_year last) (λ later. refl) low
    (rw (append-nil (shown_year to_word latest_year last)) at (shown_end to_word latest_year last [] refl)))
    (to_back last high)

-- ---- A two-byte number

number_bytes_lem : (bytes : List ℕ) (at : ℕ) → at + 2 ≤ length bytes → get_or bytes at 0 ≤ most_byte → number_bytes (number_at bytes at) ≡ bytes_from bytes at 2
unfolding number_bytes number_at byte_at
number_bytes_lem bytes at fits low =
    let turned : get_or bytes at 0 + 256 * get_or bytes (at + 1) 0 ≡ get_or bytes (at + 1) 0 * 256 + get_or bytes at 0 = omega arith in
    let next : at + 1 ≡ suc at = omega arith in
    rw (turned, digits_mod (get_or bytes (at + 1) 0) {m = 256} {r = get_or bytes at 0} (omega arith), digits_div (get_or bytes (at + 1) 0) {m = 256} {r = get_or bytes at 0} (omega arith))
    (rw next (sym (bytes_cons bytes at 1 (omega arith) ∙ ap (λ (xs : List ℕ). get_or bytes at 0 ∷ xs) (bytes_one bytes (suc at) (omega arith)))))

year_most : (bytes : List ℕ) (at : ℕ) → get_or bytes at 0 ≤ most_byte → get_or bytes (at + 1) 0 ≤ most_byte → number_at bytes at ≤ most_year
unfolding number_at byte_at
year_most bytes at l h = omega arith

-- ---- The signs and the years

tail_steps : (dated : Bool) (line : List ℕ) {written later : List ℕ} → ends_word line ≡ true → signs line ≡ got written later
    → tail dated (colon ++ line) ≡ cond dated (after (years later) (λ when end. got (written ++ when) end)) (got written later)
unfolding tail
tail_steps dated line e h = rw (is_word_front colon line e, h)

tail_front : (bytes : List ℕ) (at : ℕ) (years : List ℕ)
    → after_gap (shown_signs bytes at ++ years) ≡ colon ++ (shown_numbers bytes at (signs_before bytes at entry_signs) ++ years)
unfolding shown_signs ends_word is_gap
tail_front bytes at years =
    let signs = shown_numbers bytes at (signs_before bytes at entry_signs) in
    ap after_gap (append_assoc (rightward 0 colon) signs years) ∙ rightward_back 0 colon (signs ++ years) refl

pub tail_back : (dated : Bool) (bytes : List ℕ) (at : ℕ) → WritableTail dated bytes at → at + size_of (Tail dated) ≤ length bytes
    → tail dated (after_gap (shown_tail dated bytes at)) ≡ got (bytes_from bytes at (size_of (Tail dated))) []
unfolding shown_tail ends_word starts_number after_gap
tail_back false bytes at w fits =
    ap (tail false) (tail_front bytes at [])
    ∙ tail_steps false (shown_numbers bytes at (signs_before bytes at entry_signs) ++ []) (numbers_end bytes at (signs_before bytes at entry_signs) [] refl)
    (signs_back bytes at [] w.signs w.missing fits refl refl)
tail_back true bytes at w fits =
    ap (tail true) (tail_front bytes at text)
    ∙ tail_steps true (shown_numbers bytes at (signs_before bytes at entry_signs) ++ text) (numbers_end bytes at (signs_before bytes at entry_signs) text (years_end written))
    (signs_back bytes at text w.signs w.missing (omega arith) (years_end written) (years_no_number written))
    ∙ rw (years_back written (year_most bytes (at + 4) low_first high_first) (year_most bytes (at + 6) low_last high_last)) (ap (λ (xs : List ℕ). got xs []) joined)
  where
    text : List ℕ
    text = shown_years (entry_signs - signs_before bytes at entry_signs) (number_at bytes (at + 4)) (number_at bytes (at + 6))

    written : Written (3 * (entry_signs - signs_before bytes at entry_signs)) (number_at bytes (at + 4)) (number_at bytes (at + 6)) text
    written = written_as (entry_signs - signs_before bytes at entry_signs) (number_at bytes (at + 4)) (number_at bytes (at + 6))

    low_first : get_or bytes (at + 4) 0 ≤ most_byte
    low_first = let e : at + 4 + 0 ≡ at + 4 = omega arith in rw e at (w.years refl 0 (omega arith))

    high_first : get_or bytes (at + 4 + 1) 0 ≤ most_byte
    high_first = w.years refl 1 (omega arith)

    low_last : get_or bytes (at + 6) 0 ≤ most_byte
    low_last = let e : at + 4 + 2 ≡ at + 6 = omega arith in rw e at (w.years refl 2 (omega arith))

    high_last : get_or bytes (at + 6 + 1) 0 ≤ most_byte
    high_last = let e : at + 4 + 3 ≡ at + 6 + 1 = omega arith in rw e at (w.years refl 3 (omega arith))

    joined : bytes_from bytes at 4 ++ (number_bytes (number_at bytes (at + 4)) ++ number_bytes (number_at bytes (at + 6))) ≡ bytes_from bytes at 8
    joined =
        let e : at + 4 + 2 ≡ at + 6 = omega arith in
        rw (number_bytes_lem bytes (at + 4) (omega arith) low_first, number_bytes_lem bytes (at + 6) (omega arith) low_last, ← e)
        (ap (λ (xs : List ℕ). bytes_from bytes at 4 ++ xs) (sym (bytes_add bytes (at + 4) 2 2)) ∙ sym (bytes_add bytes at 4 4))

-- ---- Any field

-- where a field may stand, and what may follow it
abbrev pub Apt : Field → ℕ → List ℕ → Type 0
Apt (Number least most) at rest = most ≤ most_byte
Apt Symbol at rest = Unit {0}
Apt (Row n) at rest = Unit {0}
Apt String at rest = Unit {0}
Apt Classed at rest = Unit {0}
Apt Shift at rest = 1 ≤ at
Apt (Tail dated) at rest = rest ≡ []

exactly : {read : Read} {bytes rest : List ℕ} → read ≡ got bytes rest → Back read bytes rest
exactly {rest = rest} e = record { later = rest; reads = e; same = refl }

pub field_ends : (f : Field) (bytes : List ℕ) (at : ℕ) (rest : List ℕ) → ends_word (shown_field f bytes at ++ rest) ≡ true
unfolding shown_field leftward ends_word is_gap shown_tail shown_signs rightward shown_number
field_ends (Number least most) bytes at rest = refl
field_ends Symbol bytes at rest = refl
field_ends (Row n) bytes at rest = refl
field_ends String bytes at rest = refl
field_ends Classed bytes at rest = refl
field_ends Shift bytes at rest = mark_ends 2 equals (get_or bytes 0 0) (get_or bytes at 0) rest
field_ends (Tail dated) bytes at rest = refl

first_byte : (bytes : List ℕ) (at : ℕ) → 1 ≤ at → get_or (take at bytes) 0 0 ≡ get_or bytes 0 0
first_byte bytes at h = get_or-take at bytes 0 0 h

pub field_back : (f : Field) (bytes : List ℕ) (at : ℕ) (rest : List ℕ) → Apt f at rest → at + size_of f ≤ length bytes → WritableField f bytes at
    → ends_word rest ≡ true → Back (read_field f (take at bytes) (after_gap (shown_field f bytes at ++ rest))) (bytes_from bytes at (size_of f)) rest
unfolding read_field shown_field is_digit is_gap
field_back (Number least most) bytes at rest apt fits w e =
    exactly (rw (bytes_one bytes at (omega arith)) (shown_number_back 2 least most (get_or bytes at 0) rest w.low w.high (omega (arith, w.high)) e))
field_back Symbol bytes at rest apt fits w e = row_back 2 1 bytes at rest (omega arith) one fits e
  where
    one : SymbolsAt bytes at 1
    one k l = let same : at ≡ at + k = omega arith in rw same at w
field_back (Row n) bytes at rest apt fits w e = row_back 0 n bytes at rest w.some w.symbols fits e
field_back String bytes at rest apt fits w e = let next : at + 1 ≡ suc at = omega arith in rw next (string_back bytes at rest w fits e)
field_back Classed bytes at rest apt fits w e =
    exactly
    (rw two (classed_back (get_or bytes (at + 1) 0) (get_or bytes at 0) rest w.class w.context e))
  where
    two : bytes_from bytes at 2 ≡ get_or bytes at 0 ∷ get_or bytes (at + 1) 0 ∷ []
    two =
        let next : at + 1 ≡ suc at = omega arith in
        rw next (bytes_cons bytes at 1 (omega arith) ∙ ap (λ (xs : List ℕ). get_or bytes at 0 ∷ xs) (bytes_one bytes (suc at) (omega arith)))
field_back Shift bytes at rest apt fits w e =
    exactly
    (rw (bytes_one bytes at (omega arith), first_byte bytes at apt) (mark_back 2 equals (get_or bytes 0 0) (get_or bytes at 0) rest refl refl w e))
field_back (Tail dated) bytes at rest apt fits w e =
    rw (apt, append-nil (shown_tail dated bytes at)) (exactly (tail_back dated bytes at w fits))

-- ---- The fields of a line

abbrev pub Apts : List Field → List ℕ → ℕ → Type 0
Apts [] bytes at = Unit {0}
Apts (f ∷ fs) bytes at = Apt f at (shown_fields fs bytes (at + size_of f)) × Apts fs bytes (at + size_of f)

pub fields_end : (fs : List Field) (bytes : List ℕ) (at : ℕ) → ends_word (shown_fields fs bytes at) ≡ true
unfolding shown_fields ends_word
fields_end [] bytes at = refl
fields_end (f ∷ fs) bytes at = field_ends f bytes at (shown_fields fs bytes (at + size_of f))

fields_step : (f : Field) (fs : List Field) (sofar line : List ℕ) {bytes later : List ℕ} → read_field f sofar (after_gap line) ≡ got bytes later
    → read_fields (f ∷ fs) sofar line ≡ read_fields fs (sofar ++ bytes) later
unfolding read_fields
fields_step f fs sofar line e = rw (e, read_fields)

pub fields_back : (fs : List Field) (bytes : List ℕ) (at : ℕ) (line : List ℕ) → Apts fs bytes at → at + sizes_of fs ≡ length bytes → Writable fs bytes at
    → after_gap line ≡ after_gap (shown_fields fs bytes at) → Back (read_fields fs (take at bytes) line) bytes []
unfolding read_fields shown_fields sizes_of after_gap
fields_back [] bytes at line apt sized w e = record { later = line; reads = ap (λ (xs : List ℕ). got xs line) (take_all at bytes (omega arith)); same = e }
fields_back (f ∷ fs) bytes at line apt sized w e =
    let rest = shown_fields fs bytes (at + size_of f) in
    let b = field_back f bytes at rest apt.0 (omega arith) w.0 (fields_end fs bytes (at + size_of f)) in
    rw (fields_step f fs (take at bytes) line (ap (read_field f (take at bytes)) e ∙ b.reads) ∙ ap (λ (xs : List ℕ). read_fields fs xs b.later) (sym (bytes_taken bytes at (size_of f))))
    (fields_back fs bytes (at + size_of f) b.later apt.1 (omega arith) w.1 b.same)
