-- Laws of the fields of a line: the bytes of a record that were written or were left as they were, and what each definition of a field comes to at each way
-- that reading it can go.
use Prim.Native.Nat.{ℕ, zero, suc, ◌+◌, ◌-◌, ◌/◌, ◌%◌, ◌≤◌, ◌<◌}
use mathlib.Core.Bool.{Bool, true, false, false≢true, ◌&&◌}
use mathlib.Core.List.{List, [], ◌∷◌, ◌++◌, append_assoc}
use mathlib.Core.Logic.{◌⊎◌, inl, inr}
use mathlib.Core.Path.{◌≡◌, refl, sym, ◌∙◌, ap}
use native.Mathlib.Numerals.{add-one}
use native.Mathlib.Omega.{arith}
use lib.Dec.{eqb}
use lib.ListN.{length, length-append, get_or, set, take, drop, replicate, length-drop, drop_of_length-le, take-append-drop}
use lib.Seq.{length-take-le, take-append_seam, drop-set-lt, drop-drop, drop-cons}
use borrow.Author.Tests.{eq-eqb, ne_eqb}
use Rattle.table.specs.Numbers.{most_length, padding, no_cell, no_context, earliest_year, latest_year, low_byte_room}
use Rattle.form.specs.Numbers.{hyphen, colon, from_word, to_word, most_year}
use Rattle.form.specs.Words.{Read, got, wrong, after_gap, ends_word, whole, begins, is_word, starts_number, number, byte_number, mark_or, symbols_from, row, string, string_bytes}
use Rattle.form.specs.Fields.{size_of, sizes_of, number_bytes, classed, signs_from, signs, year, years, tail, read_field, read_fields}
use Rattle.std.specs.Prelude.{Ok, Err}
use Rattle.fields.specs.inside.Cursors.{rest_at, Value, value_read, ValueWithin, Advance, advance_read, AdvanceWithin, byte_read}
use Rattle.fields.specs.declared.cursor.Cursor.{Cursor}
use mir.Syntax.{w16}
use borrow.Rule.Slice.PartMut.{put_mid, post_of}
use Rattle.std.specs.Int.{to_le_bytes}
use Rattle.std.proofs.Common.{append-nil}
use Rattle.form.specs.declared.Expected.{Expected}
use Rattle.form.specs.declared.Expected.TheVariants as expected
use Rattle.form.specs.declared.Field.{Field}
use Rattle.form.specs.declared.Field.TheVariants.{Symbol, Row, Tail}

-- ---- Cursors of one line

pub rest_is : (c : Cursor) {at : ℕ} {line : List ℕ} → c.at ≡ at → c.line.now ≡ line → rest_at c ≡ drop at line
rest_is c place same = rw (place, same) refl

-- what is wrong further on in the line
pub wrong_on : {here there : List ℕ} → there ≡ here → {e : Expected} {at : ℕ} {read : Read} → wrong e (drop at there) ≡ read → at ≤ length there
    → (wrong e (drop at here) ≡ read) × (at ≤ length here)
wrong_on same {e} {at} is within = (ap (λ (line : List ℕ). wrong e (drop at line)) (sym same) ∙ is, rw (← same) within)

-- what is read further on in the line
pub value_on : {here there : List ℕ} → there ≡ here → (most : ℕ) (value : Value) {read : Read} → value_read there value ≡ read → ValueWithin most there value
    → (value_read here value ≡ read) × ValueWithin most here value
value_on same most value is within = rw (← same) (is, within)

pub advance_on : {here there : List ℕ} → there ≡ here → (bytes : List ℕ) (next : Advance) {read : Read} → advance_read there bytes next ≡ read → AdvanceWithin there next
    → (advance_read here bytes next ≡ read) × AdvanceWithin here next
advance_on same bytes next is within = rw (← same) (is, within)

-- the place where the line goes on
pub place_on : {line : List ℕ} (next : Cursor) → next.line.now ≡ line → {bytes : List ℕ} {read : Read} → got bytes (rest_at next) ≡ read
    → (got bytes (drop next.at line) ≡ read) × (next.at ≤ length line)
place_on next same is = rw (← same) (is, next.within)

-- ---- Bytes of a record

pub no_bytes : (l : List ℕ) → length l ≡ 0 → l ≡ []
no_bytes [] e = refl
no_bytes (x ∷ xs) e = absurd (omega arith)

pub one_written : (l : List ℕ) (a : ℕ) → length l ≡ 1 → set l 0 a ≡ a ∷ []
one_written (x ∷ []) a e = refl
one_written [] a e = absurd (omega arith)
one_written (x ∷ y ∷ l) a e = absurd (omega arith)

pub two_written : (l : List ℕ) (a b : ℕ) → length l ≡ 2 → set (set l 0 a) 1 b ≡ a ∷ b ∷ []
two_written (x ∷ y ∷ []) a b e = refl
two_written [] a b e = absurd (omega arith)
two_written (x ∷ []) a b e = absurd (omega arith)
two_written (x ∷ y ∷ z ∷ l) a b e = absurd (omega arith)

pub take_two : (a b rest : List ℕ) (n m : ℕ) → length a ≡ n → length b ≡ m → take (n + m) (a ++ (b ++ rest)) ≡ a ++ b
take_two a b rest n m at more =
    let long : n + m ≡ length (a ++ b) = simp length-append (omega arith) in
    rw (long, ← append_assoc a b rest) (take-append_seam (a ++ b) rest)

-- a year in two bytes, low byte first
pub year_bytes : (n : ℕ) → n ≤ most_year → to_le_bytes w16 n ≡ number_bytes n
unfolding number_bytes
year_bytes n h = let high : n / 256 % 256 ≡ n / 256 = omega arith in rw high refl

-- ---- Symbols

module _ (n : ℕ) (rest : List ℕ) {bytes later : List ℕ} (read : symbols_from n [] rest ≡ got bytes later) where
  pub row_short : (length bytes ≡ n → ⊥) → row n rest ≡ wrong (expected.Row n) later
  unfolding row whole
  row_short h = rw (read, ne_eqb (length bytes) n h)

  pub row_runs_on : length bytes ≡ n → ends_word later ≡ false → row n rest ≡ wrong expected.WordEnd later
  unfolding row whole
  row_runs_on h ends = rw (read, eq-eqb (length bytes) n h, ends)

  pub row_read : length bytes ≡ n → ends_word later ≡ true → row n rest ≡ got bytes later
  unfolding row whole
  row_read h ends = rw (read, eq-eqb (length bytes) n h, ends)

pub row_wrong : (n : ℕ) (rest : List ℕ) {later : List ℕ} {e : Expected} → symbols_from n [] rest ≡ wrong e later → row n rest ≡ wrong e later
unfolding row whole
row_wrong n rest read = rw read

module _ (rest : List ℕ) {bytes later : List ℕ} (read : symbols_from most_length [] rest ≡ got bytes later) where
  pub string_empty : length bytes ≡ 0 → string rest ≡ wrong expected.Symbol later
  unfolding string whole
  string_empty h = rw (read, eq-eqb (length bytes) 0 h)

  pub string_runs_on : (length bytes ≡ 0 → ⊥) → ends_word later ≡ false → string rest ≡ wrong expected.WordEnd later
  unfolding string whole
  string_runs_on h ends = rw (read, ne_eqb (length bytes) 0 h, ends)

  pub string_read : (length bytes ≡ 0 → ⊥) → ends_word later ≡ true → string rest ≡ got (string_bytes bytes) later
  unfolding string whole
  string_read h ends = rw (read, ne_eqb (length bytes) 0 h, ends)

pub string_wrong_lem : (rest : List ℕ) {later : List ℕ} {e : Expected} → symbols_from most_length [] rest ≡ wrong e later → string rest ≡ wrong e later
unfolding string whole
string_wrong_lem rest read = rw read

-- the bytes of a string: its length is put before its symbols, and 0 after them
pub string_written : (front symbols : List ℕ) (many : ℕ) → length front ≡ 1 → length symbols ≡ 10 → many ≤ 10
    → set front 0 many ++ put_mid many (length symbols - many) symbols (replicate (10 - many) padding) ≡ string_bytes (take many symbols)
unfolding string_bytes
string_written front symbols many one ten few =
    let long : length (take many symbols) ≡ many = length-take-le many symbols (omega arith) in
    let none : post_of many (length symbols - many) symbols ≡ [] = drop_of_length-le (drop many symbols) (simp length-drop (omega arith)) in
    rw (one_written front many one, long, none, append-nil (replicate (10 - many) padding))

-- ---- Words

and_left : (s t : Bool) → s && t ≡ true → s ≡ true
and_left true t e = refl
and_left false t e = e

and_right : (s t : Bool) → s && t ≡ true → t ≡ true
and_right true t e = e
and_right false t e = absurd (false≢true e)

begins_length : (word rest : List ℕ) → begins word rest ≡ true → length word ≤ length rest
unfolding begins
begins_length [] rest e = omega arith
begins_length (w ∷ ws) [] e = absurd (false≢true e)
begins_length (w ∷ ws) (x ∷ xs) e = let h = begins_length ws xs (and_right (eqb w x) _ e) in omega arith

-- a word that is there has room
pub word_fits : (word line : List ℕ) (at : ℕ) → at ≤ length line → is_word word (drop at line) ≡ true → at + length word ≤ length line
unfolding is_word
word_fits word line at l e =
    let h = begins_length word (drop at line) (and_left _ _ e) in
    let d = length-drop at line in
    omega arith

-- ---- A class and its context

pub classed_wrong : (rest : List ℕ) {later : List ℕ} {e : Expected} → byte_number rest ≡ wrong e later → classed rest ≡ wrong e later
unfolding classed
classed_wrong rest read = rw read

module _ (rest : List ℕ) {class later : List ℕ} (read : byte_number rest ≡ got class later) where
  pub classed_off : {last : List ℕ} {e : Expected} → mark_or hyphen no_context (after_gap later) ≡ wrong e last → classed rest ≡ wrong e last
  unfolding classed
  classed_off then = rw (read, then)

  pub classed_read : {context last : List ℕ} → mark_or hyphen no_context (after_gap later) ≡ got context last → classed rest ≡ got (context ++ class) last
  unfolding classed
  classed_read then = rw (read, then)

-- ---- Years

module _ (word rest : List ℕ) (unsaid : ℕ) where
  pub year_said : is_word word (after_gap rest) ≡ true → year word unsaid rest ≡ number 0 most_year (after_gap (drop (length word) (after_gap rest)))
  unfolding year
  year_said is = rw is

  pub year_unsaid : is_word word (after_gap rest) ≡ false → year word unsaid rest ≡ got (unsaid ∷ []) rest
  unfolding year
  year_unsaid is = rw is

pub years_wrong : (rest : List ℕ) {later : List ℕ} {e : Expected} → year from_word earliest_year rest ≡ wrong e later → years rest ≡ wrong e later
unfolding years
years_wrong rest read = rw read

module _ (rest : List ℕ) {first : ℕ} {later : List ℕ} (read : year from_word earliest_year rest ≡ got (first ∷ []) later) where
  pub years_off : {end : List ℕ} {e : Expected} → year to_word latest_year later ≡ wrong e end → years rest ≡ wrong e end
  unfolding years
  years_off then = rw (read, then)

  pub years_read_lem : {last : ℕ} {end : List ℕ} → year to_word latest_year later ≡ got (last ∷ []) end
      → years rest ≡ got (first % low_byte_room ∷ first / low_byte_room ∷ last % low_byte_room ∷ last / low_byte_room ∷ []) end
  unfolding years number_bytes
  years_read_lem then = rw (read, then)

-- ---- Signs

module _ (k : ℕ) (sofar rest : List ℕ) (few : k < 4) where
  next : 4 - k ≡ suc (4 - (k + 1))
  next = omega arith

  pub signs_more : {sign later : List ℕ} → starts_number (after_gap rest) ≡ true → byte_number (after_gap rest) ≡ got sign later
      → signs_from (4 - k) sofar rest ≡ signs_from (4 - (k + 1)) (sofar ++ sign) later
  unfolding signs_from
  signs_more starts read = rw (next, starts, read, signs_from)

  pub signs_wrong_lem : {later : List ℕ} {e : Expected} → starts_number (after_gap rest) ≡ true → byte_number (after_gap rest) ≡ wrong e later
      → signs_from (4 - k) sofar rest ≡ wrong e later
  unfolding signs_from
  signs_wrong_lem starts read = rw (next, starts, read, signs_from)

  pub signs_stop : starts_number (after_gap rest) ≡ false → signs_from (4 - k) sofar rest ≡ got sofar rest
  unfolding signs_from
  signs_stop starts = rw (next, starts, signs_from)

-- the bytes that were read, and 99 for each that is missing
pub signs_end : (rest bytes : List ℕ) (k : ℕ) {later : List ℕ} → signs_from 4 [] rest ≡ got bytes later → length bytes ≡ k → signs rest ≡ got (bytes ++ replicate (4 - k) no_cell) later
unfolding signs
signs_end rest bytes k read e = rw (read, e)

pub signs_off : (rest : List ℕ) {e : Expected} {later : List ℕ} → signs_from 4 [] rest ≡ wrong e later → signs rest ≡ wrong e later
unfolding signs
signs_off rest read = rw read

pub signs_full : (k : ℕ) (sofar rest : List ℕ) → 4 ≤ k → signs_from (4 - k) sofar rest ≡ got sofar rest
unfolding signs_from
signs_full k sofar rest h = let e : 4 - k ≡ 0 = omega arith in rw e

-- after one more of them
pub signs_left : (l : List ℕ) (k v : ℕ) → k < 4 → drop k l ≡ replicate (4 - k) no_cell → drop (k + 1) (set l k v) ≡ replicate (4 - (k + 1)) no_cell
signs_left l k v few left =
    let more : 4 - k ≡ suc (4 - (k + 1)) = omega arith in
    drop-set-lt (k + 1) l k v (omega arith) ∙ sym (drop-drop 1 k l) ∙ ap (drop 1) left ∙ ap (λ (j : ℕ). drop 1 (replicate j no_cell)) more

-- all four bytes
pub signs_stand : (l : List ℕ) (k : ℕ) (rest : List ℕ) {later : List ℕ} → k ≤ 4 → length l ≡ 4 → drop k l ≡ replicate (4 - k) no_cell
    → signs_from 4 [] rest ≡ got (take k l) later → got l later ≡ signs rest
signs_stand l k rest {later} few four left read =
    ap (λ (r : List ℕ). got r later) (sym (take-append-drop k l) ∙ ap (λ (r : List ℕ). take k l ++ r) left)
    ∙ sym (signs_end rest (take k l) k read (length-take-le k l (omega arith)))

-- ---- The tail

pub tail_none : (dated : Bool) (rest : List ℕ) → is_word colon rest ≡ false → tail dated rest ≡ wrong expected.Colon rest
unfolding tail
tail_none dated rest is = rw is

module _ (rest : List ℕ) (is : is_word colon rest ≡ true) where
  pub tail_off : (dated : Bool) {e : Expected} {later : List ℕ} → signs (drop 1 rest) ≡ wrong e later → tail dated rest ≡ wrong e later
  unfolding tail
  tail_off dated read = rw (is, read)

  module _ {bytes later : List ℕ} (read : signs (drop 1 rest) ≡ got bytes later) where
    pub tail_undated : tail false rest ≡ got bytes later
    unfolding tail
    tail_undated = rw (is, read)

    pub tail_dated_off : {e : Expected} {end : List ℕ} → years later ≡ wrong e end → tail true rest ≡ wrong e end
    unfolding tail
    tail_dated_off then = rw (is, read, then)

    pub tail_dated : {when end : List ℕ} → years later ≡ got when end → tail true rest ≡ got (bytes ++ when) end
    unfolding tail
    tail_dated then = rw (is, read, then)

pub tail_least : (dated : Bool) → 4 ≤ size_of (Tail dated)
tail_least true = omega arith
tail_least false = omega arith

-- the years stand after the signs
pub tail_joined : (rest line written when : List ℕ) (r : Advance) {later : List ℕ} → is_word colon rest ≡ true → signs (drop 1 rest) ≡ got written later
    → advance_read line when r ≡ years later → advance_read line (written ++ when) r ≡ tail true rest
tail_joined rest line written when (Ok on) is read then = sym (tail_dated rest is read (sym then))
tail_joined rest line written when (Err u) is read then = sym (tail_dated_off rest is read (sym then))

-- ---- A value of one byte

pub byte_field : (most : ℕ) (line before after : List ℕ) (v : Value) (r : Advance) → byte_read before v r after → ValueWithin most line v
    → (advance_read line after r ≡ value_read line v) × AdvanceWithin line r
byte_field most line before after (Ok v) r e within = rw (e.0, e.1) (refl, within.1)
byte_field most line before after (Err u) r e within = rw e.0 (refl, within)

-- ---- All fields

-- a symbol is a row of one
pub row_field : (f : Field) (sofar rest : List ℕ) → (f ≡ Symbol) ⊎ ((n : ℕ) × (f ≡ Row n)) → read_field f sofar rest ≡ row (size_of f) rest
unfolding read_field
row_field f sofar rest (inl e) = rw e
row_field f sofar rest (inr (n, e)) = rw e

pub fields_end : (fs : List Field) (j : ℕ) (sofar rest : List ℕ) → length fs ≤ j → read_fields (drop j fs) sofar rest ≡ got sofar rest
unfolding read_fields
fields_end fs j sofar rest h = rw (drop_of_length-le fs h)

pub fields_more : (fs : List Field) (j : ℕ) (sofar rest : List ℕ) {bytes later : List ℕ} → j < length fs
    → read_field (get_or fs j Symbol) sofar (after_gap rest) ≡ got bytes later
    → read_fields (drop j fs) sofar rest ≡ read_fields (drop (j + 1) fs) (sofar ++ bytes) later
unfolding read_fields
fields_more fs j sofar rest h read = rw (add-one, drop-cons fs j Symbol h, read, read_fields)

pub fields_wrong : (fs : List Field) (j : ℕ) (sofar rest : List ℕ) {later : List ℕ} {e : Expected} → j < length fs
    → read_field (get_or fs j Symbol) sofar (after_gap rest) ≡ wrong e later
    → read_fields (drop j fs) sofar rest ≡ wrong e later
unfolding read_fields
fields_wrong fs j sofar rest h read = rw (drop-cons fs j Symbol h, read, read_fields)

pub sizes_more : (fs : List Field) (j : ℕ) → j < length fs → sizes_of (take (suc j) fs) ≡ sizes_of (take j fs) + size_of (get_or fs j Symbol)
unfolding sizes_of
sizes_more [] j h = absurd (omega arith)
sizes_more (f ∷ fs) zero h = omega arith
sizes_more (f ∷ fs) (suc j) h = let e = sizes_more fs j (omega arith) in omega arith

pub sizes_within : (fs : List Field) (j : ℕ) → sizes_of (take j fs) ≤ sizes_of fs
unfolding sizes_of
sizes_within fs zero = omega arith
sizes_within [] (suc j) = omega arith
sizes_within (f ∷ fs) (suc j) = let e = sizes_within fs j in omega arith
