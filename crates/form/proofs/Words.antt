-- Laws of the words of a line: what is read from a place of the line on, one law for each way that a step of a loop over the line can go. Each by taking the
-- character at that place off the rest.
use Prim.Native.Nat.{ℕ, zero, suc, ◌+◌, ◌-◌, ◌≤◌, ◌<◌, min}
use mathlib.Core.Bool.{true, false, not, ◌&&◌}
use mathlib.Core.List.{List, [], ◌∷◌, ◌++◌}
use mathlib.Core.Logic.{◌⊎◌, inl, inr}
use mathlib.Core.Path.{◌≡◌, refl, sym, ◌∙◌, ap}
use Rattle.std.proofs.str.Laws.{order}
use native.Mathlib.Numerals.{add-one}
use native.Mathlib.Omega.{arith}
use borrow.Author.Tests.{le-leb, lt-leb, eq-eqb, ne_eqb}
use lib.Dec.{eqb}
use lib.ListN.{length, get_or, take, drop, length-drop, drop_of_length-le}
use lib.Seq.{take_all, drop-cons, drop-drop}
use Rattle.std.specs.Prelude.{nat_eq}
use Rattle.std.specs.List.{starts_with}
use Rattle.table.specs.Numbers.{blank, least_symbol, most_symbol}
use Rattle.table.specs.Search.{within}
use Rattle.form.specs.Numbers.{hash, underscore, backslash, most_byte}
use Rattle.form.specs.Words.{got, wrong, is_gap, after_gap, ends_word, whole, begins, is_word, is_digit, starts_number, with_digit, digits_from, at_least, number, mark_or, symbol, symbols_from}
use Rattle.form.specs.declared.Expected.{Expected}
use Rattle.form.specs.declared.Expected.TheVariants as expected

-- ---- Past the line's end

module _ (line : List ℕ) (i : ℕ) (over : length line ≤ i) where
  -- a place there is the line's end
  pub past : drop i line ≡ drop (length line) line
  past =
      let end : length line ≤ length line = omega arith in
      drop_of_length-le line over ∙ sym (drop_of_length-le line end)

  pub gap_over : after_gap (drop i line) ≡ drop i line
  unfolding after_gap
  gap_over = rw (drop_of_length-le line over)

  pub digits_over : (least most n : ℕ) → digits_from least most n (drop i line) ≡ got (n ∷ []) (drop i line)
  unfolding digits_from
  digits_over least most n = rw (drop_of_length-le line over)

  pub mark_over : (mark value : ℕ) → mark_or mark value (drop i line) ≡ number 0 most_byte (drop i line)
  unfolding mark_or
  mark_over mark value = rw (drop_of_length-le line over)

-- the place, or the line's end where it is past that
pub within_line : (line : List ℕ) (at from : ℕ) → from ≡ min at (length line) → drop from line ≡ drop at line
within_line line at from e = go (order at (length line))
  where
    go : (at < length line) ⊎ (length line ≤ at) → drop from line ≡ drop at line
    go (inl lt) = let same : from ≡ at = omega arith in ap (λ (k : ℕ). drop k line) same
    go (inr le) = let same : from ≡ length line = omega arith in ap (λ (k : ℕ). drop k line) same ∙ sym (past line at le)

-- ---- At a character of the line

module _ (line : List ℕ) (i : ℕ) (here : i < length line) where
  pub gap_more : is_gap (get_or line i 0) ≡ true → after_gap (drop i line) ≡ after_gap (drop (i + 1) line)
  unfolding after_gap
  gap_more e = rw (drop-cons line i 0 here, e, after_gap, add-one)

  pub gap_stops : is_gap (get_or line i 0) ≡ false → after_gap (drop i line) ≡ drop i line
  unfolding after_gap
  gap_stops e = rw (drop-cons line i 0 here, e, after_gap)

  module _ (least most n : ℕ) where
    pub digits_stop : is_digit (get_or line i 0) ≡ false → digits_from least most n (drop i line) ≡ got (n ∷ []) (drop i line)
    unfolding digits_from
    digits_stop e = rw (drop-cons line i 0 here, e, digits_from)

    module _ (digit : is_digit (get_or line i 0) ≡ true) where
      pub digits_more : with_digit n (get_or line i 0) ≤ most
          → digits_from least most n (drop i line) ≡ digits_from least most (with_digit n (get_or line i 0)) (drop (i + 1) line)
      unfolding digits_from
      digits_more fits = rw (drop-cons line i 0 here, digit, le-leb _ _ fits, digits_from, add-one)

      pub digits_much : most < with_digit n (get_or line i 0) → digits_from least most n (drop i line) ≡ wrong (expected.Number least most) (drop i line)
      unfolding digits_from
      digits_much over = rw (drop-cons line i 0 here, digit, lt-leb _ _ over, digits_from)

  module _ (mark value : ℕ) where
    pub mark_here : get_or line i 0 ≡ mark → mark_or mark value (drop i line) ≡ whole (got (value ∷ []) (drop (i + 1) line))
    unfolding mark_or
    mark_here e = rw (drop-cons line i 0 here, eq-eqb _ _ e, add-one)

    pub mark_other : (get_or line i 0 ≡ mark → ⊥) → mark_or mark value (drop i line) ≡ number 0 most_byte (drop i line)
    unfolding mark_or
    mark_other e = rw (drop-cons line i 0 here, ne_eqb _ _ e)

-- ---- Symbols

module _ (line : List ℕ) (i : ℕ) (here : i < length line) where
  pub symbol_blank : get_or line i 0 ≡ underscore → symbol (drop i line) ≡ got (blank ∷ []) (drop (i + 1) line)
  unfolding symbol
  symbol_blank e = rw (drop-cons line i 0 here, eq-eqb _ _ e, add-one)

  module _ (other : get_or line i 0 ≡ underscore → ⊥) where
    module _ (plain : get_or line i 0 ≡ backslash → ⊥) where
      pub symbol_itself : (within (suc least_symbol) most_symbol (get_or line i 0) && not (eqb (get_or line i 0) hash)) ≡ true
          → symbol (drop i line) ≡ got (get_or line i 0 ∷ []) (drop (i + 1) line)
      unfolding symbol
      symbol_itself e = rw (drop-cons line i 0 here, ne_eqb _ _ other, ne_eqb _ _ plain, e, add-one)

-- ---- A word that the rest begins with, as std's `starts_with` tells it

pub begins_as : (word rest : List ℕ) → begins word rest ≡ starts_with nat_eq rest word
unfolding begins
begins_as [] rest = refl
begins_as (w ∷ ws) [] = refl
begins_as (w ∷ ws) (c ∷ cs) = rw (begins_as ws cs) refl

module _ (word line : List ℕ) (at from : ℕ) (place : from ≡ min at (length line)) where
  abbrev rest : List ℕ
  rest = take (length line - from) (drop from line)

  begins_there : begins word (drop at line) ≡ starts_with nat_eq rest word
  begins_there =
      let here : rest ≡ drop at line = take_all (length line - from) (drop from line) (simp length-drop (omega arith)) ∙ within_line line at from place in
      sym (ap (begins word) here) ∙ begins_as word rest

  pub word_begins : starts_with nat_eq rest word ≡ true → is_word word (drop at line) ≡ ends_word (drop (from + length word) line)
  unfolding is_word
  word_begins starts =
      let past_word : drop (length word) (drop at line) ≡ drop (from + length word) line =
      ap (drop (length word)) (sym (within_line line at from place)) ∙ drop-drop (length word) from line in
      rw (begins_there, starts, past_word)

  pub word_other : starts_with nat_eq rest word ≡ false → is_word word (drop at line) ≡ false
  unfolding is_word
  word_other starts = rw (begins_there, starts)

-- ---- A whole word

module _ (bytes rest : List ℕ) where
  pub whole_ends : ends_word rest ≡ true → whole (got bytes rest) ≡ got bytes rest
  unfolding whole
  whole_ends e = rw e

  pub whole_joined : ends_word rest ≡ false → whole (got bytes rest) ≡ wrong expected.WordEnd rest
  unfolding whole
  whole_joined e = rw e

-- ---- A number that is a whole word

module _ (least most : ℕ) (rest : List ℕ) where
  pub number_none : starts_number rest ≡ false → number least most rest ≡ wrong (expected.Number least most) rest
  unfolding number
  number_none e = rw e

  module _ (starts : starts_number rest ≡ true) where
    pub number_wrong : {e : Expected} {later : List ℕ} → wrong e later ≡ digits_from least most 0 rest → number least most rest ≡ wrong e later
    unfolding number at_least whole
    number_wrong read = rw (starts, ← read)

    module _ {n : ℕ} {later : List ℕ} (read : got (n ∷ []) later ≡ digits_from least most 0 rest) where
      pub number_few : n < least → number least most rest ≡ wrong (expected.Number least most) later
      unfolding number at_least whole
      number_few few = rw (starts, ← read, lt-leb _ _ few)

      module _ (enough : least ≤ n) where
        pub number_joined : ends_word later ≡ false → number least most rest ≡ wrong expected.WordEnd later
        unfolding number at_least whole
        number_joined ends = rw (starts, ← read, le-leb _ _ enough, ends)

        pub number_whole : ends_word later ≡ true → number least most rest ≡ got (n ∷ []) later
        unfolding number at_least whole
        number_whole ends = rw (starts, ← read, le-leb _ _ enough, ends)

-- ---- Symbols to the end of a word, with one more in the record

pub symbols_full : (left : ℕ) (sofar rest : List ℕ) → left ≡ 0 → symbols_from left sofar rest ≡ got sofar rest
unfolding symbols_from
symbols_full left sofar rest none = rw none

pub symbols_end : (left : ℕ) (sofar rest : List ℕ) → ends_word rest ≡ true → symbols_from left sofar rest ≡ got sofar rest
unfolding symbols_from
symbols_end zero sofar rest ends = refl
symbols_end (suc k) sofar rest ends = rw (ends, symbols_from)

module _ (left k : ℕ) (sofar rest : List ℕ) (one : left ≡ suc k) (more : ends_word rest ≡ false) where
  pub symbols_more : {bytes later : List ℕ} → got bytes later ≡ symbol rest → symbols_from left sofar rest ≡ symbols_from k (sofar ++ bytes) later
  unfolding symbols_from
  symbols_more read = rw (one, more, ← read, symbols_from)

  pub symbols_wrong : {e : Expected} {later : List ℕ} → wrong e later ≡ symbol rest → symbols_from left sofar rest ≡ wrong e later
  unfolding symbols_from
  symbols_wrong read = rw (one, more, ← read, symbols_from)
