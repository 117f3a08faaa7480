-- Each word that `show` writes is read back as the byte or the bytes that it was written for: a number by its digits, a mark, a symbol, a run of symbols.
use Prim.Native.Nat.{ℕ, zero, suc, ◌+◌, ◌-◌, ◌*◌, ◌/◌, ◌%◌, ◌^◌, ◌≤◌, ◌<◌}
use mathlib.Core.Bool.{Bool, true, false, cond, ◌||◌}
use mathlib.Core.List.{List, [], ◌∷◌, ◌++◌, append_assoc, append-nil}
use mathlib.Core.Path.{◌≡◌, refl, sym, ap, ◌∙◌}
use native.Mathlib.Omega.{arith}
use native.Mathlib.Nat.{mod-lt, div-add-mod', mod-eq_of_lt}
use lib.Dec.{eqb, leb, ltb}
use lib.ListN.{length, get_or}
use lib.Seq.{drop-cons, drop-append_seam}
use borrow.Author.Tests.{eqb-true, eqb-false, eq-eqb, ne_eqb, le-leb, lt-leb, leb-true, leb-false, ltb-true}
use Rattle.table.specs.Numbers.{blank, least_symbol, most_symbol}
use Rattle.table.specs.Refusals.{Between}
use Rattle.table.specs.Sections.{bytes_from}
use Rattle.table.proofs.Tests.{clash, both}
use Rattle.form.specs.Numbers.{space, tab, carriage_return, hash, underscore, backslash, zero_digit, nine_digit, most_byte}
use Rattle.form.specs.Words.{got, is_gap, after_gap, ends_word, whole, begins, is_word, is_digit, starts_number, with_digit, digits_from, at_least, number, byte_number, mark_or, is_escaped, escaped, symbol, symbols_from}
use Rattle.form.specs.Showing.{spaces, decimal_in, decimal, rightward, shown_number, shown_mark_or, shown_symbol, shown_symbols, leftward}
use Rattle.tables.specs.inside.Writing.{SymbolsAt}

-- ---- Gaps

pub no_gap : (c : ℕ) → 33 ≤ c → is_gap c ≡ false
unfolding is_gap
no_gap c h = rw (ne_eqb c space (λ e. omega arith), ne_eqb c tab (λ e. omega arith), ne_eqb c carriage_return (λ e. omega arith))

pub gap_low : (c : ℕ) → is_gap c ≡ true → c ≤ 32
gap_low c h = go (leb c 32) refl
  where
    go : (t : Bool) → leb c 32 ≡ t → c ≤ 32
    go true e = leb-true c 32 e
    go false e = absurd (clash h (no_gap c (leb-false c 32 e)))

-- blanks before it don't matter
pub after_gap_spaces : (n : ℕ) (rest : List ℕ) → after_gap (spaces n ++ rest) ≡ after_gap rest
unfolding after_gap is_gap
after_gap_spaces zero rest = refl
after_gap_spaces (suc n) rest = after_gap_spaces n rest

pub after_gap_word : (rest : List ℕ) → ends_word rest ≡ false → after_gap rest ≡ rest
unfolding after_gap ends_word
after_gap_word [] e = refl
after_gap_word (c ∷ cs) e = rw (e, after_gap)

pub rightward_back : (width : ℕ) (word rest : List ℕ) → ends_word (word ++ rest) ≡ false → after_gap (rightward width word ++ rest) ≡ word ++ rest
unfolding rightward
rightward_back width word rest e =
    rw (append_assoc (spaces (suc (width - length word))) word rest)
    (after_gap_spaces (suc (width - length word)) (word ++ rest) ∙ after_gap_word (word ++ rest) e)

pub rightward_ends : (width : ℕ) (word rest : List ℕ) → ends_word (rightward width word ++ rest) ≡ true
unfolding rightward ends_word is_gap
rightward_ends width word rest = refl

-- ---- A word that is there

pub begins_front : (word rest : List ℕ) → begins word (word ++ rest) ≡ true
unfolding begins
begins_front [] rest = refl
begins_front (c ∷ word) rest = rw (eq-eqb c c refl, begins_front word rest)

pub is_word_front : (word rest : List ℕ) → ends_word rest ≡ true → is_word word (word ++ rest) ≡ true
unfolding is_word
is_word_front word rest e = rw (begins_front word rest, drop-append_seam word rest) e

-- ---- Numbers

pub is_digit_lem : (d : ℕ) → d < 10 → is_digit (zero_digit + d) ≡ true
unfolding is_digit
is_digit_lem d h = rw (le-leb zero_digit (zero_digit + d) (omega arith), le-leb (zero_digit + d) nine_digit (omega arith))

pub digit_high : (c : ℕ) → is_digit c ≡ true → 48 ≤ c
unfolding is_digit
digit_high c h = leb-true zero_digit c (both (leb zero_digit c) (leb c nine_digit) h).0

pub gap_no_digit : (c : ℕ) → is_gap c ≡ true → is_digit c ≡ false
unfolding is_digit
gap_no_digit c h = rw (lt-leb zero_digit c (let l = gap_low c h in omega arith))

pub number_no_end : (rest : List ℕ) → starts_number rest ≡ true → ends_word rest ≡ false
unfolding starts_number ends_word
number_no_end [] e = absurd (clash e refl)
number_no_end (c ∷ cs) e = no_gap c (let l = digit_high c e in omega arith)

digit_more : (n d : ℕ) → with_digit n (zero_digit + d) ≡ 10 * n + d
unfolding with_digit
digit_more n d = omega arith

pub digit_step : (least most n d : ℕ) (rest : List ℕ) → d < 10 → 10 * n + d ≤ most
    → digits_from least most n ((zero_digit + d) ∷ rest) ≡ digits_from least most (10 * n + d) rest
unfolding digits_from
digit_step least most n d rest small low =
    rw (is_digit_lem d small, digits_from)
    (rw (le-leb (with_digit n (zero_digit + d)) most (rw (digit_more n d) low)) (ap (λ (m : ℕ). digits_from least most m rest) (digit_more n d)))

pub digits_back : (f least most n : ℕ) (rest : List ℕ) → n < 10 ^ suc f → n ≤ most
    → digits_from least most 0 (decimal_in f n ++ rest) ≡ digits_from least most n rest
unfolding decimal_in
digits_back zero least most n rest small low =
    rw (mod-eq_of_lt {n = n} {m = 10} small)
    (digit_step least most 0 n rest small (omega arith) ∙ ap (λ (m : ℕ). digits_from least most m rest) (omega arith))
digits_back (suc f) least most n rest small low = go (ltb n 10) refl (digits_back f least most (n / 10) ((zero_digit + n % 10) ∷ rest) whole_part (omega (arith, split)))
  where
    split : n / 10 * 10 + n % 10 ≡ n
    split = div-add-mod' n 10

    whole_part : n / 10 < 10 ^ suc f
    whole_part = omega (arith, split)

    go : (t : Bool) → ltb n 10 ≡ t
        → digits_from least most 0 (decimal_in f (n / 10) ++ (zero_digit + n % 10) ∷ rest) ≡ digits_from least most (n / 10) ((zero_digit + n % 10) ∷ rest)
        → digits_from least most 0 (decimal_in (suc f) n ++ rest) ≡ digits_from least most n rest
    go true e before =
        rw (e, decimal_in)
        (digit_step least most 0 n rest (ltb-true n 10 e) (omega arith) ∙ ap (λ (m : ℕ). digits_from least most m rest) (omega arith))
    go false e before =
        rw (e, decimal_in)
        (rw append_assoc
        (before
        ∙ digit_step least most (n / 10) (n % 10) rest (mod-lt n (omega arith)) (omega (arith, split))
        ∙ ap (λ (m : ℕ). digits_from least most m rest) (omega (arith, split))))

pub digits_start : (f n : ℕ) (rest : List ℕ) → starts_number (decimal_in f n ++ rest) ≡ true
unfolding decimal_in starts_number
digits_start zero n rest = is_digit_lem (n % 10) (mod-lt n (omega arith))
digits_start (suc f) n rest = go (ltb n 10) refl (digits_start f (n / 10) ((zero_digit + n % 10) ∷ rest))
  where
    go : (t : Bool) → ltb n 10 ≡ t → starts_number (decimal_in f (n / 10) ++ (zero_digit + n % 10) ∷ rest) ≡ true
        → starts_number (decimal_in (suc f) n ++ rest) ≡ true
    go true e before = rw (e, decimal_in) (is_digit_lem n (ltb-true n 10 e))
    go false e before = rw (e, decimal_in) (rw append_assoc before)

pub digits_end : (least most n : ℕ) (rest : List ℕ) → ends_word rest ≡ true → digits_from least most n rest ≡ got (n ∷ []) rest
unfolding digits_from ends_word
digits_end least most n [] e = refl
digits_end least most n (c ∷ cs) e = rw (gap_no_digit c e, digits_from)

pub decimal_start : (n : ℕ) (rest : List ℕ) → starts_number (decimal n ++ rest) ≡ true
unfolding decimal
decimal_start n rest = digits_start 4 n rest

pub number_back : (least most n : ℕ) (rest : List ℕ) → least ≤ n → n ≤ most → n < 100000 → ends_word rest ≡ true
    → number least most (decimal n ++ rest) ≡ got (n ∷ []) rest
unfolding number decimal at_least whole
number_back least most n rest low high small e =
    rw (decimal_start n rest, digits_back 4 least most n rest small high, digits_end least most n rest e, le-leb least n low, e)

-- a number in its column
pub shown_number_front : (width n : ℕ) (rest : List ℕ) → after_gap (shown_number width n ++ rest) ≡ decimal n ++ rest
unfolding shown_number
shown_number_front width n rest = rightward_back width (decimal n) rest (number_no_end (decimal n ++ rest) (decimal_start n rest))

pub shown_number_ends : (width n : ℕ) (rest : List ℕ) → ends_word (shown_number width n ++ rest) ≡ true
unfolding shown_number
shown_number_ends width n rest = rightward_ends width (decimal n) rest

pub shown_number_back : (width least most n : ℕ) (rest : List ℕ) → least ≤ n → n ≤ most → n < 100000 → ends_word rest ≡ true
    → number least most (after_gap (shown_number width n ++ rest)) ≡ got (n ∷ []) rest
shown_number_back width least most n rest low high small e = rw (shown_number_front width n rest) (number_back least most n rest low high small e)

-- ---- Marks

pub digits_no_mark : (mark value : ℕ) (rest : List ℕ) → is_digit mark ≡ false → starts_number rest ≡ true → mark_or mark value rest ≡ byte_number rest
unfolding mark_or starts_number
digits_no_mark mark value [] other e = refl
digits_no_mark mark value (c ∷ cs) other e = rw (ne_eqb c mark (λ same. clash e (ap is_digit same ∙ other)))

pub mark_ends : (width mark value n : ℕ) (rest : List ℕ) → ends_word (shown_mark_or width mark value n ++ rest) ≡ true
unfolding shown_mark_or
mark_ends width mark value n rest = go (eqb n value) refl
  where
    go : (t : Bool) → eqb n value ≡ t → ends_word (shown_mark_or width mark value n ++ rest) ≡ true
    go true e = rw (e, shown_mark_or) (rightward_ends width (mark ∷ []) rest)
    go false e = rw (e, shown_mark_or) (shown_number_ends width n rest)

pub mark_back : (width mark value n : ℕ) (rest : List ℕ) → is_digit mark ≡ false → is_gap mark ≡ false → n ≤ most_byte → ends_word rest ≡ true
    → mark_or mark value (after_gap (shown_mark_or width mark value n ++ rest)) ≡ got (n ∷ []) rest
unfolding shown_mark_or mark_or whole ends_word
mark_back width mark value n rest without_digit without_gap low e = go (eqb n value) refl
  where
    go : (t : Bool) → eqb n value ≡ t → mark_or mark value (after_gap (shown_mark_or width mark value n ++ rest)) ≡ got (n ∷ []) rest
    go true same =
        rw (same, shown_mark_or)
        (rw (rightward_back width (mark ∷ []) rest without_gap, eq-eqb mark mark refl, e) (ap (λ (m : ℕ). got (m ∷ []) rest) (sym (eqb-true n value same))))
    go false other =
        rw (other, shown_mark_or)
        (rw (shown_number_front width n rest)
        (digits_no_mark mark value (decimal n ++ rest) without_digit (decimal_start n rest) ∙ number_back 0 most_byte n rest (omega arith) low (omega arith) e))

-- ---- Symbols

pub symbol_no_end : (c : ℕ) (rest : List ℕ) → Between least_symbol most_symbol c → ends_word (shown_symbol c ++ rest) ≡ false
unfolding shown_symbol ends_word is_gap
symbol_no_end c rest h = go (eqb c blank) (is_escaped c) refl
  where
    go : (t u : Bool) → eqb c blank ≡ t → ends_word (cond t (underscore ∷ []) (cond u (backslash ∷ c ∷ []) (c ∷ [])) ++ rest) ≡ false
    go true u e = refl
    go false true e = refl
    go false false e = no_gap c (let n = eqb-false c blank e in let l = h.low in omega arith)

record Plain (c : ℕ) : Type 0 where
  hashed : eqb c hash ≡ false
  underscored : eqb c underscore ≡ false
  backslashed : eqb c backslash ≡ false

plain : (c : ℕ) → is_escaped c ≡ false → Plain c
unfolding is_escaped
plain c e = go (eqb c hash) (eqb c underscore) (eqb c backslash) refl refl refl e
  where
    go : (t u v : Bool) → eqb c hash ≡ t → eqb c underscore ≡ u → eqb c backslash ≡ v → (t || u || v) ≡ false → Plain c
    go true u v p q r e = absurd (clash refl e)
    go false true v p q r e = absurd (clash refl e)
    go false false true p q r e = absurd (clash refl e)
    go false false false p q r e = record { hashed = p; underscored = q; backslashed = r }

pub symbol_back : (c : ℕ) (rest : List ℕ) → Between least_symbol most_symbol c → symbol (shown_symbol c ++ rest) ≡ got (c ∷ []) rest
unfolding symbol shown_symbol escaped
symbol_back c rest h = go (eqb c blank) (is_escaped c) refl refl
  where
    go : (t u : Bool) → eqb c blank ≡ t → is_escaped c ≡ u
        → symbol (cond t (underscore ∷ []) (cond u (backslash ∷ c ∷ []) (c ∷ [])) ++ rest) ≡ got (c ∷ []) rest
    go true u e f = ap (λ (m : ℕ). got (m ∷ []) rest) (sym (eqb-true c blank e))
    go false true e f = rw f
    go false false e f =
        let p = plain c f in let n = eqb-false c blank e in let l = h.low in
        rw (p.underscored, p.backslashed, p.hashed, le-leb (suc least_symbol) c (omega arith), le-leb c most_symbol h.high)

-- at most so many are read, and here they are no more
pub symbols_end : (n : ℕ) (sofar rest : List ℕ) → ends_word rest ≡ true → symbols_from n sofar rest ≡ got sofar rest
unfolding symbols_from
symbols_end zero sofar rest e = refl
symbols_end (suc n) sofar rest e = rw (e, symbols_from)

pub bytes_cons : (bytes : List ℕ) (at n : ℕ) → at < length bytes → bytes_from bytes at (suc n) ≡ get_or bytes at 0 ∷ bytes_from bytes (suc at) n
unfolding bytes_from
bytes_cons bytes at n h = rw (drop-cons bytes at 0 h)

symbol_step : (n c : ℕ) (sofar rest : List ℕ) → Between least_symbol most_symbol c
    → symbols_from (suc n) sofar (shown_symbol c ++ rest) ≡ symbols_from n (sofar ++ c ∷ []) rest
unfolding symbols_from
symbol_step n c sofar rest h = rw (symbol_no_end c rest h, symbols_from) (rw (symbol_back c rest h))

pub symbols_back : (bytes : List ℕ) (at m n : ℕ) (sofar rest : List ℕ) → m ≤ n → SymbolsAt bytes at m → at + m ≤ length bytes → ends_word rest ≡ true
    → symbols_from n sofar (shown_symbols bytes at m ++ rest) ≡ got (sofar ++ bytes_from bytes at m) rest
unfolding shown_symbols bytes_from
symbols_back bytes at zero n sofar rest l h fits e = symbols_end n sofar rest e ∙ ap (λ (xs : List ℕ). got xs rest) (sym (append-nil sofar))
symbols_back bytes at (suc m) zero sofar rest l h fits e = absurd (omega arith)
symbols_back bytes at (suc m) (suc n) sofar rest l h fits e =
    rw (append_assoc (shown_symbol (get_or bytes at 0)) (shown_symbols bytes (suc at) m) rest)
    (symbol_step n (get_or bytes at 0) sofar (shown_symbols bytes (suc at) m ++ rest) (rw here at (h 0 (omega arith)))
    ∙ symbols_back bytes (suc at) m n (sofar ++ get_or bytes at 0 ∷ []) rest (omega arith) later (omega arith) e
    ∙ ap (λ (xs : List ℕ). got xs rest)
    (append_assoc sofar (get_or bytes at 0 ∷ []) (bytes_from bytes (suc at) m) ∙ ap (λ (xs : List ℕ). sofar ++ xs) (sym (bytes_cons bytes at m (omega arith)))))
  where
    here : at + 0 ≡ at
    here = omega arith

    later : SymbolsAt bytes (suc at) m
    later k below = let same : at + suc k ≡ suc at + k = omega arith in rw same at (h (suc k) (omega arith))

-- a word that begins in its column, the blanks after it aside
pub leftward_back : (width : ℕ) (word rest : List ℕ) → ends_word (word ++ (spaces (width - length word) ++ rest)) ≡ false
    → after_gap (leftward width word ++ rest) ≡ word ++ (spaces (width - length word) ++ rest)
unfolding leftward after_gap is_gap
leftward_back width word rest e = rw (append_assoc word (spaces (width - length word)) rest) (after_gap_word _ e)

pub spaces_end : (n : ℕ) (rest : List ℕ) → ends_word rest ≡ true → ends_word (spaces n ++ rest) ≡ true
unfolding ends_word is_gap
spaces_end zero rest e = e
spaces_end (suc n) rest e = refl

pub symbols_no_end : (bytes : List ℕ) (at n : ℕ) (rest : List ℕ) → 1 ≤ n → SymbolsAt bytes at n → ends_word (shown_symbols bytes at n ++ rest) ≡ false
unfolding shown_symbols
symbols_no_end bytes at zero rest some h = absurd (omega arith)
symbols_no_end bytes at (suc n) rest some h =
    let here : at + 0 ≡ at = omega arith in
    rw (append_assoc (shown_symbol (get_or bytes at 0)) (shown_symbols bytes (suc at) n) rest) (symbol_no_end (get_or bytes at 0) _ (rw here at (h 0 (omega arith))))
