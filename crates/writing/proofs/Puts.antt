-- Laws of bytes that are put: nothing, one byte, one run after another, the same bytes by another name. Laws of a number in decimal: one digit, the last
-- digit after the others, five digits at most. Laws of
-- a word in its columns, and of symbols. Each decimal law by the definition, once it is known that more steps than enough change nothing.
use Prim.Native.Nat.{ℕ, zero, suc, ◌+◌, ◌-◌, ◌*◌, ◌/◌, ◌%◌, ◌≤◌, ◌<◌}
use mathlib.Core.Bool.{Bool, true, false}
use mathlib.Core.List.{List, [], ◌∷◌, ◌++◌, append-nil, append_assoc}
use mathlib.Core.Path.{◌≡◌, refl, sym, ◌∙◌, ap}
use native.Mathlib.Nat.{add-zero, zero-add}
use native.Mathlib.Numerals.{add-one}
use native.Mathlib.Omega.{arith}
use lib.Dec.{ltb}
use lib.ListN.{length, get_or, take, drop, replicate, length-drop, length-append, replicate-append-replicate}
use lib.Seq.{take-suc, length-take-le}
use Rattle.std.proofs.Common.{get_or-drop, get_or-take}
use borrow.Author.Tests.{lt-ltb, le-ltb, eq-eqb, ne_eqb}
use Rattle.table.specs.Numbers.{blank}
use Rattle.table.proofs.Wrote.{put_then, wrote_length}
use Rattle.form.specs.Numbers.{space, zero_digit, underscore, backslash}
use Rattle.form.specs.Words.{is_escaped}
use Rattle.form.specs.Showing.{spaces, decimal_in, decimal, rightward, shown_number, shown_mark_or, shown_symbol, shown_symbols, leftward}
use Rattle.writing.specs.declared.putting.Pen.{Pen}
use Rattle.writing.specs.inside.Puts.{Puts}
use Rattle.writing.specs.inside.Penned.{Penned}

-- ---- Bytes that are put

pub puts_none : (l : List ℕ) (at : ℕ) → Puts l at [] at l
puts_none l at = record { goes = sym (add-zero at); writes = λ _. record { leaves = refl } }

-- the second run where the first ends
pub puts_then : {before mid after xs ys : List ℕ} {at m r : ℕ} → Puts before at xs m mid → Puts mid m ys r after → Puts before at (xs ++ ys) r after
puts_then {before} {mid} {after} {xs} {ys} {at} {m} {r} p q =
    let e = length-append xs ys in
    let first = p.goes in
    let second = q.goes in
    record {
      goes = omega arith;
      writes = λ fits.
          let w = p.writes (omega arith) in
          let kept = wrote_length w in
          record { leaves = put_then before mid after at xs ys w.leaves (q.writes (omega arith)).leaves first };
    }

-- ---- Bytes that a pen puts: nothing, one run after another, the same bytes by another name

pub pens_none : (pen : Pen) → Penned pen [] pen
pens_none pen = record { puts = puts_none pen.out.now pen.at; same_output = refl }

pub pens_then : {before mid after : Pen} {xs ys : List ℕ} → Penned before xs mid → Penned mid ys after → Penned before (xs ++ ys) after
pens_then p q = record { puts = puts_then p.puts q.puts; same_output = q.same_output ∙ p.same_output }

pub pens_as : {before after : Pen} {xs ys : List ℕ} → xs ≡ ys → Penned before xs after → Penned before ys after
pens_as e p = rw e at p

-- what a pen has put over a whole output
pub puts_whole : {before after : Pen} {out left bytes : List ℕ} → before.out.now ≡ out → before.at ≡ 0 → left ≡ after.out.now → Penned before bytes after
    → Puts out 0 bytes after.at left
puts_whole o z l p = rw (o, z, ← l) at p.puts

-- one byte more of a run, and the same byte once more
pub run_longer : {before mid after : Pen} (bytes : List ℕ) (j : ℕ) → j < length bytes → Penned before (take j bytes) mid
    → Penned mid (get_or bytes j 0 ∷ []) after → Penned before (take (j + 1) bytes) after
run_longer bytes j there p q = pens_as (sym (rw (add-one j) (take-suc bytes j 0 there))) (pens_then p q)

pub same_longer : {before mid after : Pen} (j byte : ℕ) → Penned before (replicate j byte) mid → Penned mid (byte ∷ []) after
    → Penned before (replicate (j + 1) byte) after
same_longer j byte p q = pens_as (replicate-append-replicate j 1 byte) (pens_then p q)

-- ---- A number in decimal

-- the least number that has more digits than one and so many
abbrev most : ℕ → ℕ
most zero = 10
most (suc k) = 10 * most k

abbrev ending : List ℕ → ℕ → Bool → List ℕ
ending before n t = elim t [ true ↦ (zero_digit + n) ∷ [] | false ↦ before ++ (zero_digit + n % 10) ∷ [] ]

in_one : (k n : ℕ) → n < 10 → decimal_in (suc k) n ≡ (zero_digit + n) ∷ []
unfolding decimal_in
in_one k n h = ap (ending (decimal_in k (n / 10)) n) (lt-ltb n 10 h)

in_more : (k n : ℕ) → 10 ≤ n → decimal_in (suc k) n ≡ decimal_in k (n / 10) ++ (zero_digit + n % 10) ∷ []
unfolding decimal_in
in_more k n h = ap (ending (decimal_in k (n / 10)) n) (le-ltb n 10 h)

-- a step more than enough changes nothing
step_more : (k n : ℕ) → n < most k → decimal_in (suc k) n ≡ decimal_in k n
unfolding decimal_in
step_more zero n h = in_one 0 n h ∙ ap (λ (d : ℕ). (zero_digit + d) ∷ []) (omega arith)
step_more (suc k) n h = ap (λ (r : List ℕ). ending r n (ltb n 10)) (step_more k (n / 10) (omega arith))

pub decimal_one : (n : ℕ) → n < 10 → decimal n ≡ (zero_digit + n) ∷ []
unfolding decimal
decimal_one n h = in_one 3 n h

pub decimal_more : (n : ℕ) → 10 ≤ n → n < 65536 → decimal n ≡ decimal (n / 10) ++ (zero_digit + n % 10) ∷ []
unfolding decimal
decimal_more n many few =
    in_more 3 n many ∙ ap (λ (r : List ℕ). r ++ (zero_digit + n % 10) ∷ []) (sym (step_more 3 (n / 10) (omega arith)))

digits_few : (k n : ℕ) → length (decimal_in k n) ≤ suc k
unfolding decimal_in
digits_few zero n = omega arith
digits_few (suc k) n = go (ltb n 10) (digits_few k (n / 10))
  where
    go : (t : Bool) → length (decimal_in k (n / 10)) ≤ suc k → length (ending (decimal_in k (n / 10)) n t) ≤ suc (suc k)
    go true few = omega arith
    go false few = rw length-append (omega arith)

pub decimal_few : (n : ℕ) → length (decimal n) ≤ 5
unfolding decimal
decimal_few n = digits_few 4 n

-- ---- A word in its columns

-- blanks, and then the word
pub pens_rightward : {before mid after : Pen} (width : ℕ) (word : List ℕ) {blanks : ℕ} → blanks ≡ suc (width - length word)
    → Penned before (spaces blanks) mid → Penned mid word after → Penned before (rightward width word) after
unfolding rightward
pens_rightward width word e p q = pens_as (ap (λ (k : ℕ). spaces k ++ word) e) (pens_then p q)

-- a blank, the word, and then blanks
pub pens_leftward : {before mid last after : Pen} (width : ℕ) (word : List ℕ) {blanks : ℕ} → blanks ≡ width - length word
    → Penned before (space ∷ []) mid → Penned mid word last → Penned last (spaces blanks) after → Penned before (leftward width word) after
unfolding leftward
pens_leftward width word e p q t = pens_as (ap (λ (k : ℕ). space ∷ word ++ spaces k) e) (pens_then p (pens_then q t))

pub mark_same : (width mark value n : ℕ) → n ≡ value → shown_mark_or width mark value n ≡ rightward width (mark ∷ [])
unfolding shown_mark_or
mark_same width mark value n e =
    ap (λ (t : Bool). elim t [ true ↦ rightward width (mark ∷ []) | false ↦ shown_number width n ]) (eq-eqb n value e)

pub mark_other : (width mark value n : ℕ) → (n ≡ value → ⊥) → shown_mark_or width mark value n ≡ shown_number width n
unfolding shown_mark_or
mark_other width mark value n other =
    ap (λ (t : Bool). elim t [ true ↦ rightward width (mark ∷ []) | false ↦ shown_number width n ]) (ne_eqb n value other)

-- ---- Symbols

pub symbol_blank : (c : ℕ) → c ≡ blank → shown_symbol c ≡ underscore ∷ []
unfolding shown_symbol
symbol_blank c e = rw (eq-eqb c blank e)

pub symbol_escaped : (c : ℕ) → (c ≡ blank → ⊥) → is_escaped c ≡ true → shown_symbol c ≡ backslash ∷ c ∷ []
unfolding shown_symbol
symbol_escaped c other e = rw (ne_eqb c blank other, e)

pub symbol_itself : (c : ℕ) → (c ≡ blank → ⊥) → is_escaped c ≡ false → shown_symbol c ≡ c ∷ []
unfolding shown_symbol
symbol_itself c other e = rw (ne_eqb c blank other, e)

-- a symbol more
pub symbols_more : (bytes : List ℕ) (at n : ℕ) → shown_symbols bytes at (suc n) ≡ shown_symbols bytes at n ++ shown_symbol (get_or bytes (at + n) 0)
unfolding shown_symbols
symbols_more bytes at zero = append-nil (shown_symbol (get_or bytes at 0)) ∙ ap (λ (k : ℕ). shown_symbol (get_or bytes k 0)) (sym (add-zero at))
symbols_more bytes at (suc n) =
    let next : suc at + n ≡ at + suc n = omega arith in
    ap (λ (r : List ℕ). shown_symbol (get_or bytes at 0) ++ r) (symbols_more bytes (suc at) n ∙ ap (λ (k : ℕ). shown_symbols bytes (suc at) n ++ shown_symbol (get_or bytes k 0)) next)
    ∙ sym (append_assoc (shown_symbol (get_or bytes at 0)) (shown_symbols bytes (suc at) n) (shown_symbol (get_or bytes (at + suc n) 0)))

pub symbols_longer : {before mid after : Pen} (bytes : List ℕ) (j : ℕ) → Penned before (shown_symbols bytes 0 j) mid
    → Penned mid (shown_symbol (get_or bytes j 0)) after → Penned before (shown_symbols bytes 0 (j + 1)) after
symbols_longer bytes j p q = pens_as (sym (rw (add-one j) (symbols_more bytes 0 j))) (pens_then p (pens_as (ap (λ (k : ℕ). shown_symbol (get_or bytes k 0)) (sym (zero-add j))) q))

-- a byte of a part of a record
pub part_get : (bytes : List ℕ) (from n k : ℕ) → k < n → get_or (take (from + n - from) (drop from bytes)) k 0 ≡ get_or bytes (from + k) 0
part_get bytes from n k h = get_or-take (from + n - from) (drop from bytes) k 0 (omega arith) ∙ get_or-drop from bytes k 0

pub part_length : (bytes : List ℕ) (from n : ℕ) → from + n ≤ length bytes → length (take (from + n - from) (drop from bytes)) ≡ n
part_length bytes from n h =
    let all : from + n - from ≡ n = omega arith in
    length-take-le (from + n - from) (drop from bytes) (simp length-drop (omega arith)) ∙ all

-- the symbols of a part of a record
part_symbols : (bytes : List ℕ) (from n k m : ℕ) → k + m ≤ n → shown_symbols (take n (drop from bytes)) k m ≡ shown_symbols bytes (from + k) m
unfolding shown_symbols
part_symbols bytes from n k zero h = refl
part_symbols bytes from n k (suc m) h =
    let here : get_or (take n (drop from bytes)) k 0 ≡ get_or bytes (from + k) 0 = get_or-take n (drop from bytes) k 0 (omega arith) ∙ get_or-drop from bytes k 0 in
    let next : suc (from + k) ≡ from + suc k = omega arith in
    rw (here, part_symbols bytes from n (suc k) m (omega arith), next)

pub symbols_of_part : (bytes : List ℕ) (from n : ℕ) → from + n ≤ length bytes
    → shown_symbols (take (from + n - from) (drop from bytes)) 0 (length (take (from + n - from) (drop from bytes))) ≡ shown_symbols bytes from n
symbols_of_part bytes from n fits =
    ap (shown_symbols (take (from + n - from) (drop from bytes)) 0) (part_length bytes from n fits)
    ∙ part_symbols bytes from (from + n - from) 0 n (omega arith)
    ∙ ap (λ (k : ℕ). shown_symbols bytes k n) (add-zero from)
