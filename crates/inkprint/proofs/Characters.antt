-- Laws of the characters of a text: a character has one to four bytes and keeps to the text, since past the end there are zeros, which go on with nothing;
-- so the characters from a place on are the one there and those after it.
use Prim.Native.Nat.{ℕ, ◌-◌, zero, suc, ◌+◌, ◌≤◌, ◌<◌}
use mathlib.Core.Bool.{Bool, true, false, cond, not, ◌&&◌}
use mathlib.Core.List.{List, [], ◌∷◌}
use mathlib.Core.Path.{◌≡◌, refl, ap, ◌∙◌}
use native.Mathlib.Omega.{arith}
use borrow.Author.Tests.{leb-true, leb-false, lt-ltb}
use lib.Dec.{leb, ltb}
use lib.ListN.{length, take, get_or, drop, length-drop, drop_of_length-le, get_or-eq_default}
use lib.Seq.{drop-drop, take-length}
use Rattle.table.specs.Search.{within}
use Rattle.table.proofs.Tests.{both}
use Rattle.inkprint.specs.Numbers.{broken}
use Rattle.inkprint.specs.Characters.{character, goes_on, two_bytes, three_bytes, four_bytes, of_four, of_three, of_two, of_bytes, next_of, characters_from, characters_of}
use Rattle.inkprint.specs.inside.Steps.{Begins, Ends}
use Rattle.inkprint.specs.declared.Character.{Character}

-- ---- How many bytes a character has

-- `n` bytes, of which those after the first go on with it
data Sized (b c d : ℕ) : ℕ → Type 0 where
  one : Sized b c d 1
  two : 128 ≤ b → Sized b c d 2
  three : 128 ≤ c → Sized b c d 3
  four : 128 ≤ d → Sized b c d 4

goes_low : (b : ℕ) → goes_on b ≡ true → 128 ≤ b
goes_low b e = leb-true 128 b (both (leb 128 b) (leb b 191) e).0

module _ (a b c d : ℕ) where
  four_sized : Sized b c d (of_four a b c d).size
  unfolding of_four
  four_sized =
      go (within 240 244 a && goes_on b && goes_on c) (goes_on d) (within 65536 1114111 (four_bytes a b c d)) refl
    where
      go : (s t u : Bool) → goes_on d ≡ t → Sized b c d (cond (s && t && u) (character (four_bytes a b c d) 4) (character broken 1)).size
      go true true true e = four (goes_low d e)
      go true true false e = one
      go true false u e = one
      go false t u e = one

  three_sized : Sized b c d (of_three a b c d).size
  unfolding of_three
  three_sized =
      go (within 224 239 a && goes_on b) (goes_on c) (leb 2048 (three_bytes a b c)) (not (within 55296 57343 (three_bytes a b c))) refl
    where
      go : (s t u v : Bool) → goes_on c ≡ t → Sized b c d (cond (s && t && u && v) (character (three_bytes a b c) 3) (of_four a b c d)).size
      go true true true true e = three (goes_low c e)
      go true true true false e = four_sized
      go true true false v e = four_sized
      go true false u v e = four_sized
      go false t u v e = four_sized

  two_sized : Sized b c d (of_two a b c d).size
  unfolding of_two
  two_sized = go (within 194 223 a) (goes_on b) refl
    where
      go : (s t : Bool) → goes_on b ≡ t → Sized b c d (cond (s && t) (character (two_bytes a b) 2) (of_three a b c d)).size
      go true true e = two (goes_low b e)
      go true false e = three_sized
      go false t e = three_sized

  bytes_sized : Sized b c d (of_bytes a b c d).size
  unfolding of_bytes
  bytes_sized = go (ltb a 128)
    where
      go : (t : Bool) → Sized b c d (cond t (character a 1) (of_two a b c d)).size
      go true = one
      go false = two_sized

next_sized : (text : List ℕ) → Sized (get_or text 1 0) (get_or text 2 0) (get_or text 3 0) (next_of text).size
unfolding next_of
next_sized text = bytes_sized (get_or text 0 0) (get_or text 1 0) (get_or text 2 0) (get_or text 3 0)

sized_range : {b c d n : ℕ} → Sized b c d n → (0 < n) × (n ≤ 4)
sized_range one = (omega arith, omega arith)
sized_range (two h) = (omega arith, omega arith)
sized_range (three h) = (omega arith, omega arith)
sized_range (four h) = (omega arith, omega arith)

-- a byte that goes on stands in the text
there : (text : List ℕ) (k : ℕ) → 128 ≤ get_or text k 0 → k < length text
there text k h = go (leb (suc k) (length text)) refl
  where
    go : (t : Bool) → leb (suc k) (length text) ≡ t → k < length text
    go true e = leb-true (suc k) (length text) e
    go false e = absurd (let z : get_or text k 0 ≡ 0 = get_or-eq_default text 0 (omega (arith, leb-false (suc k) (length text) e)) in omega arith)

sized_within : (text : List ℕ) {n : ℕ} → 0 < length text → Sized (get_or text 1 0) (get_or text 2 0) (get_or text 3 0) n → n ≤ length text
sized_within text l one = omega arith
sized_within text l (two h) = omega (arith, there text 1 h)
sized_within text l (three h) = omega (arith, there text 2 h)
sized_within text l (four h) = omega (arith, there text 3 h)

pub next_size : (text : List ℕ) → (0 < (next_of text).size) × ((next_of text).size ≤ 4)
next_size text = sized_range (next_sized text)

pub next_within : (text : List ℕ) → 0 < length text → (next_of text).size ≤ length text
next_within text l = sized_within text l (next_sized text)

-- ---- The characters from a place on

-- any number of steps that is enough gives the same list
from_enough : (n m : ℕ) (text : List ℕ) → length text ≤ n → length text ≤ m → characters_from n text ≡ characters_from m text
unfolding characters_from
from_enough zero zero text k l = refl
from_enough zero (suc m) [] k l = refl
from_enough zero (suc m) (b ∷ bs) k l = absurd (omega arith)
from_enough (suc n) zero [] k l = refl
from_enough (suc n) zero (b ∷ bs) k l = absurd (omega arith)
from_enough (suc n) (suc m) [] k l = refl
from_enough (suc n) (suc m) (b ∷ bs) k l =
    let s = (next_of (b ∷ bs)).size in
    let z = next_size (b ∷ bs) in
    let e = length-drop s (b ∷ bs) in
    ap (λ (cs : List Character). next_of (b ∷ bs) ∷ cs) (from_enough n m (drop s (b ∷ bs)) (omega arith) (omega arith))

all_more : (text : List ℕ) → 0 < length text → characters_of text ≡ next_of text ∷ characters_of (drop (next_of text).size text)
unfolding characters_of characters_from
all_more [] l = absurd (omega arith)
all_more (b ∷ bs) l =
    let s = (next_of (b ∷ bs)).size in
    let z = next_size (b ∷ bs) in
    let e = length-drop s (b ∷ bs) in
    ap (λ (cs : List Character). next_of (b ∷ bs) ∷ cs) (from_enough (length bs) (length (drop s (b ∷ bs))) (drop s (b ∷ bs)) (omega arith) (omega arith))

pub characters_none : (text : List ℕ) (at : ℕ) → length text ≤ at → characters_of (drop at text) ≡ []
unfolding characters_of characters_from
characters_none text at l = rw (drop_of_length-le text l)

pub characters_more : (text : List ℕ) (at : ℕ) → at < length text
    → characters_of (drop at text) ≡ next_of (drop at text) ∷ characters_of (drop (at + (next_of (drop at text)).size) text)
characters_more text at l =
    all_more (drop at text) (omega (arith, length-drop at text))
    ∙ ap (λ (bs : List ℕ). next_of (drop at text) ∷ characters_of bs) (drop-drop (next_of (drop at text)).size at text)

pub ends_empty : (text : List ℕ) → length text ≡ 0 → Ends text
unfolding characters_of characters_from
ends_empty [] e = record { is = refl; none = refl }
ends_empty (b ∷ bs) e = absurd (omega arith)

-- the character at the front, by the value that the code has, and the rest after it
module _ (text : List ℕ) (c : Character) (some : 0 < length text) (is : c ≡ next_of text) where
  pub front_fits : c.size ≤ length text
  front_fits = rw is (next_within text some)

  pub front_begins : Begins text c (take (length text - c.size) (drop c.size text))
  front_begins =
      let size = next_size text in
      let fits = front_fits in
      let left = length-drop c.size text in
      let all : take (length text - c.size) (drop c.size text) ≡ drop c.size text =
      rw (← left) (take-length (drop c.size text)) in
      let e : c.size ≡ (next_of text).size = ap (λ (x : Character). x.size) is in
      record {
        first = rw (all, is) (all_more text some);
        some = omega arith;
        long = rw (all, left) (omega arith);
      }

-- a byte of ASCII is a character of its own
pub next_ascii : (text : List ℕ) → get_or text 0 0 < 128 → character (get_or text 0 0) 1 ≡ next_of text
unfolding next_of of_bytes
next_ascii text l = rw (lt-ltb (get_or text 0 0) 128 l)
