-- Of two accepted images of which one is the other with a single byte changed, the stamps differ in the first number, and in the second too; with two unequal
-- neighbours exchanged, in the second; with any two bytes changed, in one of them. The idea: a number moves by the difference of two bytes, the second once for
-- each byte from there to the end. That is never 0, and less than 2^32 in an accepted image, so going past the top doesn't hide it.
use Rattle.std.proofs.Common.{◌≡◌, ℕ, suc, ◌+◌, ◌-◌, ◌*◌, ◌%◌, ◌<◌, ◌≤◌, List, [], ◌∷◌, ◌++◌, length, Ok, sym, ap, ◌∙◌, append_assoc, add-mul, mul-le-mul, mul-add, arith, length-append}
use native.Mathlib.Decide.{dec_lt}
use Rattle.table.specs.Verdict.{verdict_of}
use Rattle.table.proofs.Largest.{accepted_fits}
use Rattle.stamp.specs.Numbers.{sum_room}
use Rattle.stamp.specs.Stamping.{first, second, stamping}
use Rattle.stamp.specs.Weights.{total, weighed}
use Rattle.stamp.specs.Changes.{Unequal, OneByteChanged, byte_changed, NeighboursExchanged, exchanged, TwoBytesChanged, bytes_changed}
use Rattle.stamp.proofs.Weights.{first_is_total, second_is_weighed}

-- ---- What a changed byte does to the sums

total_changed : (before after : List ℕ) (a b : ℕ) → total (before ++ a ∷ after) + b ≡ total (before ++ b ∷ after) + a
unfolding total
total_changed [] after a b = omega arith
total_changed (x ∷ before) after a b = omega (arith, total_changed before after a b)

weighed_changed : (before after : List ℕ) (a b : ℕ)
    → weighed (before ++ a ∷ after) + suc (length after) * b ≡ weighed (before ++ b ∷ after) + suc (length after) * a
unfolding weighed
weighed_changed [] after a b = omega arith
weighed_changed (x ∷ before) after a b =
    let l : length (before ++ a ∷ after) ≡ length (before ++ b ∷ after) = length-append before (a ∷ after) ∙ sym (length-append before (b ∷ after)) in
    omega (arith, weighed_changed before after a b, ap (λ (n : ℕ). suc n * x) l)

-- ---- What two do

module _ (before between after : List ℕ) where
  abbrev holding : ℕ → ℕ → List ℕ
  holding a b = before ++ a ∷ (between ++ b ∷ after)

  -- the bytes from the one on up to the other, and from the other on
  abbrev apart : ℕ
  apart = suc (length between)

  abbrev left : ℕ
  left = suc (length after)

  regrouped : (a b : ℕ) → holding a b ≡ (before ++ a ∷ between) ++ b ∷ after
  regrouped a b = sym (append_assoc before (a ∷ between) (b ∷ after))

  total_both : (a b c d : ℕ) → total (holding a b) + (c + d) ≡ total (holding c d) + (a + b)
  total_both a b c d =
      let one = total_changed before (between ++ b ∷ after) a c in
      let two = total_changed (before ++ c ∷ between) after b d in
      omega (arith, one, two, ap total (regrouped c b), ap total (regrouped c d))

  weighed_both : (a b c d : ℕ) → weighed (holding a b) + (apart * c + left * (c + d)) ≡ weighed (holding c d) + (apart * a + left * (a + b))
  weighed_both a b c d =
      let one = weighed_changed before (between ++ b ∷ after) a c in
      let two = weighed_changed (before ++ c ∷ between) after b d in
      let size : suc (length (between ++ b ∷ after)) ≡ apart + left = ap suc (length-append between (b ∷ after)) ∙ omega arith in
      let whole : (x : ℕ) → suc (length (between ++ b ∷ after)) * x ≡ apart * x + left * x = λ x. ap (λ (n : ℕ). n * x) size ∙ add-mul apart left x in
      omega
      (arith, one, two, ap weighed (regrouped c b), ap weighed (regrouped c d), whole a, whole c, mul-add left c d, mul-add left a b)

  -- with the same total, the weights move by the bytes between them
  weighed_moved : (a b c d : ℕ) → a + b ≡ c + d → weighed (holding a b) + apart * c ≡ weighed (holding c d) + apart * a
  weighed_moved a b c d same = omega (arith, weighed_both a b c d, ap (λ (n : ℕ). left * n) same)

-- ---- Going past the top hides none of it

-- sums that differ by so many times the difference of two unequal bytes
never_hidden : (m n k a b : ℕ) → Unequal a b → 0 < k → k < 32768 → m + k * b ≡ n + k * a → m % sum_room ≡ n % sum_room → ⊥
never_hidden m n k a b u some few moved same = go (dec_lt a b) (dec_lt b a)
  where
    -- the first number is the less
    less : (m n a b : ℕ) → a < b → b < 256 → m + k * b ≡ n + k * a → m % sum_room ≡ n % sum_room → ⊥
    less m n a b l small e s =
        let d : ℕ = b - a in
        let d_is : b ≡ a + d = omega arith in
        let parts : k * b ≡ k * a + k * d = ap (λ (x : ℕ). k * x) d_is ∙ mul-add k a d in
        let least : 1 * 1 ≤ k * d = mul-le-mul {n₁ = 1} {m₁ = 1} {n₂ = k} {m₂ = d} (omega arith) (omega arith) in
        let most : k * d ≤ 32768 * 256 = mul-le-mul {n₁ = k} {m₁ = d} {n₂ = 32768} {m₂ = 256} (omega arith) (omega arith) in
        omega arith

    go : Dec (a < b) → Dec (b < a) → ⊥
    go (yes l) x = less m n a b l u.other_is_byte moved same
    go (no x) (yes l) = less n m b a l u.is_byte (sym moved) (sym same)
    go (no x) (no y) = u.unequal (omega arith)

-- the bytes from a place of an accepted image on
few_after : (before after : List ℕ) (a : ℕ) → verdict_of (before ++ a ∷ after) ≡ Ok tt → suc (length after) < 32768
few_after before after a accepts = let most = accepted_fits (before ++ a ∷ after) accepts in omega (arith, length-append before (a ∷ after))

-- ---- The theorems, for two accepted images

module _ (image other : List ℕ) (accepts : verdict_of image ≡ Ok tt) (accepts' : verdict_of other ≡ Ok tt) where
  same_total : first (stamping image) ≡ first (stamping other) → total image % sum_room ≡ total other % sum_room
  same_total same = sym (first_is_total image accepts) ∙ same ∙ first_is_total other accepts'

  same_weighed : second (stamping image) ≡ second (stamping other) → weighed image % sum_room ≡ weighed other % sum_room
  same_weighed same = sym (second_is_weighed image accepts) ∙ same ∙ second_is_weighed other accepts'

-- changing a single byte changes the first
pub one_byte_changed : (image other : List ℕ) → verdict_of image ≡ Ok tt → verdict_of other ≡ Ok tt → OneByteChanged image other
    → first (stamping image) ≡ first (stamping other) → ⊥
one_byte_changed image other accepts accepts' (byte_changed before after a b u) same =
    never_hidden _ _ 1 a b u (omega arith) (omega arith) (omega (arith, total_changed before after a b)) (same_total _ _ accepts accepts' same)

-- and the second
pub one_byte_changes_second : (image other : List ℕ) → verdict_of image ≡ Ok tt → verdict_of other ≡ Ok tt → OneByteChanged image other
    → second (stamping image) ≡ second (stamping other) → ⊥
one_byte_changes_second image other accepts accepts' (byte_changed before after a b u) same =
    never_hidden _ _ (suc (length after)) a b u (omega arith) (few_after before after a accepts) (weighed_changed before after a b)
    (same_weighed _ _ accepts accepts' same)

-- exchanging two unequal neighbours changes the second
pub neighbours_exchanged : (image other : List ℕ) → verdict_of image ≡ Ok tt → verdict_of other ≡ Ok tt → NeighboursExchanged image other
    → second (stamping image) ≡ second (stamping other) → ⊥
neighbours_exchanged image other accepts accepts' (exchanged before after a b u) same =
    never_hidden _ _ 1 a b u (omega arith) (omega arith) (weighed_moved before [] after a b b a (omega arith)) (same_weighed _ _ accepts accepts' same)

-- changing any two bytes changes one of the two
pub two_bytes_changed : (image other : List ℕ) → verdict_of image ≡ Ok tt → verdict_of other ≡ Ok tt → TwoBytesChanged image other
    → (first (stamping image) ≡ first (stamping other)) × (second (stamping image) ≡ second (stamping other)) → ⊥
two_bytes_changed image other accepts accepts' (bytes_changed before between after a b c d u v) same =
    let t = same_total _ _ accepts accepts' same.0 in
    let both = total_both before between after a b c d in
    let a_small = u.is_byte in
    let c_small = u.other_is_byte in
    let b_small = v.is_byte in
    let d_small = v.other_is_byte in
    let sum : a + b ≡ c + d = omega arith in
    let few = few_after before (between ++ b ∷ after) a accepts in
    never_hidden _ _ (suc (length between)) a c u (omega arith) (omega (arith, few, length-append between (b ∷ after)))
    (weighed_moved before between after a b c d sum) (same_weighed _ _ accepts accepts' same.1)
