-- The two numbers of a stamp are the sum of the bytes, and the sum of each byte times the number of bytes from it to the end, both modulo 2^32; the first never
-- comes so far, and is never 0. The idea: sums that go past the top on the way are the sums that go past it at the end; and what the first has already is added to the second
-- once for each byte.
use Rattle.std.proofs.Common.{◌≡◌, ℕ, zero, suc, ◌+◌, ◌*◌, ◌%◌, ◌<◌, ◌≤◌, List, [], ◌∷◌, length, get_or, Ok, ap, ◌∙◌, mod-eq_of_lt, suc-mul, mul-add, arith}
use native.Mathlib.Nat.{mod-add-mod, add-mod-mod}
use Rattle.table.specs.Numbers.{first_mark_byte, low_byte_room}
use Rattle.table.specs.Lists.{All, empty, ◌and◌}
use Rattle.table.specs.Sections.{byte_at, trailer_at}
use Rattle.table.specs.Verdict.{verdict_of}
use Rattle.table.proofs.Refusals.{accepted}
use Rattle.table.proofs.Largest.{accepted_fits}
use Rattle.stamp.specs.Numbers.{sum_room}
use Rattle.stamp.specs.Sums.{Sums, grown, next, sums_from, sums_of}
use Rattle.stamp.specs.Stamping.{first, second, stamping}
use Rattle.stamp.specs.Weights.{total, weighed}
use Rattle.stamp.proofs.Outcomes.{stamp_done}

-- these two numbers, past the top back to 0
abbrev wrapped : ℕ → ℕ → Sums
wrapped t w = record { first = t % sum_room; second = w % sum_room }

wrapped_same : {t u w x : ℕ} → t ≡ u → w ≡ x → wrapped t w ≡ wrapped u x
wrapped_same e f = λ i. wrapped (e i) (f i)

next_wrapped : (t w byte : ℕ) → next (wrapped t w) byte ≡ wrapped (t + byte) (w + (t + byte))
unfolding next grown
next_wrapped t w byte =
    let f : (t % sum_room + byte) % sum_room ≡ (t + byte) % sum_room = mod-add-mod t sum_room byte in
    let s : (w % sum_room + (t % sum_room + byte) % sum_room) % sum_room ≡ (w + (t + byte)) % sum_room =
    ap (λ (n : ℕ). (w % sum_room + n) % sum_room) f ∙ mod-add-mod w sum_room ((t + byte) % sum_room) ∙ add-mod-mod w (t + byte) sum_room in
    λ i. record { first = f i; second = s i }

sums_from_lem : (t w : ℕ) (bytes : List ℕ) → sums_from (wrapped t w) bytes ≡ wrapped (t + total bytes) (w + (length bytes * t + weighed bytes))
unfolding sums_from total weighed
sums_from_lem t w [] = wrapped_same (omega arith) (omega arith)
sums_from_lem t w (byte ∷ bytes) =
    let n : ℕ = length bytes in
    let spread : n * (t + byte) ≡ n * t + n * byte = mul-add n t byte in
    let more : suc n * t ≡ n * t + t = suc-mul n t in
    let more' : suc n * byte ≡ n * byte + byte = suc-mul n byte in
    ap (λ (sums : Sums). sums_from sums bytes) (next_wrapped t w byte)
    ∙ sums_from_lem (t + byte) (w + (t + byte)) bytes
    ∙ wrapped_same (omega arith) (omega arith)

sums_weighed : (bytes : List ℕ) → sums_of bytes ≡ wrapped (total bytes) (weighed bytes)
unfolding sums_of
sums_weighed bytes = sums_from_lem 0 0 bytes ∙ wrapped_same (omega arith) (omega arith)

-- the first number of a stamp is the sum of the bytes, modulo 2^32
pub first_is_total : (image : List ℕ) → verdict_of image ≡ Ok tt → first (stamping image) ≡ total image % sum_room
first_is_total image accepts = ap first (stamp_done image accepts) ∙ ap (λ (sums : Sums). sums.first) (sums_weighed image)

-- and the second the sum of each byte times the bytes from it to the end, itself counted in, modulo 2^32
pub second_is_weighed : (image : List ℕ) → verdict_of image ≡ Ok tt → second (stamping image) ≡ weighed image % sum_room
second_is_weighed image accepts = ap second (stamp_done image accepts) ∙ ap (λ (sums : Sums). sums.second) (sums_weighed image)

-- ---- The first number of an accepted image never goes past the top, and is never 0

total_most : (bytes : List ℕ) → All (λ (b : ℕ). b < low_byte_room) bytes → total bytes ≤ low_byte_room * length bytes
unfolding total
total_most [] empty = omega arith
total_most (byte ∷ bytes) (b and small) = omega (arith, total_most bytes small)

pub first_in_full : (image : List ℕ) → All (λ (b : ℕ). b < low_byte_room) image → verdict_of image ≡ Ok tt → first (stamping image) ≡ total image
first_in_full image small accepts =
    let most = total_most image small in
    let fits = accepted_fits image accepts in
    first_is_total image accepts ∙ mod-eq_of_lt (omega arith)

total_least : (bytes : List ℕ) (i : ℕ) → get_or bytes i 0 ≤ total bytes
unfolding total
total_least [] i = omega arith
total_least (byte ∷ bytes) zero = omega arith
total_least (byte ∷ bytes) (suc i) = omega (arith, total_least bytes i)

-- so 0 and 0 is the stamp of refused images alone
pub accepted_has_one : (image : List ℕ) → All (λ (b : ℕ). b < low_byte_room) image → verdict_of image ≡ Ok tt → 0 < first (stamping image)
unfolding byte_at
accepted_has_one image small accepts =
    let mark = ((accepted image).0 accepts).0.first_mark_lem in
    omega (arith, mark, total_least image (trailer_at image + first_mark_byte), first_in_full image small accepts)
