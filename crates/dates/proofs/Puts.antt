-- What the runs that are written make together: a record and its years are one block more, two numbers, a part and a mark are a trailer, and four parts are
-- the moved image.
use Prim.Native.Nat.{ℕ, suc, ◌+◌, ◌-◌, ◌*◌, ◌≤◌, ◌<◌}
use mathlib.Core.List.{List, [], ◌∷◌, ◌++◌, flatten}
use mathlib.Core.Path.{◌≡◌, sym, ◌∙◌, ap, subst}
use native.Mathlib.Nat.{mul-suc, mul-le-mul_left}
use native.Mathlib.Numerals.{add-one}
use native.Mathlib.Omega.{arith}
use lib.ListN.{length, take, drop, length-append}
use Rattle.table.specs.Numbers.{trailer_size, entry_size}
use Rattle.table.specs.Search.{list_of}
use Rattle.table.specs.Sections.{bytes_from, trailer_at, record_part}
use Rattle.table.specs.declared.Section.{Section}
use Rattle.table.proofs.Wrote.{put_then, wrote_length}
use Rattle.dates.specs.Forms.{number_bytes, moved_entry}
use Rattle.dates.specs.inside.Putting.{Puts, trailer_bytes}
use Rattle.dates.proofs.Blocks.{blocks_more, blocks_length}
use Rattle.dates.proofs.Parts.{Lie, entry_length}

-- ---- The part that is handed over

-- all of the trailer but its first two distances and its last byte
pub slice_of_trailer : (image : List ℕ) → trailer_size ≤ length image
    → take (length image - 1 - (length image - 10)) (drop (length image - 10) image) ≡ bytes_from image (trailer_at image + 4) 9
unfolding bytes_from trailer_at
slice_of_trailer image long =
    let n : length image - 1 - (length image - 10) ≡ 9 = omega arith in
    let p : length image - 10 ≡ length image - 14 + 4 = omega arith in
    ap (λ (i : ℕ). take i (drop (length image - 10) image)) n ∙ ap (λ (i : ℕ). take 9 (drop i image)) p

-- ---- What the runs make

-- one run after another is one run
pub puts_then : {before after last bytes more : List ℕ} {at middle end : ℕ} → Puts before at bytes after middle → Puts after middle more last end
    → Puts before at (bytes ++ more) last end
puts_then {before} {after} {last} {bytes} {more} {at} first second =
    let both = length-append bytes more in
    let to = first.moves in
    let on = second.moves in
    record { moves = omega arith; writes = record { leaves = put_then before after last at bytes more first.writes.leaves second.writes.leaves to } }

-- what is written changes no length
pub puts_length : {before bytes after : List ℕ} {at end : ℕ} → Puts before at bytes after end → length after ≡ length before
puts_length p = wrote_length p.writes

-- where there is room for all records and their years, there is room for one more
pub entry_room : (years image : List ℕ) (entries : Section) → Lie image entries → (k : ℕ) → k < entries.records → {before l : List ℕ} {at to : ℕ}
    → at + (entry_size + length years) * entries.records ≤ length before
    → Puts before at (flatten (list_of (moved_entry years image entries) k)) l to
    → to + (entry_size + length years) ≤ length l
entry_room years image entries lie k there room so_far =
    let size : ℕ = entry_size + length years in
    let long : length (flatten (list_of (moved_entry years image entries) k)) ≡ size * k =
    blocks_length (moved_entry years image entries) size 0 k (λ j a b. entry_length years image entries lie j (omega arith)) in
    let fit : size * suc k ≤ size * entries.records = mul-le-mul_left size (omega arith) in
    let next : size * suc k ≡ size * k + size = mul-suc size k in
    let to = so_far.moves in
    let kept = puts_length so_far in
    omega arith

-- one record and its years more
pub entry_put : (years image : List ℕ) (entries : Section) (k : ℕ) {before l m o part : List ℕ} {at to next end : ℕ}
    → part ≡ record_part image entries k 0 entry_size
    → Puts before at (flatten (list_of (moved_entry years image entries) k)) l to
    → Puts l to part m next
    → Puts m next years o end
    → Puts before at (flatten (list_of (moved_entry years image entries) (k + 1))) o end
unfolding moved_entry
entry_put years image entries k {before} {o = o} {part = part} {at = at} {end = end} is_part so_far first second =
    let blocks : List ℕ = flatten (list_of (moved_entry years image entries) k) in
    let more : flatten (list_of (moved_entry years image entries) (k + 1)) ≡ blocks ++ (record_part image entries k 0 entry_size ++ years) =
    ap (λ (n : ℕ). flatten (list_of (moved_entry years image entries) n)) (add-one k)
    ∙ blocks_more (moved_entry years image entries) 0 k
    ∙ ap (λ (n : ℕ). blocks ++ moved_entry years image entries n) (omega arith) in
    subst (λ (r : List ℕ). Puts before at r o end) (ap (λ (p : List ℕ). blocks ++ (p ++ years)) is_part ∙ sym more)
    (puts_then so_far (puts_then first second))

-- two numbers, a part and a mark
pub trailer_put : (alphabet : ℕ) (image : List ℕ) (mark : ℕ) {before a b c d part : List ℕ} {at p q r end : ℕ}
    → part ≡ bytes_from image (trailer_at image + 4) 9
    → Puts before at (number_bytes at) a p
    → Puts a p (number_bytes (at - alphabet)) b q
    → Puts b q part c r
    → Puts c r (mark ∷ []) d end
    → Puts before at (trailer_bytes at alphabet image mark) d end
unfolding trailer_bytes
trailer_put alphabet image mark {before} {d = d} {at = at} {end = end} is_part first second third fourth =
    subst (λ (s : List ℕ). Puts before at (number_bytes at ++ number_bytes (at - alphabet) ++ s ++ mark ∷ []) d end) is_part
    (puts_then (puts_then (puts_then first second) third) fourth)
