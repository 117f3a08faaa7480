-- Laws of lists that are joined from blocks of one length, each given by its number: how long the whole is, what stands in each block, and one block more.
-- And of two-byte numbers.
use Prim.Native.Nat.{ℕ, zero, suc, ◌+◌, ◌*◌, ◌≤◌, ◌<◌}
use mathlib.Core.List.{List, ◌++◌, flatten, append_assoc, append-nil}
use mathlib.Core.Path.{◌≡◌, sym, ◌∙◌, ap}
use native.Mathlib.Nat.{mul-zero, mul-suc, mul-le-mul_left}
use native.Mathlib.Omega.{arith}
use lib.ListN.{length, get_or, length-append, get_or-append}
use lib.Seq.{get_or-append-add}
use Rattle.table.specs.Search.{list_from}

-- a place in a block is a place in the whole
pub in_block : (size k n j : ℕ) → k < n → j < size → size * k + j < size * n
in_block size k n j l u =
    let fit : size * suc k ≤ size * n = mul-le-mul_left size l in
    let next : size * suc k ≡ size * k + size = mul-suc size k in
    omega arith

module _ (block : ℕ → List ℕ) where
  pub blocks_more : (i n : ℕ) → flatten (list_from block i (suc n)) ≡ flatten (list_from block i n) ++ block (i + n)
  unfolding flatten list_from
  blocks_more i zero = append-nil (block i) ∙ ap block (omega arith)
  blocks_more i (suc n) =
      ap (λ (r : List ℕ). block i ++ r) (blocks_more (suc i) n)
      ∙ sym (append_assoc (block i) (flatten (list_from block (suc i) n)) (block (suc i + n)))
      ∙ ap (λ (k : ℕ). block i ++ flatten (list_from block (suc i) n) ++ block k) (omega arith)

  -- the blocks from `i` to `i + n` are so long
  abbrev pub SoLong : ℕ → ℕ → ℕ → Type 0
  SoLong size i n = (k : ℕ) → i ≤ k → k < i + n → length (block k) ≡ size

  pub blocks_length : (size i n : ℕ) → SoLong size i n → length (flatten (list_from block i n)) ≡ size * n
  unfolding flatten list_from
  blocks_length size i zero long = sym (mul-zero size)
  blocks_length size i (suc n) long =
      let later = blocks_length size (suc i) n (λ k l u. long k (omega arith) (omega arith)) in
      let here = long i (omega arith) (omega arith) in
      let next : size * suc n ≡ size * n + size = mul-suc size n in
      length-append (block i) (flatten (list_from block (suc i) n)) ∙ omega arith

  pub block_at : (size i n k j : ℕ) → SoLong size i n → k < n → j < size
      → get_or (flatten (list_from block i n)) (size * k + j) 0 ≡ get_or (block (i + k)) j 0
  unfolding flatten list_from
  block_at size i zero k j long l u = absurd (omega arith)
  block_at size i (suc n) zero j long l u =
      let here = long i (omega arith) (omega arith) in
      let none = mul-zero size in
      ap (λ (p : ℕ). get_or (block i ++ flatten (list_from block (suc i) n)) p 0) (omega arith)
      ∙ get_or-append (block i) (flatten (list_from block (suc i) n)) 0 j (omega arith)
      ∙ ap (λ (p : ℕ). get_or (block p) j 0) (omega arith)
  block_at size i (suc n) (suc k) j long l u =
      let here = long i (omega arith) (omega arith) in
      let next : size * suc k ≡ size * k + size = mul-suc size k in
      ap (λ (p : ℕ). get_or (block i ++ flatten (list_from block (suc i) n)) p 0) (omega arith)
      ∙ get_or-append-add (block i) (flatten (list_from block (suc i) n)) (size * k + j) 0
      ∙ block_at size (suc i) n k j (λ p m v. long p (omega arith) (omega arith)) (omega arith) u
      ∙ ap (λ (p : ℕ). get_or (block p) j 0) (omega arith)

-- ---- Four parts, one after the other

module _ (a b c d : List ℕ) where
  pub parts_length : length (a ++ b ++ c ++ d) ≡ length a + length b + length c + length d
  parts_length = simp length-append

  pub in_first : (i : ℕ) → i < length a → get_or (a ++ b ++ c ++ d) i 0 ≡ get_or a i 0
  in_first i l =
      get_or-append (a ++ b ++ c) d 0 i (simp length-append (omega arith))
      ∙ get_or-append (a ++ b) c 0 i (simp length-append (omega arith))
      ∙ get_or-append a b 0 i l

  pub in_second : (i : ℕ) → i < length b → get_or (a ++ b ++ c ++ d) (length a + i) 0 ≡ get_or b i 0
  in_second i l =
      get_or-append (a ++ b ++ c) d 0 (length a + i) (simp length-append (omega arith))
      ∙ get_or-append (a ++ b) c 0 (length a + i) (simp length-append (omega arith))
      ∙ get_or-append-add a b i 0

  pub in_third : (i : ℕ) → i < length c → get_or (a ++ b ++ c ++ d) (length a + length b + i) 0 ≡ get_or c i 0
  in_third i l =
      get_or-append (a ++ b ++ c) d 0 (length a + length b + i) (simp length-append (omega arith))
      ∙ ap (λ (p : ℕ). get_or (a ++ b ++ c) (p + i) 0) (sym (length-append a b))
      ∙ get_or-append-add (a ++ b) c i 0

  pub in_fourth : (i : ℕ) → get_or (a ++ b ++ c ++ d) (length a + length b + length c + i) 0 ≡ get_or d i 0
  in_fourth i =
      let long : length (a ++ b ++ c) ≡ length a + length b + length c = simp length-append in
      ap (λ (p : ℕ). get_or (a ++ b ++ c ++ d) (p + i) 0) (sym long) ∙ get_or-append-add (a ++ b ++ c) d i 0
