-- What the walk of `find` over a range answers is what the definitions find there.
use Rattle.std.proofs.Common.{ℕ, ◌≤◌, ◌<◌, Bool, true, false, Option, Some, None, MatchOption, ◌≡◌, sym, ap, arith}
use Rattle.table.specs.Search.{first}
use Rattle.table.specs.inside.Found.{found}
use Rattle.table.proofs.Search.{found_first, found_none}

pub first_passing : (test : ℕ → Bool) (n : ℕ) (r : Option ℕ)
    → MatchOption r ((k : ℕ) → 0 ≤ k → k < n → test k ≡ false) (λ i. (0 ≤ i) × (i < n) × (test i ≡ true) × ((k : ℕ) → 0 ≤ k → k < i → test k ≡ false))
    → r ≡ found (first test n)
first_passing test n (Some i) h = sym (ap found (found_first test n i (λ k l. h.3 k (omega arith) l) h.1 h.2))
first_passing test n None h = sym (ap found (found_none test n n (λ k l. h k (omega arith) l) (omega arith)))
