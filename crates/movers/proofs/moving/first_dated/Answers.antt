-- `movers::moving::first_dated` meets its contract: the search's test is the definition's, and so is the first number that passes it.
use borrow.Author.Rules.{rules}
use Prim.Native.Nat.{ℕ, ◌≤◌, ◌<◌}
use mathlib.Core.Bool.{Bool, true, false, not}
use mathlib.Core.Path.{◌≡◌, sym, ap}
use native.Mathlib.Omega.{arith}
use Rattle.std.specs.Prelude.{Option, None, Some, MatchOption}
use Rattle.std.proofs.lemmas.Iterator.{first_from_Range}
use Rattle.table.specs.Search.{first}
use Rattle.table.specs.inside.Found.{found}
use Rattle.table.proofs.Search.{found_first, found_none}
use Rattle.dates.specs.Forms.{is_always, first_dated_of}
use Rattle.movers.proofs.moving.first_dated.Goals as goal

found_is : (test : ℕ → Bool) (n : ℕ) (r : Option ℕ)
    → MatchOption r ((k : ℕ) → 0 ≤ k → k < n → test k ≡ false) (λ i. (0 ≤ i) × (i < n) × (test i ≡ true) × ((k : ℕ) → 0 ≤ k → k < i → test k ≡ false))
    → r ≡ found (first test n)
found_is test n None fails = sym (ap found (found_none test n n (λ k l. fails k (omega arith) l) (omega arith)))
found_is test n (Some i) (low, there, passes, fails) = sym (ap found (found_first test n i (λ k l. fails k (omega arith) l) there passes))

pub returns : goal.returns
unfolding first_dated_of
returns c =
    let a = c.args in
    found_is (λ k. not (is_always a.image.now a.entries k)) a.entries.records c.find.result
    (first_from_Range _ _ _ _ _ _ c.find.ensures.ran (λ x q k. search rules) (λ x q k. (search rules, search rules)))
