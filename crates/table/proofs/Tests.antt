-- A test tells a fact where it passes just where the fact holds. What tests joined by 'and', 'or', 'not' and 'if' tell, and what the tests of numbers,
-- of a range and of every number below a bound do. So the agreement of a rule with the paper's words is put together as the rule is.
use Prim.Native.Nat.{ℕ, ◌≤◌, ◌<◌}
use mathlib.Core.Bool.{Bool, true, false, true≢false, false≢true, cond, not, ◌&&◌, ◌||◌}
use mathlib.Core.Logic.Iff
use mathlib.Core.Logic.{◌↔◌, ◌⊎◌, inl, inr, ⊎_elim}
use mathlib.Core.Option.{Option, none, some}
use mathlib.Core.Path.{◌≡◌, refl, sym, ◌∙◌}
use native.Mathlib.Omega.{arith}
use lib.Dec.{leb, ltb, eqb}
use borrow.Author.Tests.{leb-true, le-leb, ltb-true, lt-ltb, eqb-true, eq-eqb, not-true, not-false}
use Rattle.table.specs.Search.{within, first, is_there, every}
use Rattle.table.specs.Refusals.{Between}
use Rattle.table.proofs.Search.{first_found, first_missing}

-- no test passes and fails
pub clash : {test : Bool} → test ≡ true → test ≡ false → ⊥
clash passes fails = true≢false (sym passes ∙ fails)

-- the test passes just where the fact holds
abbrev pub Tells : Bool → Type 0 → Type 0
Tells test Fact = (test ≡ true) ↔ Fact

-- ---- What a test that tells a fact is good for

module _ {test : Bool} {Fact : Type 0} (tells : Tells test Fact) where
  pub decided_by : Dec Fact
  decided_by = go test refl
    where
      go : (t : Bool) → test ≡ t → Dec Fact
      go true e = yes (tells.0 e)
      go false e = no (λ h. clash (tells.1 h) e)

  pub fails_law : (test ≡ false) ↔ (Fact → ⊥)
  fails_law = (λ e h. clash (tells.1 h) e, go test refl)
    where
      go : (t : Bool) → test ≡ t → (Fact → ⊥) → test ≡ false
      go true e h = absurd (h (tells.0 e))
      go false e h = e

-- two tests that tell the same fact are the same
pub same_tests : {a b : Bool} {Fact : Type 0} → Tells a Fact → Tells b Fact → a ≡ b
same_tests {a = true} p q = sym (q.1 (p.0 refl))
same_tests {a = false} p q = sym ((fails_law q).1 (λ h. false≢true (p.1 h)))

-- ---- Joined tests

-- the second test need tell its fact only where the first holds
pub tells_and_then : {a b : Bool} {P Q : Type 0} → Tells a P → (P → Tells b Q) → Tells (a && b) (P × Q)
tells_and_then {a = true} p q = (λ e. (p.0 refl, (q (p.0 refl)).0 e), λ h. (q h.0).1 h.1)
tells_and_then {a = false} p q = (λ e. absurd (false≢true e), λ h. absurd (false≢true (p.1 h.0)))

pub tells_and : {a b : Bool} {P Q : Type 0} → Tells a P → Tells b Q → Tells (a && b) (P × Q)
tells_and p q = tells_and_then p (λ _. q)

pub both : (a b : Bool) → (a && b) ≡ true → (a ≡ true) × (b ≡ true)
both a b = (tells_and (λ e. e, λ e. e) (λ e. e, λ e. e)).0

pub tells_or : {a b : Bool} {P Q : Type 0} → Tells a P → Tells b Q → Tells (a || b) (P ⊎ Q)
tells_or {a = true} p q = (λ e. inl (p.0 refl), λ _. refl)
tells_or {a = false} p q = (λ e. inr (q.0 e), ⊎_elim (λ h. absurd (false≢true (p.1 h))) q.1)

pub tells_not : {a : Bool} {P : Type 0} → Tells a P → Tells (not a) (P → ⊥)
tells_not {a = true} p = (λ e. absurd (false≢true e), λ h. absurd (h (p.0 refl)))
tells_not {a = false} p = (λ _ h. false≢true (p.1 h), λ _. refl)

pub tells_cond : {a b c : Bool} {P Q R : Type 0} → Tells a P → Tells b Q → Tells c R → Tells (cond a b c) ((P → Q) × ((P → ⊥) → R))
tells_cond {a = true} p q r = (λ e. (λ _. q.0 e, λ h. absurd (h (p.0 refl))), λ h. q.1 (h.0 (p.0 refl)))
tells_cond {a = false} p q r =
    (λ e. (λ h. absurd (false≢true (p.1 h)), λ _. r.0 e), λ h. r.1 (h.1 (λ g. false≢true (p.1 g))))

-- ---- Tests of numbers

pub tells_le : (a b : ℕ) → Tells (leb a b) (a ≤ b)
tells_le a b = (leb-true a b, le-leb a b)

pub tells_lt : (a b : ℕ) → Tells (ltb a b) (a < b)
tells_lt a b = (ltb-true a b, lt-ltb a b)

pub tells_eq : (a b : ℕ) → Tells (eqb a b) (a ≡ b)
tells_eq a b = (eqb-true a b, eq-eqb a b)

pub tells_within : (least most n : ℕ) → Tells (within least most n) (Between least most n)
tells_within least most n =
    Iff.trans (tells_and (tells_le least n) (tells_le n most)) (λ h. record { low = h.0; high = h.1 }, λ h. (h.low, h.high))

-- ---- Every number below a bound

pub every_law : (test : ℕ → Bool) (n : ℕ) → (every test n ≡ true) ↔ ((k : ℕ) → k < n → test k ≡ true)
every_law test n = go (first (λ k. not (test k)) n) refl
  where
    go : (o : Option ℕ) → first (λ k. not (test k)) n ≡ o → (not (is_there o) ≡ true) ↔ ((k : ℕ) → k < n → test k ≡ true)
    go none e = (λ _ k l. not-false _ (first_missing (λ k. not (test k)) 0 n e k (omega arith) (omega arith)), λ _. refl)
    go (some k) e =
        let f = first_found (λ k. not (test k)) 0 n k e in
        (λ t. absurd (false≢true t), λ h. absurd (clash (h k (omega arith)) (not-true _ f.passes)))

pub every_fails : (test : ℕ → Bool) (n k : ℕ) → k < n → test k ≡ false → every test n ≡ false
every_fails test n k l e = (fails_law (every_law test n)).1 (λ h. clash (h k l) e)

pub every_same : (f g : ℕ → Bool) (n : ℕ) → ((k : ℕ) → k < n → f k ≡ g k) → every f n ≡ every g n
every_same f g n same =
    same_tests (every_law f n) (Iff.trans (every_law g n) (λ h k l. same k l ∙ h k l, λ h k l. sym (same k l) ∙ h k l))
