-- `judge::groups::agreement_of` meets its contract. The invariant: the agreement of the two strings is what they share so far and the agreement of what
-- follows in both.
use Rattle.std.proofs.Common.{ℕ, ◌+◌, List, length, [], ◌∷◌, ◌≡◌, refl, ap, arith, eq-eqb, ne_eqb, inl, inr}
use Rattle.std.proofs.lemmas.Grind.{common_steps}
use Rattle.std.specs.Iterator.Adapters.{zip_first, zip_second}
use Rattle.std.specs.Slice.Iter.{iter_rest}
use Rattle.table.specs.Grouping.{agreement}
use Rattle.judge.proofs.groups.agreement_of.Goals as goal

-- what follows agrees in the next character, or doesn't, or one of the two has none
on : {s t a b : List ℕ} {x y : ℕ} → s ≡ x ∷ a → t ≡ y ∷ b → x ≡ y → agreement s t ≡ agreement a b + 1
unfolding agreement
on {x = x} {y = y} p q e = rw (p, q, eq-eqb x y e, agreement) (omega arith)

off : {s t a b : List ℕ} {x y : ℕ} → s ≡ x ∷ a → t ≡ y ∷ b → (x ≡ y → ⊥) → agreement s t ≡ 0
unfolding agreement
off {x = x} {y = y} p q d = rw (p, q, ne_eqb x y d, agreement)

first_ends : (s t : List ℕ) → length s ≡ 0 → agreement s t ≡ 0
unfolding agreement
first_ends [] t p = refl
first_ends (x ∷ s) t p = absurd (omega arith)

second_ends : (s t : List ℕ) → length t ≡ 0 → agreement s t ≡ 0
unfolding agreement
second_ends [] t p = refl
second_ends (x ∷ s) [] p = refl
second_ends (x ∷ s) (y ∷ t) p = absurd (omega arith)

pub loop-x-init : goal.loop-x-init
loop-x-init c = record { passed = grind (arith, common_steps); agreed = grind (arith, common_steps) }

pub returns-then-x-y : goal.returns-then-x-y
returns-then-x-y c = let h = off c.in-Some.ensures.steps.0 c.in-Some.ensures.steps.1 c.if-x-y.true in omega arith

pub loop-x-preserved : goal.loop-x-preserved
loop-x-preserved c =
    let h = on c.in-Some.ensures.steps.0 c.in-Some.ensures.steps.1 c.if-x-y.false in
    let n = ap length c.in-Some.ensures.steps.0 in
    record { passed = omega arith; agreed = omega arith }

pub overflow_add-shared : goal.overflow_add-shared
overflow_add-shared c =
    let n = ap length c.in-Some.ensures.steps.0 in
    let b = c.iter.ensures.bound in
    record { fits = omega arith }

pub returns : goal.returns
returns c =
    let first = first_ends (iter_rest (zip_first c.loop-x.x-iterator)) (iter_rest (zip_second c.loop-x.x-iterator)) in
    let second = second_ends (iter_rest (zip_first c.loop-x.x-iterator)) (iter_rest (zip_second c.loop-x.x-iterator)) in
    elim c.in-None.ensures.steps [ inl u ↦ let h = first u.1.0 in omega arith | inr u ↦ let h = second u.1.0 in omega arith ]
