-- Laws of the first number that passes a test: what it is where there is one, what holds where there is none, and the other way.
use Prim.Native.Nat.{ℕ, zero, suc, ◌+◌, ◌≤◌, ◌<◌}
use mathlib.Core.Bool.{Bool, true, false}
use mathlib.Core.Option.{Option, none, some}
use mathlib.Core.Path.{◌≡◌, refl, sym, ◌∙◌, ap, subst}
use native.Mathlib.Decide.{ℕ_discrete, dec_lt}
use native.Mathlib.Omega.{arith}
use Rattle.table.specs.Search.{first_from}
use Rattle.table.specs.inside.Found.{found}
use Rattle.std.specs.Prelude.{Some, None}

-- `k` is the first of the `n` numbers from `i` on that passes
pub record FirstOf (test : ℕ → Bool) (i n k : ℕ) : Type 0 where
  pub low : i ≤ k
  pub high : k < i + n
  pub passes : test k ≡ true
  pub earlier : (j : ℕ) → i ≤ j → j < k → test j ≡ false

-- none of the `n` numbers from `i` on passes
abbrev pub NoneOf : (ℕ → Bool) → ℕ → ℕ → Type 0
NoneOf test i n = (j : ℕ) → i ≤ j → j < i + n → test j ≡ false

module _ (test : ℕ → Bool) where
  at_or_after : {i j : ℕ} → i ≤ j → test i ≡ false → (suc i ≤ j → test j ≡ false) → test j ≡ false
  at_or_after {i} {j} h here later = go (ℕ_discrete i j)
    where
      go : Dec (i ≡ j) → test j ≡ false
      go (yes e) = subst (λ (x : ℕ). test x ≡ false) e here
      go (no d) = later (omega arith)

  pub first_found : (i n k : ℕ) → first_from test i n ≡ some k → FirstOf test i n k
  unfolding first_from
  first_found i zero k e = let z : ◌≡◌ {A = ℕ} 0 1 = cc in absurd (omega arith)
  first_found i (suc n) k e = go (test i) refl e (λ e'. first_found (suc i) n k e')
    where
      go : (b : Bool) → test i ≡ b → ◌≡◌ {A = Option ℕ} (elim b [ true ↦ some i | false ↦ first_from test (suc i) n ]) (some k)
          → (first_from test (suc i) n ≡ some k → FirstOf test (suc i) n k) → FirstOf test i (suc n) k
      go true t e later =
          let h : i ≡ k = cc in
          record {
            low = omega arith;
            high = omega arith;
            passes = subst (λ (x : ℕ). test x ≡ true) h t;
            earlier = λ j l u. absurd (omega arith);
          }
      go false t e later =
          let r = later e in
          record {
            low = omega arith;
            high = omega arith;
            passes = r.passes;
            earlier = λ j l u. at_or_after l t (λ l'. r.earlier j l' u);
          }

  pub first_missing : (i n : ℕ) → first_from test i n ≡ none → NoneOf test i n
  unfolding first_from
  first_missing i zero e j l u = absurd (omega arith)
  first_missing i (suc n) e j l u = go (test i) refl e (λ e'. first_missing (suc i) n e')
    where
      go : (b : Bool) → test i ≡ b → ◌≡◌ {A = Option ℕ} (elim b [ true ↦ some i | false ↦ first_from test (suc i) n ]) none
          → (first_from test (suc i) n ≡ none → NoneOf test (suc i) n) → test j ≡ false
      go true t e later = let z : ◌≡◌ {A = ℕ} 0 1 = cc in absurd (omega arith)
      go false t e later = at_or_after l t (λ l'. later e j l' (omega arith))

  -- a number that passes and one that fails are not the same
  clash : {k : ℕ} → test k ≡ true → test k ≡ false → ⊥
  clash p q = let z : ◌≡◌ {A = ℕ} 0 1 = cc in omega arith

  pub first_is : (i n k : ℕ) → FirstOf test i n k → first_from test i n ≡ some k
  first_is i n k r = go (first_from test i n) refl
    where
      same : (m : ℕ) → FirstOf test i n m → Dec (m < k) → Dec (k < m) → m ≡ k
      same m f (yes l) d = absurd (clash f.passes (r.earlier m f.low l))
      same m f (no a) (yes l) = absurd (clash r.passes (f.earlier k r.low l))
      same m f (no a) (no b) = omega arith

      go : (o : Option ℕ) → first_from test i n ≡ o → first_from test i n ≡ some k
      go none e = absurd (clash r.passes (first_missing i n e k r.low r.high))
      go (some m) e = e ∙ ap some (same m (first_found i n m e) (dec_lt m k) (dec_lt k m))

  pub first_is_not : (i n : ℕ) → NoneOf test i n → first_from test i n ≡ none
  first_is_not i n h = go (first_from test i n) refl
    where
      go : (o : Option ℕ) → first_from test i n ≡ o → first_from test i n ≡ none
      go none e = e
      go (some m) e = let f = first_found i n m e in absurd (clash f.passes (h m f.low f.high))

  -- ---- One number more

  pub first_kept : (n k : ℕ) → first_from test 0 n ≡ some k → first_from test 0 (n + 1) ≡ some k
  first_kept n k e =
      let f = first_found 0 n k e in
      first_is 0 (n + 1) k (record { low = f.low; high = omega arith; passes = f.passes; earlier = f.earlier })

  pub first_last : (n : ℕ) → first_from test 0 n ≡ none → test n ≡ true → first_from test 0 (n + 1) ≡ some n
  first_last n e t =
      first_is 0 (n + 1) n (record { low = omega arith; high = omega arith; passes = t; earlier = λ j l u. first_missing 0 n e j l (omega arith) })

  pub first_none_more : (n : ℕ) → first_from test 0 n ≡ none → test n ≡ false → first_from test 0 (n + 1) ≡ none
  first_none_more n e t =
      let before = first_missing 0 n e in
      first_is_not 0 (n + 1) (λ j l u. go j (dec_lt j n) (λ v. before j l (omega arith)) u)
    where
      go : (j : ℕ) → Dec (j < n) → (j < n → test j ≡ false) → j < 0 + (n + 1) → test j ≡ false
      go j (yes v) earlier u = earlier v
      go j (no d) earlier u = subst (λ (x : ℕ). test x ≡ false) (omega arith) t

  -- ---- A loop that searches from the front: no number before `k` passes

  pub found_first : (n k : ℕ) → ((j : ℕ) → j < k → test j ≡ false) → k < n → test k ≡ true → first_from test 0 n ≡ some k
  found_first n k fails l t =
      first_is 0 n k (record { low = omega arith; high = omega arith; passes = t; earlier = λ j _ u. fails j u })

  pub found_none : (n k : ℕ) → ((j : ℕ) → j < k → test j ≡ false) → n ≤ k → first_from test 0 n ≡ none
  found_none n k fails l = first_is_not 0 n (λ j _ u. fails j (omega arith))

-- two tests that agree on the numbers have the same first
pub first_same : (f g : ℕ → Bool) (n : ℕ) → ((k : ℕ) → k < n → f k ≡ g k) → first_from f 0 n ≡ first_from g 0 n
first_same f g n same = go (first_from g 0 n) refl
  where
    go : (o : Option ℕ) → first_from g 0 n ≡ o → first_from f 0 n ≡ first_from g 0 n
    go none e = first_is_not f 0 n (λ j l u. same j (omega arith) ∙ first_missing g 0 n e j l u) ∙ sym e
    go (some k) e =
        let r = first_found g 0 n k e in
        first_is f 0 n k
        (record {
          low = r.low;
          high = r.high;
          passes = same k (omega (arith, r.high)) ∙ r.passes;
          earlier = λ j l u. same j (omega (arith, r.high)) ∙ r.earlier j l u;
        })
        ∙ sym e

-- ---- What the code answers tells what the search finds

pub found_at : (o : Option ℕ) (k : ℕ) → found o ≡ Some k → o ≡ some k
found_at none k e = let z : ◌≡◌ {A = ℕ} 0 1 = cc in absurd (omega arith)
found_at (some j) k e = cc

pub found_nothing : (o : Option ℕ) → found o ≡ None → o ≡ none
found_nothing none e = refl
found_nothing (some j) e = let z : ◌≡◌ {A = ℕ} 0 1 = cc in absurd (omega arith)
