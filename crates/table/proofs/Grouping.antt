-- Grouping as the paper says it and the test that computes agree, and name the same first record. The idea: two strings agree in their first p
-- characters just where p is at most their agreement. Where no record up to r - 1 breaks the grouping, a record between q and r that differs is
-- outdone by r - 1, so r breaks it just where q agrees with r in more characters than r - 1 does.
use Prim.Native.Nat.{ℕ, zero, suc, pred, ◌≤◌, ◌<◌}
use mathlib.Core.Bool.{Bool, true, false}
use mathlib.Core.List.{List, [], ◌∷◌}
use mathlib.Core.Option.{Option, none, some}
use mathlib.Core.Path.{◌≡◌, refl, sym, ◌∙◌, ap, subst}
use native.Mathlib.Decide.{dec_le, dec_lt}
use native.Mathlib.Omega.{arith}
use lib.Dec.{ltb, eqb}
use lib.ListN.{length, take}
use borrow.Author.Tests.{ltb-true, ltb-false, eqb-true, eqb-false}
use Rattle.table.specs.Search.{first, is_there}
use Rattle.table.specs.Grouping.{string_of, agreement, breaks_at, first_break}
use Rattle.table.specs.Grouped.{Agree, Violated, Breaks, Grouped, FirstToBreak}
use Rattle.table.proofs.Search.{first_found, first_missing}

-- ---- Agreement

pub agree_within_agreement : (p : ℕ) (a b : List ℕ) → p ≤ agreement a b → Agree p a b
unfolding agreement
agree_within_agreement zero a b h = record { left_long = omega arith; right_long = omega arith; same = refl }
agree_within_agreement (suc p) [] b h = absurd (omega arith)
agree_within_agreement (suc p) (x ∷ a) [] h = absurd (omega arith)
agree_within_agreement (suc p) (x ∷ a) (y ∷ b) h = go (eqb x y) refl h (agree_within_agreement p a b)
  where
    go : (t : Bool) → eqb x y ≡ t → suc p ≤ elim t [ true ↦ suc (agreement a b) | false ↦ 0 ] → (p ≤ agreement a b → Agree p a b)
        → Agree (suc p) (x ∷ a) (y ∷ b)
    go true e h deeper =
        let d = deeper (omega arith) in
        record {
          left_long = omega arith;
          right_long = omega arith;
          same = ap (λ (z : ℕ). z ∷ take p a) (eqb-true x y e) ∙ ap (λ (r : List ℕ). y ∷ r) d.same;
        }
    go false e h deeper = absurd (omega arith)

pub agreement_of_agree : (p : ℕ) (a b : List ℕ) → Agree p a b → p ≤ agreement a b
unfolding agreement
agreement_of_agree zero a b h = omega arith
agreement_of_agree (suc p) [] b h = absurd (omega arith)
agreement_of_agree (suc p) (x ∷ a) [] h = absurd (omega arith)
agreement_of_agree (suc p) (x ∷ a) (y ∷ b) h = go (eqb x y) refl (agreement_of_agree p a b)
  where
    heads : x ≡ y
    heads = cc h.same

    tails : take p a ≡ take p b
    tails = cc h.same

    go : (t : Bool) → eqb x y ≡ t → (Agree p a b → p ≤ agreement a b) → suc p ≤ elim t [ true ↦ suc (agreement a b) | false ↦ 0 ]
    go true e deeper = let d = deeper (record { left_long = omega arith; right_long = omega arith; same = tails }) in omega arith
    go false e deeper = absurd (eqb-false x y e heads)

pub agree_sym : {p : ℕ} {a b : List ℕ} → Agree p a b → Agree p b a
agree_sym h = record { left_long = h.right_long; right_long = h.left_long; same = sym h.same }

pub agree_trans : {p : ℕ} {a b c : List ℕ} → Agree p a b → Agree p b c → Agree p a c
agree_trans h k = record { left_long = h.left_long; right_long = k.right_long; same = h.same ∙ k.same }

module _ (strings : List (List ℕ)) where
  abbrev at : ℕ → List ℕ
  at k = string_of strings k

  abbrev pub agreed : ℕ → ℕ → ℕ
  agreed a b = agreement (at a) (at b)

  abbrev outdoes : ℕ → ℕ → Bool
  outdoes r q = ltb (agreed (pred r) r) (agreed q r)

  -- ---- One record: the test, and the paper's words

  -- q outdoes r - 1, so r - 1 stands between the two and differs
  breaks_by : (r q : ℕ) → q < r → agreed (pred r) r < agreed q r → Breaks strings r
  breaks_by r q below more =
      record {
        earlier = q;
        violated =
            record {
              p = agreed q r;
              m = pred r;
              after = apart (dec_lt q (pred r));
              before = omega arith;
              agree = whole;
              differ =
                  λ h. let n = agreement_of_agree (agreed q r) (at (pred r)) (at r) (agree_trans (agree_sym h) whole) in omega arith;
            };
      }
    where
      whole : Agree (agreed q r) (at q) (at r)
      whole = agree_within_agreement (agreed q r) (at q) (at r) (omega arith)

      apart : Dec (q < pred r) → q < pred r
      apart (yes l) = l
      apart (no d) =
          let e : q ≡ pred r = omega arith in
          let f : agreed q r ≡ agreed (pred r) r = ap (λ (k : ℕ). agreed k r) e in
          absurd (omega arith)

  breaks_of_test : (r : ℕ) → breaks_at strings r ≡ true → Breaks strings r
  unfolding breaks_at
  breaks_of_test r e = go (first (outdoes r) r) refl e
    where
      go : (o : Option ℕ) → first (outdoes r) r ≡ o → is_there o ≡ true → Breaks strings r
      go none f t = let z : ◌≡◌ {A = ℕ} 0 1 = cc in absurd (omega arith)
      go (some q) f t = let w = first_found (outdoes r) 0 r q f in breaks_by r q (omega arith) (ltb-true _ _ w.passes)

  quiet_of_test : (r : ℕ) → breaks_at strings r ≡ false → (q : ℕ) → q < r → agreed q r ≤ agreed (pred r) r
  unfolding breaks_at
  quiet_of_test r e = go (first (outdoes r) r) refl e
    where
      go : (o : Option ℕ) → first (outdoes r) r ≡ o → is_there o ≡ false → (q : ℕ) → q < r → agreed q r ≤ agreed (pred r) r
      go none f t q h = ltb-false _ _ (first_missing (outdoes r) 0 r f q (omega arith) (omega arith))
      go (some k) f t q h = let z : ◌≡◌ {A = ℕ} 0 1 = cc in absurd (omega arith)

  -- no record up to r - 1 breaks the grouping, and no earlier one outdoes r - 1: then r doesn't break it
  keeps : (r : ℕ) → ((k : ℕ) → k < r → Breaks strings k → ⊥) → ((q : ℕ) → q < r → agreed q r ≤ agreed (pred r) r) → Breaks strings r → ⊥
  keeps r before quiet b = go (dec_lt v.m (pred r))
    where
      q : ℕ
      q = b.earlier

      v : Violated strings r b.earlier
      v = b.violated

      here : Agree v.p (at q) (at (pred r))
      here =
          let n = agreement_of_agree v.p (at q) (at r) v.agree in
          let l = quiet q (omega arith) in
          agree_trans v.agree (agree_sym (agree_within_agreement v.p (at (pred r)) (at r) (omega arith)))

      go : Dec (v.m < pred r) → ⊥
      go (yes l) =
          before (pred r) (omega arith)
          (record { earlier = q; violated = record { p = v.p; m = v.m; after = v.after; before = l; agree = here; differ = v.differ } })
      go (no d) =
          let e : pred r ≡ v.m = omega arith in
          v.differ (subst (λ (k : ℕ). Agree v.p (at q) (at k)) e here)

  -- where the test passes no record below n, none of them breaks the grouping
  pub none_breaks : (n : ℕ) → ((k : ℕ) → k < n → breaks_at strings k ≡ false) → (k : ℕ) → k < n → Breaks strings k → ⊥
  none_breaks zero h k l b = omega arith
  none_breaks (suc n) h k l b = go (none_breaks n (λ j m. h j (omega arith))) (dec_lt k n)
    where
      go : ((j : ℕ) → j < n → Breaks strings j → ⊥) → Dec (k < n) → ⊥
      go below (yes m) = below k m b
      go below (no d) =
          let e : k ≡ n = omega arith in
          keeps n below (quiet_of_test n (h n (omega arith))) (subst (λ (j : ℕ). Breaks strings j) e b)

  -- ---- The first record that breaks the grouping

  pub first_to_break : (r : ℕ) → first_break strings ≡ some r → FirstToBreak strings r
  unfolding first_break
  first_to_break r e =
      let f = first_found (breaks_at strings) 0 (length strings) r e in
      record {
        there = omega arith;
        breaks = breaks_of_test r f.passes;
        none_before = none_breaks r (λ k l. f.earlier k (omega arith) l);
      }

  pub none_to_break : first_break strings ≡ none → (r : ℕ) → r < length strings → Breaks strings r → ⊥
  unfolding first_break
  none_to_break e = none_breaks (length strings) (λ k l. first_missing (breaks_at strings) 0 (length strings) e k (omega arith) (omega arith))

  pub first_break_is : (r : ℕ) → FirstToBreak strings r → first_break strings ≡ some r
  first_break_is r f = go (first_break strings) refl
    where
      same : (k : ℕ) → FirstToBreak strings k → Dec (k < r) → Dec (r < k) → k ≡ r
      same k g (yes l) d = absurd (f.none_before k l g.breaks)
      same k g (no a) (yes l) = absurd (g.none_before r l f.breaks)
      same k g (no a) (no b) = omega arith

      go : (o : Option ℕ) → first_break strings ≡ o → first_break strings ≡ some r
      go none e = absurd (none_to_break e r f.there f.breaks)
      go (some k) e = e ∙ ap some (same k (first_to_break k e) (dec_lt k r) (dec_lt r k))

  -- ---- The table is grouped just where the test finds no record

  pub grouped_of_none : first_break strings ≡ none → Grouped strings
  grouped_of_none e q m r p l u h a = go (dec_le p (agreed q m))
    where
      go : Dec (p ≤ agreed q m) → Agree p (at q) (at m)
      go (yes k) = agree_within_agreement p (at q) (at m) k
      go (no d) =
          absurd
          (none_to_break e r h
          (record {
            earlier = q;
            violated = record { p = p; m = m; after = l; before = u; agree = a; differ = λ b. d (agreement_of_agree p (at q) (at m) b) };
          }))

  pub none_of_grouped : Grouped strings → first_break strings ≡ none
  none_of_grouped g = go (first_break strings) refl
    where
      go : (o : Option ℕ) → first_break strings ≡ o → first_break strings ≡ none
      go none e = e
      go (some r) e =
          let f = first_to_break r e in
          let v = f.breaks.violated in
          absurd (v.differ (g f.breaks.earlier v.m r v.p v.after v.before f.there v.agree))
