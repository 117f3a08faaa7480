-- The test `admissible` says what the paper's words say, part by part: the string begins the rest, the context, the conditions of a column, the
-- columns from the left. Each part's test tells what the words say, and the theorem puts the tests together.
use Prim.Native.Nat.{ℕ, pred}
use mathlib.Core.Bool.{Bool, true, false, false≢true, cond, not, ◌||◌}
use mathlib.Core.List.{List, [], ◌∷◌, ◌++◌}
use mathlib.Core.Logic.Iff
use mathlib.Core.Logic.{◌↔◌, ◌⊎◌, inl, inr, ⊎_elim}
use mathlib.Core.Path.{◌≡◌, refl, sym, ◌∙◌, ap, ap₂, subst}
use native.Mathlib.Omega.{arith}
use lib.Dec.{eqb}
use lib.ListN.{length, get_or}
use borrow.Author.Tests.{eqb-true, eqb-false, ne_eqb, not-true}
use Rattle.table.specs.Numbers.{no_context, accepts, rejects, byte_yes, byte_no, dash}
use Rattle.table.specs.Search.{member}
use Rattle.table.specs.Table.{Table, Entry, Column}
use Rattle.table.proofs.Lists.{StandsIn, member_law}
use Rattle.table.proofs.Tests.{Tells, clash, fails_law, tells_and, tells_or, tells_eq, tells_within, every_law}
use Rattle.translation.specs.Decide.{States, state, byte_of_class, condition_holds, conditions_hold, Ruling, accept, reject, next, ruling, decided}
use Rattle.translation.specs.Choose.{begins, class_after, context_holds, in_force, admissible}
use Rattle.translation.specs.Admissible.{
  ConditionMet,
  ConditionsMet,
  Accepts,
  dash_next,
  G-accepts,
  Y-accepts,
  Y-next,
  N-next,
  ContextAllows,
  no_context_lem,
  holds_class,
  Admissible,
}
use Rattle.translation.specs.declared.Setting.{Setting}

-- ---- The whole string begins the rest

record Follows (string rest : List ℕ) : Type 0 where
  after : List ℕ
  whole : rest ≡ string ++ after

begins_law : (string rest : List ℕ) → Tells (begins string rest) (Follows string rest)
unfolding begins
begins_law [] rest = (λ _. record { after = rest; whole = refl }, λ _. refl)
begins_law (c ∷ string) [] = (λ e. absurd (false≢true e), λ f. let n = ap length f.whole in absurd (omega arith))
begins_law (c ∷ string) (x ∷ rest) =
    Iff.trans (tells_and (tells_eq c x) (begins_law string rest)) (
      λ h. record { after = h.1.after; whole = ap₂ ◌∷◌ (sym h.0) h.1.whole },
      λ f. (cc f.whole, record { after = f.after; whole = cc f.whole }),
    )

-- ---- The right context

context_law : (contexts : List (List ℕ)) (n c : ℕ)
    → Tells (eqb n no_context || member c (get_or contexts (pred n) [])) (ContextAllows contexts n c)
context_law contexts n c =
    Iff.trans (tells_or (tells_eq n no_context) (member_law c (get_or contexts (pred n) [])))
    (⊎_elim no_context_lem (λ s. holds_class s.at s.there s.same), either)
  where
    either : ContextAllows contexts n c → (n ≡ no_context) ⊎ StandsIn c (get_or contexts (pred n) [])
    either (no_context_lem e) = inl e
    either (holds_class i l e) = inr (record { at = i; there = l; same = e })

-- ---- The conditions of a column

condition_law : (b : ℕ) (was : Bool) → Tells (condition_holds b was) (ConditionMet b was)
unfolding condition_holds
condition_law b was = (
  λ t.
      record {
        yes_state = λ h. subst (λ (x : ℕ). condition_holds x was ≡ true) h t;
        no_state = λ h. not-true was (subst (λ (x : ℕ). condition_holds x was ≡ true) h t);
      },
  λ met. go met (eqb b byte_yes) (eqb b byte_no) refl refl,
)
  where
    go : ConditionMet b was → (y n : Bool) → eqb b byte_yes ≡ y → eqb b byte_no ≡ n → cond y was (cond n (not was) true) ≡ true
    go met true n e f = met.yes_state (eqb-true b byte_yes e)
    go met false true e f = ap not (met.no_state (eqb-true b byte_no f))
    go met false false e f = refl

conditions_law : (column : Column) (states : States) → Tells (conditions_hold column states) (ConditionsMet column states)
unfolding conditions_hold
conditions_law column states =
    Iff.trans (every_law (λ v. condition_holds (get_or column.conditions v dash) (state states v)) (length column.conditions))
    (λ h v l. (condition_law _ _).0 (h v l), λ met v l. (condition_law _ _).1 (met v l))

-- ---- The columns from the left

module _ (states : States) (c : ℕ) where
  abbrev by : List Column → Ruling → Bool
  by columns r = elim r [ accept ↦ true | reject ↦ false | next ↦ decided columns states c ]

  decided_true : (columns : List Column) → decided columns states c ≡ true → Accepts states c columns
  unfolding decided ruling
  decided_true [] e = absurd (clash e refl)
  decided_true (column ∷ columns) e =
      go (eqb b accepts) (eqb b rejects) (eqb b byte_yes) (eqb b byte_no) (conditions_hold column states) refl refl refl refl refl e
      (decided_true columns)
    where
      b : ℕ
      b = byte_of_class column.by_class c

      unmet : conditions_hold column states ≡ false → ConditionsMet column states → ⊥
      unmet = (fails_law (conditions_law column states)).0

      go : (g f y n k : Bool) → eqb b accepts ≡ g → eqb b rejects ≡ f → eqb b byte_yes ≡ y → eqb b byte_no ≡ n → conditions_hold column states ≡ k
          → by columns (cond g accept (cond f reject (cond y (cond k accept next) (cond n (cond k reject next) next)))) ≡ true
          → (decided columns states c ≡ true → Accepts states c columns) → Accepts states c (column ∷ columns)
      go true f y n k eg ef ey en ek e later = G-accepts (eqb-true b accepts eg)
      go false true y n k eg ef ey en ek e later = absurd (clash e refl)
      go false false true n true eg ef ey en ek e later = Y-accepts (eqb-true b byte_yes ey) ((conditions_law column states).0 ek)
      go false false true n false eg ef ey en ek e later = Y-next (eqb-true b byte_yes ey) (unmet ek) (later e)
      go false false false true true eg ef ey en ek e later = absurd (clash e refl)
      go false false false true false eg ef ey en ek e later = N-next (eqb-true b byte_no en) (unmet ek) (later e)
      go false false false false k eg ef ey en ek e later =
          dash_next
          (record {
            not_accepts = eqb-false b accepts eg;
            not_rejects = eqb-false b rejects ef;
            not_yes = eqb-false b byte_yes ey;
            not_no = eqb-false b byte_no en;
          })
          (later e)

  accepted_here : (column : Column) (columns : List Column) → ruling column states c ≡ accept → decided (column ∷ columns) states c ≡ true
  unfolding decided
  accepted_here column columns e = ap (by columns) e

  accepted_later : (column : Column) (columns : List Column) → ruling column states c ≡ next → decided columns states c ≡ true
      → decided (column ∷ columns) states c ≡ true
  unfolding decided
  accepted_later column columns e t = ap (by columns) e ∙ t

  decided_of : {columns : List Column} → Accepts states c columns → decided columns states c ≡ true
  unfolding ruling
  decided_of (dash_next d later) =
      accepted_later _ _
      (rw (ne_eqb _ _ d.not_accepts, ne_eqb _ _ d.not_rejects, ne_eqb _ _ d.not_yes, ne_eqb _ _ d.not_no)) (decided_of later)
  decided_of (G-accepts h) = accepted_here _ _ (rw h)
  decided_of (Y-accepts {column = column} h met) = accepted_here _ _ (rw (h, (conditions_law column states).1 met))
  decided_of (Y-next {column = column} h unmet later) = accepted_later _ _ (rw (h, (fails_law (conditions_law column states)).1 unmet)) (decided_of later)
  decided_of (N-next {column = column} h unmet later) = accepted_later _ _ (rw (h, (fails_law (conditions_law column states)).1 unmet)) (decided_of later)

-- ---- The whole

pub admissible_as_written : (table : Table) (setting : Setting) (states : States) (rest : List ℕ) (e : Entry)
    → (admissible table setting states rest e ≡ true) ↔ Admissible table setting states rest e
unfolding admissible in_force context_holds class_after
admissible_as_written table setting states rest e =
    Iff.trans
    (tells_and
    (tells_and (tells_and (begins_law e.string rest) (tells_within e.first e.last setting.year))
    (context_law table.contexts e.context (class_after table setting rest (length e.string))))
    (decided_true states e.class table.decisions, decided_of states e.class)) (
      λ h. record { after = h.0.0.0.after; begins = h.0.0.0.whole; in_force_lem = h.0.0.1; context = h.0.1; accepted = h.1 },
      λ a. (((record { after = a.after; whole = a.begins }, a.in_force_lem), a.context), a.accepted),
    )
