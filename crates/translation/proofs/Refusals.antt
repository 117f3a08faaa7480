-- Refusals 7 and 15: the search for the first unknown character of the text as lent answers exactly what the paper's words say, and so does the look at
-- the symbol that follows it.
use Prim.Native.Nat.{ℕ, ◌<◌}
use mathlib.Core.Bool.{Bool, false≢true}
use mathlib.Core.List.{List}
use mathlib.Core.Logic.Iff
use mathlib.Core.Logic.{◌↔◌, ◌≢◌}
use mathlib.Core.Option.{Option, none, some}
use mathlib.Core.Path.{◌≡◌, refl, sym, ◌∙◌, ap, subst}
use native.Mathlib.Omega.{arith}
use lib.Dec.{eqb}
use lib.ListN.{length, get_or}
use borrow.Author.Tests.{eqb-true, eq-eqb}
use Rattle.table.specs.Numbers.{bar}
use Rattle.table.specs.Search.{first, is_there}
use Rattle.table.specs.Table.{Letter, Table}
use Rattle.table.specs.Refusals.{HasLetter}
use Rattle.table.specs.Sound.{Sound}
use Rattle.table.proofs.Lists.{get_or_there}
use Rattle.table.proofs.Search.{first_found, first_missing, first_is, first_is_not}
use Rattle.table.proofs.Tests.{Tells, clash, fails_law, tells_and, tells_not, tells_eq}
use Rattle.translation.specs.Numbers.{line_feed}
use Rattle.translation.specs.Collapse.{unfed}
use Rattle.translation.specs.Letters.{no_letter, letter, letter_of, is_known, is_unknown, first_unknown}
use Rattle.translation.specs.Refusals.{UnknownAt, FirstUnknownAt}

module _ (letters : List Letter) where
  -- ---- The record of a character

  -- the search finds one just where there is one
  pub letter_law : (c : ℕ) → Tells (is_there (letter_of letters c)) (HasLetter letters c)
  unfolding letter_of
  letter_law c = go (letter_of letters c) refl
    where
      has : ℕ → Bool
      has k = eqb (letter letters k).symbol c

      go : (o : Option ℕ) → first has (length letters) ≡ o → Tells (is_there o) (HasLetter letters c)
      go none e = (
        λ t. absurd (false≢true t),
        λ h. absurd (clash (eq-eqb _ _ (h.same no_letter)) (first_missing has 0 (length letters) e h.at (omega arith) (omega arith))),
      )
      go (some k) e =
          let f = first_found has 0 (length letters) k e in
          let there : k < length letters = omega arith in (
            λ _.
                record {
                  at = k;
                  there = there;
                  same = λ d. ap (λ (x : Letter). x.symbol) (get_or_there letters k d no_letter there) ∙ eqb-true _ _ f.passes;
                },
            λ _. refl,
          )

  -- 15 exactly where the following symbol isn't in the alphabet
  pub known_exactly_when : (c : ℕ) → Tells (is_known letters c) (HasLetter letters c)
  unfolding is_known
  known_exactly_when c = letter_law c

  -- ---- One character

  unknown_law : (text : List ℕ) (i : ℕ) → i < length text → Tells (is_unknown letters (get_or text i 0)) (UnknownAt letters text i)
  unfolding is_unknown
  unknown_law text i l =
      Iff.trans (tells_and (tells_not (tells_eq (get_or text i 0) bar)) (tells_not (letter_law (unfed (get_or text i 0)))))
      (λ h. record { there = l; no_bar = h.0; no_letter_lem = h.1 }, λ u. (u.no_bar, u.no_letter_lem))

  -- ---- The first

  pub unknown_exactly_when : (text : List ℕ) (i : ℕ) → (first_unknown letters text ≡ some i) ↔ FirstUnknownAt letters text i
  unfolding first_unknown
  unknown_exactly_when text i = (
    λ e.
        let f = first_found (λ j. is_unknown letters (get_or text j 0)) 0 (length text) i e in
        record {
          unknown = (unknown_law text i (omega arith)).0 f.passes;
          none_before = λ j l u. clash ((unknown_law text j u.there).1 u) (f.earlier j (omega arith) l);
        },
    λ u.
        first_is (λ j. is_unknown letters (get_or text j 0)) 0 (length text) i
        (record {
          low = omega arith;
          high = omega arith;
          passes = (unknown_law text i u.unknown.there).1 u.unknown;
          earlier = λ j l h. (fails_law (unknown_law text j (omega arith))).1 (u.none_before j h);
        }),
  )

  pub none_unknown_exactly_when : (text : List ℕ) → (first_unknown letters text ≡ none) ↔ ((i : ℕ) → UnknownAt letters text i → ⊥)
  unfolding first_unknown
  none_unknown_exactly_when text = (
    λ e i u.
        clash ((unknown_law text i u.there).1 u)
        (first_missing (λ j. is_unknown letters (get_or text j 0)) 0 (length text) e i (omega arith) (omega arith)),
    λ known. first_is_not (λ j. is_unknown letters (get_or text j 0)) 0 (length text) (λ j l h. (fails_law (unknown_law text j (omega arith))).1 (known j)),
  )

-- a sound table has the blank, so a line feed is never unknown
pub line_feed_known : {classes variables : ℕ} {table : Table} {text : List ℕ} {i : ℕ} → Sound classes variables table
    → UnknownAt table.letters text i → get_or text i 0 ≢ line_feed
unfolding unfed
line_feed_known {table} sound u e = u.no_letter_lem (subst (HasLetter table.letters) (sym (ap unfed e)) sound.blank_known)
