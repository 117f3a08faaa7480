-- Collapsing, one lent character at a time: what is made of a character and the text after it in each of the four cases, and that a character written or
-- passed over leaves the rest of the work as it should be.
use Prim.Native.Nat.{ℕ, suc, ◌+◌, ◌-◌, ◌≤◌, ◌<◌}
use mathlib.Core.List.{List, [], ◌∷◌, ◌++◌, append-nil, append_assoc}
use mathlib.Core.Logic.{◌≢◌}
use mathlib.Core.Path.{◌≡◌, refl, sym, ◌∙◌, ap, subst}
use native.Mathlib.Numerals.{add-one, sub-one}
use native.Mathlib.Omega.{arith}
use lib.ListN.{length, get_or, drop, set, drop_of_length-le}
use lib.Seq.{drop-cons}
use borrow.Author.Tests.{eq-eqb, ne_eqb, lt-ltb, le-ltb}
use Rattle.std.specs.Prelude.{Option, Some, None, option_to_list}
use Rattle.table.specs.Numbers.{bar, blank}
use Rattle.translation.specs.Collapse.{unfed, unbarred, kept_after, thinned, collapsed}
use Rattle.translation.specs.inside.Making.{Thins, WroteUntil}
use Rattle.translation.specs.Numbers.{kept_blanks}
use Rattle.translation.proofs.Writing.{wrote_nothing, wrote_one, wrote_then, wrote_long}

-- ---- The four cases

module _ (c kept : ℕ) (text : List ℕ) where
  unbarred_other : c ≢ bar → unbarred (c ∷ text) ≡ unfed c ∷ unbarred text
  unfolding unbarred
  unbarred_other n = rw (ne_eqb c bar n, unbarred)

  pub bar_goes : c ≡ bar → thinned kept (unbarred (c ∷ text)) ≡ thinned kept (unbarred text)
  unfolding unbarred
  bar_goes e = rw (eq-eqb c bar e, unbarred)

  pub blank_goes : c ≢ bar → unfed c ≡ blank → kept ≡ 0 → thinned kept (unbarred (c ∷ text)) ≡ thinned kept (unbarred text)
  unfolding thinned
  blank_goes n b z = rw (unbarred_other n, eq-eqb (unfed c) blank b, le-ltb 0 kept (omega arith), thinned)

  pub blank_stays : c ≢ bar → unfed c ≡ blank → kept ≢ 0 → thinned kept (unbarred (c ∷ text)) ≡ unfed c ∷ thinned (kept - 1) (unbarred text)
  unfolding thinned
  blank_stays n b z = rw (unbarred_other n, eq-eqb (unfed c) blank b, lt-ltb 0 kept (omega arith), sub-one, thinned)

  pub other_stays : c ≢ bar → unfed c ≢ blank → thinned kept (unbarred (c ∷ text)) ≡ unfed c ∷ thinned (kept_after (unfed c)) (unbarred text)
  unfolding thinned
  other_stays n b = rw (unbarred_other n, ne_eqb (unfed c) blank b, thinned)

-- ---- The whole text

-- what is written, and then what is to come from place `i` on, is the collapsed text
pub record Collapsing (text before after : List ℕ) (n kept i : ℕ) : Type 0 where
  pub done : List ℕ
  pub wrote : WroteUntil before 0 done after n
  pub no_more : n ≤ i
  pub within : i ≤ length text
  pub whole : done ++ thinned kept (unbarred (drop i text)) ≡ collapsed text

pub collapsing_starts : (text before : List ℕ) → Collapsing text before before 0 kept_blanks 0
unfolding collapsed
collapsing_starts text before =
    record {
      done = [];
      wrote = wrote_nothing before 0 (omega arith);
      no_more = omega arith;
      within = omega arith;
      whole = refl;
    }

module _ {text before after : List ℕ} {n kept i : ℕ} (p : Collapsing text before after n kept i) where
  goes_on : {next : ℕ} (o : Option ℕ) → i < length text → Thins (get_or text i 0) kept o next
      → (p.done ++ option_to_list o) ++ thinned next (unbarred (drop (i + 1) text)) ≡ collapsed text
  goes_on o l t =
      rw (append_assoc, add-one) (ap (λ (l : List ℕ). p.done ++ l) (t.whole (drop (suc i) text)) ∙ rw (drop-cons text i 0 l) at p.whole)

  pub collapsing_writes : {next x : ℕ} → i < length text → length text ≤ length before → Thins (get_or text i 0) kept (Some x) next
      → Collapsing text before (set after n x) (n + 1) next (i + 1)
  collapsing_writes {next} {x} l room t =
      record {
        done = p.done ++ x ∷ [];
        wrote = wrote_then p.wrote (wrote_one after n x (let long = wrote_long p.wrote in let few = p.no_more in omega arith));
        no_more = let few = p.no_more in omega arith;
        within = omega arith;
        whole = goes_on (Some x) l t;
      }

  pub collapsing_passes : {next : ℕ} → i < length text → Thins (get_or text i 0) kept None next → Collapsing text before after n next (i + 1)
  collapsing_passes l t =
      record {
        done = p.done;
        wrote = p.wrote;
        no_more = let few = p.no_more in omega arith;
        within = omega arith;
        whole = rw append-nil at (goes_on None l t);
      }

  pub collapsing_ends : length text ≤ i → WroteUntil before 0 (collapsed text) after n
  unfolding thinned unbarred
  collapsing_ends l =
      subst (λ (xs : List ℕ). WroteUntil before 0 xs after n) (sym (append-nil p.done) ∙ rw (drop_of_length-le text l) at p.whole) p.wrote
