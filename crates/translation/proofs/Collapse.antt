-- Collapsing adds nothing: the collapsed text is made of lent characters in their order, none of them a bar, a line feed as a blank. So it is no
-- longer than the text, and where no lent character is unknown each of its characters has an alphabet record.
use Prim.Native.Nat.{ℕ, zero, suc, pred, ◌≤◌, ◌<◌}
use mathlib.Core.Bool.{Bool, true, false}
use mathlib.Core.List.{List, [], ◌∷◌}
use mathlib.Core.Logic.{◌≢◌}
use mathlib.Core.Path.{◌≡◌, refl}
use native.Mathlib.Omega.{arith}
use lib.Dec.{eqb, ltb}
use lib.ListN.{length, get_or}
use borrow.Author.Tests.{eqb-false}
use Rattle.table.specs.Numbers.{bar, blank}
use Rattle.table.specs.Table.{Letter}
use Rattle.table.specs.Refusals.{HasLetter}
use Rattle.table.proofs.Tests.{decided_by}
use Rattle.translation.specs.Numbers.{kept_blanks}
use Rattle.translation.specs.Collapse.{unfed, unbarred, kept_after, thinned, collapsed}
use Rattle.translation.specs.Refusals.{UnknownAt}
use Rattle.translation.proofs.Refusals.{letter_law}

-- ---- Lent characters, kept in their order

-- some characters of the text, in its order: none of them a bar, a line feed as a blank
pub data Keeps : List ℕ → List ℕ → Type 0 where
  ends : Keeps [] []
  drops : {c : ℕ} {text kept : List ℕ} → Keeps text kept → Keeps (c ∷ text) kept
  keeps : {c : ℕ} {text kept : List ℕ} → c ≢ bar → Keeps text kept → Keeps (c ∷ text) (unfed c ∷ kept)

unbarred_keeps : (text : List ℕ) → Keeps text (unbarred text)
unfolding unbarred
unbarred_keeps [] = ends
unbarred_keeps (c ∷ text) = go (eqb c bar) refl (unbarred_keeps text)
  where
    go : (b : Bool) → eqb c bar ≡ b → Keeps text (unbarred text)
        → Keeps (c ∷ text) (elim b [ true ↦ unbarred text | false ↦ unfed c ∷ unbarred text ])
    go true e k = drops k
    go false e k = keeps (eqb-false c bar e) k

thinned_keeps : {text kept : List ℕ} → Keeps text kept → (n : ℕ) → Keeps text (thinned n kept)
unfolding thinned
thinned_keeps ends n = ends
thinned_keeps (drops k) n = drops (thinned_keeps k n)
thinned_keeps (keeps {c = c} {text = text} {kept = kept} no_bar k) n = go (eqb (unfed c) blank) (ltb 0 n) (λ m. thinned_keeps k m)
  where
    go : (b t : Bool) → ((m : ℕ) → Keeps text (thinned m kept))
        → Keeps (c ∷ text)
        (elim b [
          | true ↦ elim t [ true ↦ unfed c ∷ thinned (pred n) kept | false ↦ thinned n kept ]
          | false ↦ unfed c ∷ thinned (kept_after (unfed c)) kept
        ])
    go true true later = keeps no_bar (later (pred n))
    go true false later = drops (later n)
    go false t later = keeps no_bar (later (kept_after (unfed c)))

pub collapsed_keeps : (text : List ℕ) → Keeps text (collapsed text)
unfolding collapsed
collapsed_keeps text = thinned_keeps (unbarred_keeps text) kept_blanks

-- ---- What follows of it

keeps_at_most : {text kept : List ℕ} → Keeps text kept → length kept ≤ length text
keeps_at_most ends = omega arith
keeps_at_most (drops k) = let h = keeps_at_most k in omega arith
keeps_at_most (keeps no_bar k) = let h = keeps_at_most k in omega arith

pub collapsed_at_most : (text : List ℕ) → length (collapsed text) ≤ length text
collapsed_at_most text = keeps_at_most (collapsed_keeps text)

-- the character stands in the text as lent, and is no bar; a line feed is a blank
pub record Lent (text : List ℕ) (c : ℕ) : Type 0 where
  pub at : ℕ
  pub there : at < length text
  pub no_bar : get_or text at 0 ≢ bar
  pub same : c ≡ unfed (get_or text at 0)

later_lent : {x : ℕ} {text : List ℕ} {c : ℕ} → Lent text c → Lent (x ∷ text) c
later_lent l = record { at = suc l.at; there = omega arith; no_bar = l.no_bar; same = l.same }

keeps_lent : {text kept : List ℕ} → Keeps text kept → (i : ℕ) → i < length kept → Lent text (get_or kept i 0)
keeps_lent ends i l = absurd (omega arith)
keeps_lent (drops k) i l = later_lent (keeps_lent k i l)
keeps_lent (keeps no_bar k) zero l = record { at = 0; there = omega arith; no_bar = no_bar; same = refl }
keeps_lent (keeps no_bar k) (suc i) l = later_lent (keeps_lent k i (omega arith))

pub collapsed_lent : (text : List ℕ) (i : ℕ) → i < length (collapsed text) → Lent text (get_or (collapsed text) i 0)
collapsed_lent text = keeps_lent (collapsed_keeps text)

-- every remaining character has its alphabet record, where no lent one is unknown
pub collapsed_known : (letters : List Letter) (text : List ℕ) → ((i : ℕ) → UnknownAt letters text i → ⊥) → (i : ℕ) → i < length (collapsed text)
    → HasLetter letters (get_or (collapsed text) i 0)
collapsed_known letters text known i l = go (decided_by (letter_law letters (get_or (collapsed text) i 0)))
  where
    lent : Lent text (get_or (collapsed text) i 0)
    lent = collapsed_lent text i l

    go : Dec (HasLetter letters (get_or (collapsed text) i 0)) → HasLetter letters (get_or (collapsed text) i 0)
    go (yes h) = h
    go (no n) = absurd (known lent.at (record { there = lent.there; no_bar = lent.no_bar; no_letter_lem = rw lent.same at n }))
