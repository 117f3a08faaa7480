-- The collapsed text is what the paper's words say, and only it is. A run of blanks is thinned as a whole: as many of it are kept as may be, and what
-- comes after the run is kept as if none had stood there.
use Prim.Native.Nat.{ℕ, zero, suc}
use mathlib.Core.List.{List, [], ◌∷◌, ◌++◌}
use mathlib.Core.Path.{◌≡◌, refl, sym, ◌∙◌, ap, subst}
use native.Mathlib.Decide.{ℕ_discrete}
use native.Mathlib.Omega.{arith}
use lib.ListN.{take, replicate}
use borrow.Author.Tests.{eq-eqb, ne_eqb, lt-ltb}
use Rattle.table.specs.Numbers.{blank, bar}
use Rattle.translation.specs.Numbers.{line_feed, period, kept_blanks, kept_after_period}
use Rattle.translation.specs.Collapse.{unfed, unbarred, kept_after, thinned, collapsed}
use Rattle.translation.specs.Collapsed.{Unbars, plain_end, bar_dropped, line_feed_lem, as_it_was, RunsKept, runs_end, after_period, after_other, BlanksKept, at_front, Collapses}

-- ---- Bars and line feeds

unbarred_so : (text : List ℕ) → Unbars text (unbarred text)
unfolding unbarred unfed
unbarred_so [] = plain_end
unbarred_so (c ∷ text) = go (ℕ_discrete c bar) (ℕ_discrete c line_feed) (unbarred_so text)
  where
    go : Dec (c ≡ bar) → Dec (c ≡ line_feed) → Unbars text (unbarred text) → Unbars (c ∷ text) (unbarred (c ∷ text))
    go (yes b) feed later = rw (eq-eqb c bar b, unbarred) (bar_dropped b later)
    go (no b) (yes f) later = rw (ne_eqb c bar b, eq-eqb c line_feed f, unbarred) (line_feed_lem f later)
    go (no b) (no f) later = rw (ne_eqb c bar b, ne_eqb c line_feed f, unbarred) (as_it_was b f later)

unbars_is : {text plain : List ℕ} → Unbars text plain → unbarred text ≡ plain
unfolding unbarred unfed
unbars_is plain_end = refl
unbars_is (bar_dropped {c = c} b later) = rw (eq-eqb c bar b, unbarred) (unbars_is later)
unbars_is (line_feed_lem {c = c} f later) =
    rw (ne_eqb c bar (λ b. omega arith), eq-eqb c line_feed f, unbarred) (ap (λ (l : List ℕ). blank ∷ l) (unbars_is later))
unbars_is (as_it_was {c = c} b f later) = rw (ne_eqb c bar b, ne_eqb c line_feed f, unbarred) (ap (λ (l : List ℕ). c ∷ l) (unbars_is later))

-- ---- Runs of blanks

-- of a run as many are kept as may be, where what follows doesn't depend on how many
run_thinned : (k n : ℕ) (text : List ℕ) {kept : List ℕ} → ((m : ℕ) → thinned m text ≡ kept)
    → thinned k (replicate n blank ++ text) ≡ take k (replicate n blank) ++ kept
unfolding thinned
run_thinned zero zero text later = later zero
run_thinned (suc k) zero text later = later (suc k)
run_thinned zero (suc n) text later = run_thinned zero n text later
run_thinned (suc k) (suc n) text later = rw (lt-ltb 0 (suc k) (omega arith), thinned) (ap (λ (l : List ℕ). blank ∷ l) (run_thinned k n text later))

runs_is : {text kept : List ℕ} → RunsKept text kept → (k : ℕ) → thinned k text ≡ kept
unfolding thinned kept_after
runs_is runs_end k = refl
runs_is (after_period {c = c} {text = text} n p later) k =
    rw (ne_eqb c blank (λ b. omega arith), eq-eqb c period p, thinned)
    (ap (λ (l : List ℕ). c ∷ l) (run_thinned kept_after_period n text (λ m. runs_is later m)))
runs_is (after_other {c = c} {text = text} n b p later) k =
    rw (ne_eqb c blank b, ne_eqb c period p, thinned) (ap (λ (l : List ℕ). c ∷ l) (run_thinned kept_blanks n text (λ m. runs_is later m)))

blanks_is : {text kept : List ℕ} → BlanksKept text kept → thinned kept_blanks text ≡ kept
blanks_is (at_front {text = text} n later) = run_thinned kept_blanks n text (λ m. runs_is later m)

-- every text is a run of blanks at its front, of none perhaps, and then a text that begins with no blank
record Parted (text : List ℕ) : Type 0 where
  blanks : ℕ
  rest : List ℕ
  kept : List ℕ
  whole : replicate blanks blank ++ rest ≡ text
  runs : RunsKept rest kept

parted : (text : List ℕ) → Parted text
parted [] = record { blanks = 0; rest = []; kept = []; whole = refl; runs = runs_end }
parted (c ∷ text) = go (ℕ_discrete c blank) (ℕ_discrete c period) (parted text)
  where
    go : Dec (c ≡ blank) → Dec (c ≡ period) → Parted text → Parted (c ∷ text)
    go (yes b) dot p =
        record {
          blanks = suc p.blanks;
          rest = p.rest;
          kept = p.kept;
          whole = rw b (ap (λ (l : List ℕ). blank ∷ l) p.whole);
          runs = p.runs;
        }
    go (no b) (yes dot) p =
        record {
          blanks = 0;
          rest = c ∷ replicate p.blanks blank ++ p.rest;
          kept = c ∷ take kept_after_period (replicate p.blanks blank) ++ p.kept;
          whole = ap (λ (l : List ℕ). c ∷ l) p.whole;
          runs = after_period p.blanks dot p.runs;
        }
    go (no b) (no dot) p =
        record {
          blanks = 0;
          rest = c ∷ replicate p.blanks blank ++ p.rest;
          kept = c ∷ take kept_blanks (replicate p.blanks blank) ++ p.kept;
          whole = ap (λ (l : List ℕ). c ∷ l) p.whole;
          runs = after_other p.blanks b dot p.runs;
        }

thinned_so : (text : List ℕ) → BlanksKept text (thinned kept_blanks text)
thinned_so text = go (parted text)
  where
    go : Parted text → BlanksKept text (thinned kept_blanks text)
    go p =
        let front = at_front p.blanks p.runs in
        subst (λ (l : List ℕ). BlanksKept l (thinned kept_blanks l)) p.whole
        (subst (λ (l : List ℕ). BlanksKept (replicate p.blanks blank ++ p.rest) l) (sym (blanks_is front)) front)

-- ---- The whole

-- the text is collapsed as the paper says
pub collapsed_as_written : (text : List ℕ) → Collapses text (collapsed text)
unfolding collapsed
collapsed_as_written text = record { plain = unbarred text; first = unbarred_so text; then = thinned_so (unbarred text) }

collapses_is : {text kept : List ℕ} → Collapses text kept → collapsed text ≡ kept
unfolding collapsed
collapses_is c = ap (thinned kept_blanks) (unbars_is c.first) ∙ blanks_is c.then

-- no text collapses in two ways
pub collapsed_determined : {text kept others : List ℕ} → Collapses text kept → Collapses text others → kept ≡ others
collapsed_determined a b = sym (collapses_is a) ∙ collapses_is b
