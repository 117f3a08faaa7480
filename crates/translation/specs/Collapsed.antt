-- 'Collapsing the text', in the paper's words and with no count of the blanks that may still be kept: each run of blanks stands there as a whole.
-- proofs/Collapsed.antt shows that `collapsed` is the text collapsed so, and that there is no other.
use Rattle.std.specs.Prelude.{ℕ, List, [], ◌∷◌, ◌++◌, ◌≢◌, ◌≡◌, take, replicate}
use Rattle.table.specs.Numbers.{blank, bar}
use Rattle.translation.specs.Numbers.{line_feed, period, kept_blanks, kept_after_period}

-- 'First `|` is dropped and line feed becomes a blank'
pub data Unbars : List ℕ → List ℕ → Type 0 where
  plain_end : Unbars [] []
  bar_dropped : {c : ℕ} {text plain : List ℕ} → c ≡ bar → Unbars text plain → Unbars (c ∷ text) plain
  line_feed_lem : {c : ℕ} {text plain : List ℕ} → c ≡ line_feed → Unbars text plain → Unbars (c ∷ text) (blank ∷ plain)
  as_it_was : {c : ℕ} {text plain : List ℕ} → c ≢ bar → c ≢ line_feed → Unbars text plain → Unbars (c ∷ text) (c ∷ plain)

-- 'Then in each run of blanks only the first is kept, or the first two where the run follows a period', of a text that begins with no blank: each
-- character that isn't blank is kept, and after it comes the run of all `n` blanks that stand there; where `n` is 0 there is no run
pub data RunsKept : List ℕ → List ℕ → Type 0 where
  runs_end : RunsKept [] []
  after_period : {c : ℕ} {text kept : List ℕ} (n : ℕ) → c ≡ period → RunsKept text kept
      → RunsKept (c ∷ replicate n blank ++ text) (c ∷ take kept_after_period (replicate n blank) ++ kept)
  after_other : {c : ℕ} {text kept : List ℕ} (n : ℕ) → c ≢ blank → c ≢ period → RunsKept text kept
      → RunsKept (c ∷ replicate n blank ++ text) (c ∷ take kept_blanks (replicate n blank) ++ kept)

-- and of any text: a run at its front follows no period
pub data BlanksKept : List ℕ → List ℕ → Type 0 where
  at_front : {text kept : List ℕ} (n : ℕ) → RunsKept text kept
      → BlanksKept (replicate n blank ++ text) (take kept_blanks (replicate n blank) ++ kept)

pub record Collapses (text kept : List ℕ) : Type 0 where
  pub plain : List ℕ
  pub first : Unbars text plain
  pub then : BlanksKept plain kept
