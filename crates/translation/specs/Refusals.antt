-- The lines of refusals 6, 7 and 15 in 'What comes back', in the paper's words: no search, 'first' is a quantifier.
use Rattle.std.specs.Prelude.{ℕ, ◌<◌, List, ◌≢◌, length, get_or}
use Rattle.table.specs.Numbers.{bar, most_text}
use Rattle.table.specs.Table.{Letter}
use Rattle.table.specs.Refusals.{HasLetter}
use Rattle.translation.specs.Collapse.{unfed}

-- 6: text over 16,384 bytes
abbrev pub TextTooLong : List ℕ → Type 0
TextTooLong text = most_text < length text

-- 7: at place `i` of the text as lent stands a character without alphabet record; a bar needs none, and a line feed counts as a blank
pub record UnknownAt (letters : List Letter) (text : List ℕ) (i : ℕ) : Type 0 where
  pub there : i < length text
  pub no_bar : get_or text i 0 ≢ bar
  pub no_letter_lem : HasLetter letters (unfed (get_or text i 0)) → ⊥

-- the first one
pub record FirstUnknownAt (letters : List Letter) (text : List ℕ) (i : ℕ) : Type 0 where
  pub unknown : UnknownAt letters text i
  pub none_before : (j : ℕ) → j < i → UnknownAt letters text j → ⊥

-- 15: the following symbol isn't in the alphabet
abbrev pub FollowingUnknown : List Letter → ℕ → Type 0
FollowingUnknown letters following = HasLetter letters following → ⊥
