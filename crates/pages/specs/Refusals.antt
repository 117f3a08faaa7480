-- The line of refusal 5 in 'What comes back', in the paper's words.
use Rattle.std.specs.Prelude.{ℕ, ◌<◌, ◌⊎◌}
use Rattle.pages.specs.Numbers.{least_width, most_width, least_length, most_length}
use Rattle.pages.specs.declared.Sheet.{Sheet}

-- outside the limits
abbrev pub Outside : ℕ → ℕ → ℕ → Type 0
Outside least most n = (n < least) ⊎ (most < n)

-- 5: W or P outside its limits
abbrev pub SizesWrong : Sheet → Type 0
SizesWrong sheet = Outside least_width most_width sheet.width ⊎ Outside least_length most_length sheet.length
