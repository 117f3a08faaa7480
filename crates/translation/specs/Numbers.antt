-- The numbers of document 01 for the text, each said once: 'Collapsing the text'.
use Rattle.std.specs.Prelude.{ℕ}

abbrev pub line_feed : ℕ
line_feed = 10

abbrev pub period : ℕ
period = 46

-- how many blanks of a run are kept, and how many where the run follows a period
abbrev pub kept_blanks : ℕ
kept_blanks = 1

abbrev pub kept_after_period : ℕ
kept_after_period = 2
