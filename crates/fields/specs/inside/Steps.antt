-- What reading fields comes to: the bytes that were read, and the place where the line goes on, within it. No heading of docs/TABLES.md.
use Rattle.std.specs.Prelude.{ℕ, ◌≤◌, List, Result, Ok, Err, length, drop}
use Rattle.form.specs.Words.{Read, got, wrong}
use Rattle.form.specs.declared.Unlike.{Unlike}

-- ---- Fields, whose bytes are these, and where the line goes on

abbrev pub Step : Type 0
Step = Result ℕ Unlike

abbrev pub step_read : List ℕ → List ℕ → Step → Read
step_read line bytes (Ok at) = got bytes (drop at line)
step_read line bytes (Err u) = wrong u.expected (drop u.at line)

abbrev pub StepWithin : List ℕ → Step → Type 0
StepWithin line (Ok at) = at ≤ length line
StepWithin line (Err u) = u.at ≤ length line
