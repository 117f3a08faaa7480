-- What the functions that read lines promise each other: what a line and a text come to as the definitions say it. No heading of docs/TABLES.md.
use Rattle.std.specs.Prelude.{ℕ, ◌≤◌, List, [], Option, None, Some, Result, Ok, Err, length, take, drop}
use Rattle.form.specs.Fields.{fields_of, sizes_of}
use Rattle.form.specs.Reading.{Line, nothing, says, unlike, Reading, good, bad}
use Rattle.form.specs.declared.Draft.{Draft}
use Rattle.form.specs.declared.Keyword.{Keyword}
use Rattle.form.specs.declared.Unlike.{Unlike}

-- ---- A line

-- with a record, which stands at the front of `rec`
abbrev pub said_line : Draft → Keyword → List ℕ → List ℕ → Result (Unit {0}) Unlike → Line
said_line d k line rec (Ok said) = says k (take (sizes_of (fields_of d k)) rec)
said_line d k line rec (Err u) = unlike u.expected (drop u.at line)

abbrev pub SaidWithin : List ℕ → Result (Unit {0}) Unlike → Type 0
SaidWithin line (Ok said) = Unit {0}
SaidWithin line (Err u) = u.at ≤ length line

-- with a record or nothing
abbrev pub told_line : Draft → List ℕ → List ℕ → Result (Option Keyword) Unlike → Line
told_line d line rec (Ok None) = nothing
told_line d line rec (Ok (Some k)) = says k (take (sizes_of (fields_of d k)) rec)
told_line d line rec (Err u) = unlike u.expected (drop u.at line)

abbrev pub ToldWithin : List ℕ → Result (Option Keyword) Unlike → Type 0
ToldWithin line (Ok told) = Unit {0}
ToldWithin line (Err u) = u.at ≤ length line

-- ---- The text

-- what a reading comes to, its bytes aside
abbrev pub walked_to : Reading → Result Draft Unlike
walked_to (good d body) = Ok d
walked_to (bad e at) = Err (record { expected = e; at = at })

-- the sections' bytes, none where the text isn't of the form
abbrev pub body_of : Reading → List ℕ
body_of (good d body) = body
body_of (bad e at) = []
