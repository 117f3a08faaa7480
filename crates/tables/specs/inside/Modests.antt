-- What the functions that walk over the lines answer, in the definitions' words: a draft within the limits is the draft that it keeps. No heading of
-- docs/TABLES.md.
use Rattle.std.specs.Prelude.{ℕ, Result, Ok, Err}
use Rattle.form.specs.declared.Draft.{Draft}
use Rattle.form.specs.declared.Unlike.{Unlike}
use Rattle.tables.specs.declared.modest.ModestDraft.{ModestDraft}

-- what the text comes to
abbrev pub walked_in : Result ModestDraft Unlike → Result Draft Unlike
walked_in (Ok m) = Ok m.draft
walked_in (Err u) = Err u

-- what one line more comes to, and the place after its bytes
abbrev pub taken_in : Result (ModestDraft × ℕ) Unlike → Result (Draft × ℕ) Unlike
taken_in (Ok p) = Ok (p.0.draft, p.1)
taken_in (Err u) = Err u
