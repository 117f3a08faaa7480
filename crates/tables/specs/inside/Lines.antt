-- What the walk over the lines of a text goes by: where a line ends, and what one line makes of the draft and of the output. No heading of docs/TABLES.md.
use Rattle.std.specs.Prelude.{ℕ, suc, ◌+◌, ◌-◌, true, false, List, [], ◌∷◌, ◌≡◌, Result, Ok, Err, eqb, length, get_or, drop}
use Rattle.form.specs.Numbers.{line_feed}
use Rattle.form.specs.Reading.{Line, nothing, says, unlike, with_line, image_bytes, reading}
use Rattle.tables.specs.inside.Steps.{walked_to}
use Rattle.form.specs.declared.Draft.{Draft}
use Rattle.form.specs.declared.Unlike.{Unlike}

-- the characters of the first line
unfoldable pub first_line : List ℕ → ℕ
first_line [] = 0
first_line (c ∷ cs) = elim (eqb c line_feed) [ true ↦ 0 | false ↦ suc (first_line cs) ]

-- where the line that starts at `at` ends
unfoldable pub line_end : List ℕ → ℕ → ℕ
line_end text at = at + first_line (drop at text)

-- the bytes that a line gives
abbrev pub line_bytes : Line → List ℕ
line_bytes nothing = []
line_bytes (says k bytes) = image_bytes k bytes
line_bytes (unlike e rest) = []

-- the draft with it, and the place after its bytes
abbrev pub taken : Draft → List ℕ → ℕ → Line → Result (Draft × ℕ) Unlike
taken d line to nothing = Ok (d, to)
taken d line to (says k bytes) = Ok (with_line d k (get_or bytes 0 0), to + length (image_bytes k bytes))
taken d line to (unlike e rest) = Err (record { expected = e; at = length line - length rest })

-- the text is of the form, and comes to this draft
pub record Drafted (text : List ℕ) (d : Draft) : Type 0 where
  pub comes : walked_to (reading text) ≡ Ok d
