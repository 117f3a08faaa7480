-- What `fill` promises, as a relation between what it is given and what it answers. proofs/Promises.antt shows that any two results that it allows are equal.
use Rattle.std.specs.Prelude.{ℕ, true, false, List, [], ◌≡◌, Ok, Err, leb, take, drop}
use Rattle.form.specs.Words.{Read, wrong}
use Rattle.form.specs.Fields.{fields_of, sizes_of, read_fields}
use Rattle.form.specs.declared.Draft.{Draft}
use Rattle.form.specs.declared.Expected.TheVariants as expected
use Rattle.form.specs.declared.Keyword.{Keyword}
use Rattle.fields.specs.inside.Steps.{Step, step_read, StepWithin}

-- the bytes of a record, of which no line of a table has more
abbrev pub record_room : ℕ
record_room = 64

-- what the fields of a line read as; none that has more bytes than a record is of the form
unfoldable pub fields_read : Draft → Keyword → List ℕ → Read
fields_read d k rest =
    elim (leb (sizes_of (fields_of d k)) record_room) [ true ↦ read_fields (fields_of d k) [] rest | false ↦ wrong expected.Fewer rest ]

-- what is left of the record: beyond the `n` bytes of the fields all, and where they aren't of the form all
abbrev pub Leaves : ℕ → List ℕ → List ℕ → Step → Type 0
Leaves n before after (Ok at) = drop n after ≡ drop n before
Leaves n before after (Err u) = after ≡ before

-- `fill`: the bytes of the fields from place `at` of the line on stand at the front of the record, and the answer is where the line goes on; or what was
-- expected, and where
pub record Fills (d : Draft) (k : Keyword) (line : List ℕ) (at : ℕ) (before : List ℕ) (answer : Step) (after : List ℕ) : Type 0 where
  pub reads : step_read line (take (sizes_of (fields_of d k)) after) answer ≡ fields_read d k (drop at line)
  pub within : StepWithin line answer
  pub leaves : Leaves (sizes_of (fields_of d k)) before after answer
