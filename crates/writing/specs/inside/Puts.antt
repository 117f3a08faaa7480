-- What the functions that write promise each other. No heading of docs/TABLES.md.
use Rattle.std.specs.Prelude.{ℕ, ◌+◌, ◌≤◌, ◌<◌, List, ◌≡◌, length, get_or}
use Rattle.table.specs.Numbers.{most_length}
use Rattle.table.specs.Sections.{offset, record_part}
use Rattle.table.specs.inside.Wrote.{Wrote}
use Rattle.table.specs.declared.Section.{Section}
use Rattle.table.specs.declared.Sections.{Sections}
use Rattle.form.specs.Fields.{fields_of, sizes_of}
use Rattle.form.specs.inside.Steps.{Modest}
use Rattle.form.specs.declared.Draft.{Draft}
use Rattle.form.specs.declared.Field.{Field}
use Rattle.form.specs.declared.Field.TheVariants.{Number, Symbol, Row, String, Classed, Shift, Tail}
use Rattle.form.specs.declared.Keyword.{Keyword}
use Rattle.form.specs.declared.Keyword.TheVariants.{Letter, Entry, Context, Transition, Decision}

-- these bytes are put from place `at` on, and `next` is the place after them; they are written where there is room for them all
pub record Puts (before : List ℕ) (at : ℕ) (bytes : List ℕ) (next : ℕ) (after : List ℕ) : Type 0 where
  pub goes : next ≡ at + length bytes
  pub writes : at + length bytes ≤ length before → Wrote before at bytes after

-- where the field is a string, its length is one of a string
abbrev pub Stringed : Field → List ℕ → ℕ → Type 0
Stringed (Number least most) bytes at = Unit {0}
Stringed Symbol bytes at = Unit {0}
Stringed (Row n) bytes at = Unit {0}
Stringed String bytes at = get_or bytes at 0 ≤ most_length
Stringed Classed bytes at = Unit {0}
Stringed Shift bytes at = Unit {0}
Stringed (Tail dated) bytes at = Unit {0}

-- a record that has the bytes of its fields, and as an entry a string's length
pub record Fitting (d : Draft) (k : Keyword) (bytes : List ℕ) : Type 0 where
  pub size : length bytes ≡ sizes_of (fields_of d k)
  pub string : k ≡ Entry → get_or bytes 0 0 ≤ most_length

-- all records of a section are such
pub record Sectioned (d : Draft) (k : Keyword) (image : List ℕ) (s : Section) : Type 0 where
  pub fits : (i : ℕ) → i < s.records → Fitting d k (record_part image s i 0 s.size)
  pub lies : (i : ℕ) → i < s.records → offset s i + s.size ≤ length image
  pub few : s.records ≤ 1199

-- and of all sections
pub record Showable (d : Draft) (image : List ℕ) (s : Sections) : Type 0 where
  pub modest : Modest d
  pub letters : Sectioned d Letter image s.alphabet
  pub entries : Sectioned d Entry image s.contractions
  pub contexts : Sectioned d Context image s.contexts
  pub transitions : Sectioned d Transition image s.transitions
  pub decisions : Sectioned d Decision image s.decisions
