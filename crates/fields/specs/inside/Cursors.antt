-- What the functions that read a field from a cursor promise each other: the bytes that were read, and the cursor where the line goes on. No heading of
-- docs/TABLES.md.
use Rattle.std.specs.Prelude.{ℕ, true, false, ◌≤◌, ◌≡◌, List, [], ◌∷◌, Result, Ok, Err, length, take, drop}
use Rattle.form.specs.Words.{Read, got, wrong, ends_word}
use Rattle.form.specs.declared.Expected.TheVariants as expected
use Rattle.form.specs.declared.Unlike.{Unlike}
use Rattle.fields.specs.declared.cursor.Cursor.{Cursor}

-- what is left of the line from there on
abbrev pub rest_at : Cursor → List ℕ
rest_at c = drop c.at c.line.now

-- ---- A value, and where the line goes on

abbrev pub Value : Type 0
Value = Result (ℕ × Cursor) Unlike

abbrev pub value_read : List ℕ → Value → Read
value_read line (Ok v) = got (v.0 ∷ []) (rest_at v.1)
value_read line (Err u) = wrong u.expected (drop u.at line)

-- the value is no more than `most`, and it is the same line that goes on
abbrev pub ValueWithin : ℕ → List ℕ → Value → Type 0
ValueWithin most line (Ok v) = (v.0 ≤ most) × (v.1.line.now ≡ line)
ValueWithin most line (Err u) = u.at ≤ length line

-- what was read from there on
abbrev pub ReadsValue : ℕ → Cursor → Read → Value → Type 0
ReadsValue most from read value = (value_read from.line.now value ≡ read) × ValueWithin most from.line.now value

-- a value that is a byte
abbrev pub ByteValue : Value → Type 0
ByteValue (Ok v) = v.0 ≤ 255
ByteValue (Err u) = Unit {0}

-- that a word ends there
abbrev pub WordEnded : Cursor → Result (Unit {0}) Unlike → Type 0
WordEnded from (Ok done) = ends_word (rest_at from) ≡ true
WordEnded from (Err u) = (ends_word (rest_at from) ≡ false) × (u ≡ record { expected = expected.WordEnd; at = from.at })

-- ---- Symbols, which go to the front of these bytes

abbrev pub Run : Type 0
Run = Result (ℕ × Cursor) Unlike

abbrev pub run_read : List ℕ → List ℕ → Run → Read
run_read line bytes (Ok run) = got (take run.0 bytes) (rest_at run.1)
run_read line bytes (Err u) = wrong u.expected (drop u.at line)

abbrev pub RunWithin : ℕ → List ℕ → Run → Type 0
RunWithin most line (Ok run) = (run.0 ≤ most) × (run.1.line.now ≡ line)
RunWithin most line (Err u) = u.at ≤ length line

-- what was read from there on
abbrev pub ReadsRun : ℕ → Cursor → Read → List ℕ → Run → Type 0
ReadsRun most from read bytes run = (run_read from.line.now bytes run ≡ read) × RunWithin most from.line.now run

-- ---- A field, whose bytes are these, and where the line goes on

abbrev pub Advance : Type 0
Advance = Result Cursor Unlike

abbrev pub advance_read : List ℕ → List ℕ → Advance → Read
advance_read line bytes (Ok next) = got bytes (rest_at next)
advance_read line bytes (Err u) = wrong u.expected (drop u.at line)

abbrev pub AdvanceWithin : List ℕ → Advance → Type 0
AdvanceWithin line (Ok next) = next.line.now ≡ line
AdvanceWithin line (Err u) = u.at ≤ length line

-- what was read from there on
abbrev pub ReadsField : Cursor → Read → List ℕ → Advance → Type 0
ReadsField from read bytes next = (advance_read from.line.now bytes next ≡ read) × AdvanceWithin from.line.now next

-- a value of one byte as a field
abbrev pub byte_read : List ℕ → Value → Advance → List ℕ → Type 0
byte_read before (Ok v) next after = (next ≡ Ok v.1) × (after ≡ v.0 ∷ [])
byte_read before (Err u) next after = (next ≡ Err u) × (after ≡ before)
