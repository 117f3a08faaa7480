-- Any two results that a promise allows are equal; and what `fill` promises a table's line, whose record has room for its fields.
use Prim.Native.Nat.{ℕ, ◌≤◌, ◌<◌}
use mathlib.Core.List.{List, [], ◌++◌}
use mathlib.Core.Path.{◌≡◌, refl, sym, ◌∙◌, ap}
use native.Mathlib.Omega.{arith}
use borrow.Author.Tests.{le-leb, lt-leb}
use lib.ListN.{length, take, drop, take-append-drop}
use Rattle.form.specs.Words.{Read, got, wrong}
use Rattle.form.specs.Fields.{fields_of, sizes_of, read_fields}
use Rattle.form.specs.inside.Steps.{Modest}
use Rattle.form.specs.declared.Draft.{Draft}
use Rattle.form.specs.declared.Expected.{Expected}
use Rattle.form.specs.declared.Expected.TheVariants as expected
use Rattle.form.specs.declared.Keyword.{Keyword}
use Rattle.form.proofs.Promises.{place_determined}
use Rattle.form.proofs.Sizes.{record_small}
use Rattle.fields.specs.Promises.{record_room, fields_read, Leaves, Fills}
use Rattle.std.specs.Prelude.{Ok, Err}
use Rattle.fields.specs.inside.Steps.{Step, step_read, StepWithin}

-- a record is known by its first `n` bytes and the others
by_parts : (n : ℕ) (x y : List ℕ) → take n x ≡ take n y → drop n x ≡ drop n y → x ≡ y
by_parts n x y front rest = sym (take-append-drop n x) ∙ ap (λ (r : List ℕ). r ++ drop n x) front ∙ ap (λ (r : List ℕ). take n y ++ r) rest ∙ take-append-drop n y

filled_once : (n : ℕ) (line before : List ℕ) (read : Read) (a b : Step) (x y : List ℕ) → step_read line (take n x) a ≡ read → StepWithin line a → Leaves n before x a
    → step_read line (take n y) b ≡ read → StepWithin line b → Leaves n before y b → (a ≡ b) × (x ≡ y)
filled_once n line before read (Ok i) (Ok j) x y p v l q w m =
    let both = p ∙ sym q in
    let rest : drop i line ≡ drop j line = cc in
    let front : take n x ≡ take n y = cc in
    (ap Ok (place_determined line v w rest), by_parts n x y front (l ∙ sym m))
filled_once n line before read (Ok i) (Err u) x y p v l q w m =
    let both = p ∙ sym q in
    let never : ◌≡◌ {A = ℕ} 0 1 = cc in
    absurd (omega arith)
filled_once n line before read (Err u) (Ok j) x y p v l q w m =
    let both = p ∙ sym q in
    let never : ◌≡◌ {A = ℕ} 0 1 = cc in
    absurd (omega arith)
filled_once n line before read (Err u) (Err t) x y p v l q w m =
    let both = p ∙ sym q in
    let rest : drop u.at line ≡ drop t.at line = cc in
    let place : u.at ≡ t.at = place_determined line v w rest in
    let same : u.expected ≡ t.expected = cc in
    (λ i. Err (record { expected = same i; at = place i }), l ∙ sym m)

pub fill_determined : (d : Draft) (k : Keyword) (line : List ℕ) (at : ℕ) (before : List ℕ) {a b : Step} {x y : List ℕ} → Fills d k line at before a x
    → Fills d k line at before b y → (a ≡ b) × (x ≡ y)
fill_determined d k line at before {a} {b} {x} {y} p q =
    filled_once (sizes_of (fields_of d k)) line before (fields_read d k (drop at line)) a b x y p.reads p.within p.leaves q.reads q.within q.leaves

-- ---- Where a record has room for the fields, as it has within the limits of the frame

pub room_read : (d : Draft) (k : Keyword) (rest : List ℕ) → sizes_of (fields_of d k) ≤ record_room → fields_read d k rest ≡ read_fields (fields_of d k) [] rest
unfolding fields_read
room_read d k rest h = rw (le-leb (sizes_of (fields_of d k)) record_room h, fields_read)

pub no_room_read : (d : Draft) (k : Keyword) (rest : List ℕ) → record_room < sizes_of (fields_of d k) → fields_read d k rest ≡ wrong expected.Fewer rest
unfolding fields_read
no_room_read d k rest h = rw (lt-leb (sizes_of (fields_of d k)) record_room h, fields_read)

-- what `fill` reads, into bytes of its own, from the place `from` within the line
module _ (d : Draft) (k : Keyword) (line : List ℕ) (at : ℕ) (before : List ℕ) (from : ℕ) (here : drop from line ≡ drop at line) (room : sizes_of (fields_of d k) ≤ record_room) (i : ℕ) (within : i ≤ length line) where
  read_there : read_fields (fields_of d k) [] (drop from line) ≡ fields_read d k (drop at line)
  read_there = ap (read_fields (fields_of d k) []) here ∙ sym (room_read d k (drop at line) room)

  pub filled_off : (e : Expected) → wrong e (drop i line) ≡ read_fields (fields_of d k) [] (drop from line) → Fills d k line at before (Err (record { expected = e; at = i })) before
  filled_off e read = record { reads = read ∙ read_there; within = within; leaves = refl }

  pub filled_on : (own after : List ℕ) → take (sizes_of (fields_of d k)) after ≡ take (sizes_of (fields_of d k)) own
      → drop (sizes_of (fields_of d k)) after ≡ drop (sizes_of (fields_of d k)) before
      → got (take (sizes_of (fields_of d k)) own) (drop i line) ≡ read_fields (fields_of d k) [] (drop from line) → Fills d k line at before (Ok i) after
  filled_on own after front rest read =
      record { reads = ap (λ (r : List ℕ). got r (drop i line)) front ∙ read ∙ read_there; within = within; leaves = rest }

pub modest_read : (d : Draft) (k : Keyword) (rest : List ℕ) → Modest d → fields_read d k rest ≡ read_fields (fields_of d k) [] rest
modest_read d k rest m = room_read d k rest (record_small d k m)
