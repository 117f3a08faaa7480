-- Any two results that a promise allows are equal.
use Prim.Native.Nat.{ℕ, ◌≤◌}
use mathlib.Core.List.{List}
use mathlib.Core.Path.{◌≡◌, sym, ◌∙◌, ap}
use native.Mathlib.Omega.{arith}
use lib.ListN.{length, drop, length-drop}
use Rattle.table.specs.Promises.{Tells}
use Rattle.table.proofs.Promises.{tells_determined}
use Rattle.form.specs.Words.{Read, after_gap}
use Rattle.std.specs.Prelude.{Ok, Err}
use Rattle.form.specs.Calls.{Drawn, Outcome}
use Rattle.form.specs.Promises.{Ends}
use Rattle.form.specs.inside.Steps.{Value, value_read, ValueWithin}

-- `ends_word`, `ends_line`, `is_word`, `is_escaped`, `field_count`, `field_at`, `size_of`, `record_size`, whose answer is what the definitions say
pub is_determined : {A : Type 0} {value a b : A} → a ≡ value → b ≡ value → a ≡ b
is_determined p q = p ∙ sym q

-- a place within a line is known by the rest of the line from there on
pub place_determined : (line : List ℕ) {a b : ℕ} → a ≤ length line → b ≤ length line → drop a line ≡ drop b line → a ≡ b
place_determined line {a} {b} p q same =
    let x = length-drop a line in
    let y = length-drop b line in
    let z = ap length same in
    omega arith

pub gap_end_determined : (line : List ℕ) (at : ℕ) {a b : ℕ} → (drop a line ≡ after_gap (drop at line)) × (a ≤ length line)
    → (drop b line ≡ after_gap (drop at line)) × (b ≤ length line) → a ≡ b
gap_end_determined line at p q = place_determined line p.1 q.1 (p.0 ∙ sym q.0)

-- `symbol`, and every other read of a value
pub read_determined : (line : List ℕ) (most : ℕ) (read : Read) (a b : Value) → (value_read line a ≡ read) × ValueWithin most line a
    → (value_read line b ≡ read) × ValueWithin most line b → a ≡ b
read_determined line most read (Ok (n, i)) (Ok (m, j)) p q =
    let both = p.0 ∙ sym q.0 in
    let rest : drop i line ≡ drop j line = cc in
    let place : i ≡ j = place_determined line p.1.1 q.1.1 rest in
    cc
read_determined line most read (Ok v) (Err u) p q =
    let both = p.0 ∙ sym q.0 in
    let never : ◌≡◌ {A = ℕ} 0 1 = cc in
    absurd (omega arith)
read_determined line most read (Err u) (Ok v) p q =
    let both = p.0 ∙ sym q.0 in
    let never : ◌≡◌ {A = ℕ} 0 1 = cc in
    absurd (omega arith)
read_determined line most read (Err u) (Err w) p q =
    let both = p.0 ∙ sym q.0 in
    let rest : drop u.at line ≡ drop w.at line = cc in
    let place : u.at ≡ w.at = place_determined line p.1 q.1 rest in
    let same : u.expected ≡ w.expected = cc in
    λ i. Err (record { expected = same i; at = place i })

-- the calls, `show` and `make`
pub ends_determined : {outcome : Outcome} {a b : Drawn} {x y : List ℕ} → Ends outcome a x → Ends outcome b y → (a ≡ b) × (x ≡ y)
ends_determined p q = (p.answers ∙ sym q.answers, p.leaves ∙ sym q.leaves)

-- the number and the place of what `show` and `make` answer, the bytes that they wrote, the line and the column
pub value_determined : {value : Drawn → ℕ} {drawn : Drawn} {a b : ℕ} → Tells value drawn a → Tells value drawn b → a ≡ b
value_determined p q = tells_determined p q
