-- `movers::putting::put_image` meets its contract: four parts, each where the one before it ends, are the moved image.
use borrow.Author.Rules.{rules}
use Prim.Native.Nat.{ℕ, ◌-◌, ◌≤◌}
use mathlib.Core.List.{List}
use mathlib.Core.Path.{◌≡◌, sym, ◌∙◌, ap, subst}
use native.Mathlib.Omega.{arith}
use lib.ListN.{length, take, drop}
use lib.Seq.{length-take-le}
use Rattle.table.specs.declared.Sections.{Sections}
use Rattle.dates.specs.inside.Putting.{Puts}
use Rattle.dates.proofs.Puts.{puts_length}
use Rattle.dates.proofs.Room.{roomy, others, entries_end, others_end, image_put}
use Rattle.movers.proofs.putting.put_image.Goals as goal

-- ---- What is handed over, by the sections and the form

alphabet_put : (image : List ℕ) (n : ℕ) {start p : ℕ} {before a : List ℕ} → n ≡ start → Puts before 0 (take n image) a p → Puts before 0 (take start image) a p
alphabet_put image n {p = p} {before = before} {a = a} e put = subst (λ (i : ℕ). Puts before 0 (take i image) a p) e put

others_part : (image : List ℕ) (s : Sections) (n : ℕ) → n ≡ s.contexts.start → take (length image - 14 - n) (drop n image) ≡ others image s
others_part image s n e = ap (λ (i : ℕ). take (length image - 14 - i) (drop i image)) e

others_put : (image : List ℕ) (s : Sections) (n : ℕ) {q r : ℕ} {before after : List ℕ} → n ≡ s.contexts.start
    → Puts before q (take (length image - 14 - n) (drop n image)) after r → Puts before q (others image s) after r
others_put image s n {q} {r} {before} {after} e put = subst (λ (bytes : List ℕ). Puts before q bytes after r) (others_part image s n e) put

-- ---- The goals

pub overflow_sub-end : goal.overflow_sub-end
overflow_sub-end c =
    let a = c.args in (roomy a.image.now a.form a.s c.requires.accepts).trailer

pub slice_bounds-part-end : goal.slice_bounds-part-end
slice_bounds-part-end c =
    let a = c.args in
    let room = roomy a.image.now a.form a.s c.requires.accepts in
    sym (length-take-le c.from-alphabet.result a.image.now (omega arith))

pub part-requires : goal.part-requires
part-requires c =
    let a = c.args in
    let room = roomy a.image.now a.form a.s c.requires.accepts in
    let part = length-take-le c.from-alphabet.result a.image.now (omega arith) in
    omega arith

pub entries-requires-clause-room : goal.entries-requires-clause-room
entries-requires-clause-room c =
    let a = c.args in
    let room = roomy a.image.now a.form a.s c.requires.accepts in
    let part = length-take-le c.from-alphabet.result a.image.now (omega arith) in
    let kept = puts_length c.part.ensures.puts in
    rw c.years.ensures (omega arith)

pub entries-requires-clause-lie : goal.entries-requires-clause-lie
entries-requires-clause-lie c =
    let a = c.args in (roomy a.image.now a.form a.s c.requires.accepts).entries_lie

pub slice_bounds-part-count : goal.slice_bounds-part-count
slice_bounds-part-count c =
    let a = c.args in
    let room = roomy a.image.now a.form a.s c.requires.accepts in
    omega arith

pub slice_bounds-part-start : goal.slice_bounds-part-start
slice_bounds-part-start c =
    let a = c.args in
    let room = roomy a.image.now a.form a.s c.requires.accepts in
    let after : c.from-contexts.result ≤ length a.image.now - 14 = omega arith in search rules

pub part-requires-2 : goal.part-requires-2
part-requires-2 c =
    let a = c.args in
    let accepts = c.requires.accepts in
    let room = roomy a.image.now a.form a.s accepts in
    let first = alphabet_put a.image.now _ c.from-alphabet.ensures c.part.ensures.puts in
    let to = entries_end a.image.now a.form a.s accepts first (rw c.years.ensures at c.entries.ensures.puts) in
    let part = ap length (others_part a.image.now a.s c.from-contexts.result c.from-contexts.ensures) in
    omega arith

pub trailer-requires-clause-room : goal.trailer-requires-clause-room
trailer-requires-clause-room c =
    let a = c.args in
    let accepts = c.requires.accepts in
    let room = roomy a.image.now a.form a.s accepts in
    let first = alphabet_put a.image.now _ c.from-alphabet.ensures c.part.ensures.puts in
    let third = others_put a.image.now a.s _ c.from-contexts.ensures c.part-2.ensures.puts in
    let to = others_end a.image.now a.form a.s accepts first (rw c.years.ensures at c.entries.ensures.puts) third in
    omega arith

pub trailer-requires-clause-from : goal.trailer-requires-clause-from
trailer-requires-clause-from c =
    let a = c.args in (roomy a.image.now a.form a.s c.requires.accepts).trailer

pub trailer-requires-clause-sections : goal.trailer-requires-clause-sections
trailer-requires-clause-sections c =
    let a = c.args in
    let accepts = c.requires.accepts in
    let room = roomy a.image.now a.form a.s accepts in
    let first = alphabet_put a.image.now _ c.from-alphabet.ensures c.part.ensures.puts in
    let third = others_put a.image.now a.s _ c.from-contexts.ensures c.part-2.ensures.puts in
    let to = others_end a.image.now a.form a.s accepts first (rw c.years.ensures at c.entries.ensures.puts) third in
    (omega arith, omega arith)

pub returns : goal.returns
returns c =
    let a = c.args in
    let first = alphabet_put a.image.now _ c.from-alphabet.ensures c.part.ensures.puts in
    let second = rw c.years.ensures at c.entries.ensures.puts in
    let third = others_put a.image.now a.s _ c.from-contexts.ensures c.part-2.ensures.puts in
    let made = image_put a.image.now a.form a.s c.requires.accepts first second third (rw c.mark.ensures at c.trailer.ensures.puts) in
    let same = sym (c.trailer.ensures.same_output ∙ c.part-2.ensures.same_output ∙ c.entries.ensures.same_output ∙ c.part.ensures.same_output) in
    search rules
