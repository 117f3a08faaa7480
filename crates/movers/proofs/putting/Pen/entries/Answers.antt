-- `movers::putting::Pen::entries` meets its contract. The loop's invariant: the first k records stand in the output, each followed by the years.
use Prim.Native.Nat.{ℕ, ◌+◌, ◌≤◌}
use mathlib.Core.List.{List, flatten}
use mathlib.Core.Path.{◌≡◌, refl, ◌∙◌, ap, subst}
use native.Mathlib.Omega.{arith}
use lib.ListN.{length}
use Rattle.table.specs.Numbers.{entry_size}
use Rattle.table.specs.Search.{list_from, list_of}
use Rattle.table.specs.Sections.{offset, record_part, part_within}
use Rattle.table.specs.declared.Section.{Section}
use Rattle.table.proofs.Reading.{part_long, part_within_lem}
use Rattle.dates.specs.Forms.{moved_entry, moved_entries}
use Rattle.dates.specs.inside.Putting.{Puts}
use Rattle.dates.proofs.Puts.{puts_length, entry_room, entry_put}
use Rattle.movers.proofs.putting.Pen.entries.Goals as goal

-- what is read of a record that lies within the image
record_read : (image : List ℕ) (entries : Section) (k : ℕ) {part : List ℕ} → offset entries k + entry_size ≤ length image
    → part ≡ part_within image entries k 0 entry_size → (part ≡ record_part image entries k 0 entry_size) × (length part ≡ entry_size)
record_read image entries k inside read =
    let is = read ∙ part_within_lem image entries k 0 entry_size (omega arith) in
    (is, ap length is ∙ part_long image entries k 0 entry_size (omega arith))

pub loop-k-init : goal.loop-k-init
unfolding list_from flatten
loop-k-init c = record { same_output = refl; put = record { moves = omega arith; writes = record { leaves = refl } } }

pub part-requires : goal.part-requires
part-requires c =
    let a = c.args in
    let lie = c.requires.lie in
    let part = record_read a.image.now a.entries c.loop-k.k (lie c.loop-k.k (omega arith)) c.record_part.ensures.is in
    let room = entry_room a.years.now a.image.now a.entries lie c.loop-k.k (omega arith) c.requires.room c.loop-k.invariant.put in
    omega arith

pub part-requires-in-loop-k : goal.part-requires-in-loop-k
part-requires-in-loop-k c =
    let a = c.args in
    let lie = c.requires.lie in
    let part = record_read a.image.now a.entries c.loop-k.k (lie c.loop-k.k (omega arith)) c.record_part.ensures.is in
    let room = entry_room a.years.now a.image.now a.entries lie c.loop-k.k (omega arith) c.requires.room c.loop-k.invariant.put in
    let kept = puts_length c.part.ensures.puts in
    omega arith

pub loop-k-preserved : goal.loop-k-preserved
loop-k-preserved c =
    let a = c.args in
    let part = record_read a.image.now a.entries c.loop-k.k (c.requires.lie c.loop-k.k (omega arith)) c.record_part.ensures.is in
    record {
      same_output = c.part-in-loop-k.ensures.same_output ∙ c.part.ensures.same_output ∙ c.loop-k.invariant.same_output;
      put = entry_put a.years.now a.image.now a.entries c.loop-k.k part.0 c.loop-k.invariant.put c.part.ensures.puts c.part-in-loop-k.ensures.puts;
    }

pub returns-clause-puts : goal.returns-clause-puts
unfolding moved_entries
returns-clause-puts c =
    let a = c.args in
    let all : c.loop-k.k ≡ a.entries.records = omega arith in
    subst
    (λ (n : ℕ). Puts a.self.now.out.now a.self.now.at (flatten (list_of (moved_entry a.years.now a.image.now a.entries) n)) c.loop-k.self.out.now c.loop-k.self.at)
    all
    c.loop-k.invariant.put
