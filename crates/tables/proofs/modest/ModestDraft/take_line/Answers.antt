-- `tables::modest::ModestDraft::take_line` meets its contract: the three things that a line can tell are those of the definition, and a record that it says stands in `rec`.
use mathlib.Core.Path.{◌≡◌, sym}
use native.Mathlib.Omega.{arith}
use lib.ListN.{take}
use lib.Seq.{length-take-le}
use Rattle.form.specs.Fields.{fields_of, sizes_of}
use Rattle.form.specs.Reading.{says, read_line}
use Rattle.form.specs.inside.Steps.{Modest}
use Rattle.form.proofs.Sizes.{record_small}
use Rattle.tables.proofs.Walk.{next_modest, took_record, took_head}
use Rattle.tables.proofs.modest.ModestDraft.take_line.Goals as goal
use Rattle.tables.proofs.modest.ModestDraft.take_line.Goals.{After-with_line}

-- the record that the line says
said : (c : After-with_line) → read_line c.args.self.draft c.args.line.now ≡ says c.in-Some.keyword (take (sizes_of (fields_of c.args.self.draft c.in-Some.keyword)) c.read_line.new.rec)
said c = sym (rw c.in-Some.is at c.in_ok-keyword.ensures.0)

-- the draft with it is within the limits
next_within : (c : After-with_line) → Modest c.with_line.result
next_within c = next_modest _ _ _ _ c.read_line.new.rec (said c) c.with_line.ensures c.args.self.modest

pub invariant_of-next : goal.invariant_of-next
invariant_of-next c = record { modest = next_within (goal.at.invariant_of-next c).After-with_line }

pub invariant_of-next-2 : goal.invariant_of-next-2
invariant_of-next-2 c = record { modest = next_within (goal.at.invariant_of-next-2 c).After-with_line }

pub slice_bounds-rec-end : goal.slice_bounds-rec-end
slice_bounds-rec-end c = let small = record_small c.args.self.draft c.in-Some.keyword c.args.self.modest in omega arith

pub slice_bounds-put_record-end : goal.slice_bounds-put_record-end
slice_bounds-put_record-end c =
    let small = record_small c.args.self.draft c.in-Some.keyword c.args.self.modest in
    sym (length-take-le c.record_size-size.result c.read_line.new.rec (omega arith))

pub returns-then-rank-gt3 : goal.returns-then-rank-gt3
returns-then-rank-gt3 c =
    took_record _ _ _ _ c.read_line.new.rec (said (goal.at.returns-then-rank-gt3 c).After-with_line) c.with_line.ensures _ _ (rw c.rank.ensures at c.if-rank-gt3.true) c.record_size-size.ensures c.put_record.ensures

pub returns : goal.returns
returns c = took_head _ _ _ _ c.read_line.new.rec (said (goal.at.returns c).After-with_line) c.with_line.ensures _ _ (rw c.rank.ensures at c.if-rank-gt3.false)
