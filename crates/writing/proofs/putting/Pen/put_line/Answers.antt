-- `writing::putting::Pen::put_line` meets its contract. The loop's invariant: the first j fields are put, whose bytes of the record end at `from`; each field is at
-- most 171 bytes.
use Prim.Native.Nat.{ℕ, ◌+◌, ◌≤◌, ◌<◌}
use mathlib.Core.Path.{refl, ap, ◌∙◌}
use native.Mathlib.Omega.{arith}
use lib.ListN.{length}
use Rattle.form.specs.Fields.{fields_of, size_of, sizes_of}
use Rattle.form.specs.Showing.{shown_fields, shown_line}
use Rattle.writing.specs.inside.Puts.{Stringed}
use Rattle.writing.proofs.Puts.{pens_none, pens_then, pens_as}
use Rattle.writing.proofs.Shown.{spelled_short, fields_few, field_asked, sizes_step, fields_step, fields_all}
use Rattle.writing.proofs.putting.Pen.put_line.Goals as goal
use Rattle.writing.proofs.putting.Pen.put_line.Goals.{After-field_at-field}

-- the pen stands where the first word and the fields so far have brought it
module _ (c : After-field_at-field) where
  there : c.loop-j.j < length (fields_of c.args.draft c.args.keyword)
  there = let count = c.field_count-j-end.ensures in omega arith

  asked : (size_of c.field_at-field.result ≤ 64) × (c.loop-j.from + size_of c.field_at-field.result ≤ length c.args.bytes.now)
      × Stringed c.field_at-field.result c.args.bytes.now c.loop-j.from
  asked =
      field_asked c.args.draft c.args.keyword c.args.bytes.now c.loop-j.j there c.field_at-field.result c.loop-j.from c.field_at-field.ensures c.loop-j.invariant.0
      c.requires.1 c.requires.2

  near : c.loop-j.self.at < c.args.self.now.at + 700
  near =
      let l = there in
      let few = fields_few c.args.draft c.args.keyword in
      let word = c.put_bytes.ensures.puts.goes ∙ ap (λ (n : ℕ). c.args.self.now.at + n) (ap length c.word.ensures) in
      let short = spelled_short c.args.keyword in
      let here = c.loop-j.invariant.2 in
      omega arith

pub loop-j-init : goal.loop-j-init
unfolding shown_fields sizes_of
loop-j-init c = (refl, pens_none _, omega arith)

pub put_field-requires : goal.put_field-requires
put_field-requires c =
    let here = (goal.at.put_field-requires c).After-field_at-field in
    let close = near here in
    let h = asked here in
    (omega arith, h.0, h.1, h.2)

pub overflow_add-from : goal.overflow_add-from
overflow_add-from c =
    let room = (asked (goal.at.overflow_add-from c).After-field_at-field).1 in
    let size = c.size_of-from.ensures in
    record { fits = omega arith }

pub loop-j-preserved : goal.loop-j-preserved
loop-j-preserved c =
    let a = c.args in
    let at = c.loop-j in
    let field = c.field_at-field in
    let size = c.size_of-from.ensures in
    let l = there (goal.at.loop-j-preserved c).After-field_at-field in
    let sizes = sizes_step a.draft a.keyword a.bytes.now at.j l field.result at.from field.ensures at.invariant.0 in
    let shown = fields_step a.draft a.keyword a.bytes.now at.j l field.result at.from field.ensures at.invariant.0 in
    (omega arith, pens_as shown (pens_then at.invariant.1 c.put_field.ensures.0), omega (arith, at.invariant.2, c.put_field.ensures.1))

pub put-requires : goal.put-requires
put-requires c =
    let few = fields_few c.args.draft c.args.keyword in
    let count = c.field_count-j-end.ensures in
    let word = c.put_bytes.ensures.puts.goes ∙ ap (λ (n : ℕ). c.args.self.now.at + n) (ap length c.word.ensures) in
    let short = spelled_short c.args.keyword in
    let here = c.loop-j.invariant.2 in
    omega arith

pub returns : goal.returns
unfolding shown_line
returns c =
    let a = c.args in
    let at = c.loop-j in
    let few = fields_few a.draft a.keyword in
    let count = c.field_count-j-end.ensures in
    let word = rw c.word.ensures at c.put_bytes.ensures in
    let long = word.puts.goes in
    let short = spelled_short a.keyword in
    let here = at.invariant.2 in
    let goes = c.put.ensures.puts.goes in
    let all = fields_all a.draft a.keyword a.bytes.now at.j (omega arith) in
    (pens_then (pens_then word (pens_as all at.invariant.1)) c.put.ensures, omega arith)
