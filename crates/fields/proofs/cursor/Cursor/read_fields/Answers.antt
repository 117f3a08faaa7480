-- `fields::cursor::Cursor::read_fields` meets its contract. The loop's invariant: the fields from here on, after those whose bytes stand in the record, read as all of
-- them do from `at` on.
use Prim.Native.Nat.{ℕ, suc, ◌+◌, ◌≤◌, ◌<◌}
use mathlib.Core.List.{List, ◌++◌}
use mathlib.Core.Path.{◌≡◌, refl, sym, ◌∙◌, ap}
use native.Mathlib.Numerals.{add-one}
use native.Mathlib.Omega.{arith}
use lib.ListN.{length, get_or, take, drop}
use lib.Seq.{take_all, length-take-le}
use Rattle.std.proofs.lemmas.Result.{err_from_is_err_and}
use Rattle.form.specs.Fields.{fields_of, size_of, sizes_of, read_fields}
use Rattle.form.specs.declared.Draft.{Draft}
use Rattle.form.specs.declared.Keyword.{Keyword}
use Rattle.form.specs.declared.Field.TheVariants.{Symbol}
use Rattle.fields.specs.inside.Cursors.{rest_at}
use Rattle.fields.proofs.Fields.{wrong_on, take_two, fields_more, fields_wrong, fields_end, sizes_more, sizes_within}
use Rattle.fields.proofs.cursor.Cursor.read_fields.Goals as goal
use Rattle.fields.proofs.cursor.Cursor.read_fields.Goals.{After-after_gap}

-- there is room for one field more
module _ (d : Draft) (k : Keyword) (n j size room : ℕ) (left : j < length (fields_of d k)) (fits : sizes_of (fields_of d k) ≤ room) (sofar : n ≡ sizes_of (take j (fields_of d k))) (is : size ≡ size_of (get_or (fields_of d k) j Symbol)) where
  more_size : n + size ≡ sizes_of (take (suc j) (fields_of d k))
  more_size = let more = sizes_more (fields_of d k) j left in omega arith

  more_room : n + size ≤ room
  more_room = let within = sizes_within (fields_of d k) (suc j) in let more = more_size in omega arith

pub loop-j-init : goal.loop-j-init
unfolding sizes_of
loop-j-init c = (refl, refl, refl)

pub split_at_mut-sofar-requires : goal.split_at_mut-sofar-requires
split_at_mut-sofar-requires c =
    let within = sizes_within (fields_of c.args.draft c.args.keyword) c.loop-j.j in
    omega arith

-- so the field's bytes are as many as it has
module _ (c : After-after_gap) where
  left : c.loop-j.j < length (fields_of c.args.draft c.args.keyword)
  left = let count = c.field_count-j-end.ensures in omega arith

  size_is : c.size_of-size.result ≡ size_of (get_or (fields_of c.args.draft c.args.keyword) c.loop-j.j Symbol)
  size_is = rw c.field_at-field.ensures at c.size_of-size.ensures

  room : c.loop-j.n + c.size_of-size.result ≤ length c.args.rec.now
  room = more_room c.args.draft c.args.keyword c.loop-j.n c.loop-j.j c.size_of-size.result (length c.args.rec.now) left c.requires.0 c.loop-j.invariant.1 size_is

  fits : c.size_of-size.result ≤ length c.split_at_mut-sofar.result.1.now
  fits = let h = room in omega (arith, c.split_at_mut-sofar.ensures.back_len)

  size_taken : length (take c.size_of-size.result c.split_at_mut-sofar.result.1.now) ≡ c.size_of-size.result
  size_taken = length-take-le c.size_of-size.result c.split_at_mut-sofar.result.1.now fits

pub slice_bounds-read_field-end : goal.slice_bounds-read_field-end
slice_bounds-read_field-end c = fits (goal.at.slice_bounds-read_field-end c).After-after_gap

pub slice_bounds-read_field-end-in-loop-j : goal.slice_bounds-read_field-end-in-loop-j
slice_bounds-read_field-end-in-loop-j c = sym (size_taken (goal.at.slice_bounds-read_field-end-in-loop-j c).After-after_gap)

pub read_field-requires : goal.read_field-requires
read_field-requires c =
    let here = (goal.at.read_field-requires c).After-after_gap in
    let h = room here in
    (size_taken here ∙ c.size_of-size.ensures, omega (arith, c.size_of-size.ensures))

pub returns-in_err-next : goal.returns-in_err-next
returns-in_err-next c =
    let fs = fields_of c.args.draft c.args.keyword in
    let l = c.loop-j in
    let here = (goal.at.returns-in_err-next c).After-after_gap in
    let wrong = sym (rw (c.after_gap.ensures.rest, c.field_at-field.ensures, c.split_at_mut-sofar.ensures.front) at c.in_err-next.ensures.0) in
    let p = err_from_is_err_and c.from_residual.result c.from_residual.ensures.1 in
    rw (p.1, p.2) (wrong_on (c.after_gap.ensures.line ∙ l.invariant.0) (sym (fields_wrong fs l.j _ _ (left here) wrong) ∙ l.invariant.2) c.in_err-next.ensures.1)

pub loop-j-preserved : goal.loop-j-preserved
loop-j-preserved c =
    let fs = fields_of c.args.draft c.args.keyword in
    let l = c.loop-j in
    let here = (goal.at.loop-j-preserved c).After-after_gap in
    let front = c.split_at_mut-sofar.ensures.front in
    let read = sym (rw (c.after_gap.ensures.rest, c.field_at-field.ensures, front) at c.in_ok-next.ensures.0) in
    let long : length c.read_field.new.bytes ≡ c.size_of-size.result = c.read_field.auto.bytes ∙ size_taken here in (
      c.in_ok-next.ensures.1 ∙ c.after_gap.ensures.line ∙ l.invariant.0,
      rw (add-one l.j) (more_size c.args.draft c.args.keyword l.n l.j c.size_of-size.result (length c.args.rec.now) (left here) c.requires.0 l.invariant.1 (size_is here)),
      ap (λ (bytes : List ℕ). read_fields (drop (l.j + 1) fs) bytes (rest_at c.in_ok-next.next))
          (take_two c.split_at_mut-sofar.result.0.now c.read_field.new.bytes _ l.n c.size_of-size.result c.split_at_mut-sofar.ensures.front_len long
          ∙ ap (λ (bytes : List ℕ). bytes ++ c.read_field.new.bytes) front)
          ∙ sym (fields_more fs l.j _ _ (left here) read)
          ∙ l.invariant.2,
    )

pub returns : goal.returns
returns c =
    let l = c.loop-j in
    let fs = fields_of c.args.draft c.args.keyword in
    let count = c.field_count-j-end.ensures in
    let over : length fs ≤ l.j = omega arith in
    let size : sizes_of fs ≡ l.n = ap sizes_of (sym (take_all l.j fs over)) ∙ sym l.invariant.1 in
    (rw size (sym (fields_end fs l.j _ _ over) ∙ l.invariant.2), l.invariant.0)
