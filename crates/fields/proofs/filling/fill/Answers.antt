-- `fields::filling::fill` meets its contract: fields that a record has no room for are none, and others are what `read_fields` reads.
use Prim.Native.Nat.{ℕ}
use mathlib.Core.List.{◌++◌}
use mathlib.Core.Path.{◌≡◌, refl, sym, ◌∙◌, ap}
use native.Mathlib.Omega.{arith}
use borrow.Rule.Slice.PartMut.{post_of}
use lib.Seq.{length-take-le, take-append_seam, drop-append_seam}
use Rattle.std.proofs.lemmas.Result.{err_from_is_err_and}
use lib.ListN.{length, take, drop}
use Rattle.form.specs.Words.{wrong}
use Rattle.form.specs.declared.Expected.TheVariants as expected
use Rattle.form.proofs.Words.{within_line}
use Rattle.fields.proofs.Promises.{no_room_read, filled_off, filled_on}
use Rattle.fields.proofs.Fields.{place_on}
use Rattle.fields.proofs.filling.fill.Goals as goal

pub returns-then-needed-gt64 : goal.returns-then-needed-gt64
returns-then-needed-gt64 c =
    let a = c.args in
    let there = within_line a.line.now a.at c.min-at.result c.min-at.ensures in
    record {
      reads = ap (wrong expected.Fewer) there ∙ sym (no_room_read a.draft a.keyword (drop a.at a.line.now) (rw c.record_size-needed.ensures at c.if-needed-gt64.true));
      within = omega (arith, c.min-at.ensures);
      leaves = refl;
    }

pub returns-in_err-next : goal.returns-in_err-next
returns-in_err-next c =
    let a = c.args in
    let there = within_line a.line.now a.at c.min-at.result c.min-at.ensures in
    let r = c.in_err-next.ensures in
    let p = err_from_is_err_and c.from_residual.result c.from_residual.ensures.1 in
    rw (p.1, p.2)
    (filled_off a.draft a.keyword a.line.now a.at a.rec.now c.min-at.result there (omega (arith, c.record_size-needed.ensures)) _ r.1 _ r.0)

pub returns : goal.returns
returns c =
    let a = c.args in
    let there = within_line a.line.now a.at c.min-at.result c.min-at.ensures in
    let r = c.in_ok-next.ensures in
    let place = place_on c.in_ok-next.next r.1 r.0 in
    let size = c.record_size-needed.ensures in
    let n = c.record_size-needed.result in
    let copied = c.copy_from_slice.ensures.after in
    let long : length c.copy_from_slice.new.self ≡ n = ap length copied ∙ length-take-le n c.read_fields.new.rec (omega arith) in
    filled_on a.draft a.keyword a.line.now a.at a.rec.now c.min-at.result there (omega (arith, size)) c.in_ok-next.next.at place.1 c.read_fields.new.rec _
    (ap (λ (k : ℕ). take k (c.copy_from_slice.new.self ++ post_of 0 n a.rec.now)) (sym size ∙ sym long) ∙ take-append_seam c.copy_from_slice.new.self _ ∙ rw size at copied)
    (ap (λ (k : ℕ). drop k (c.copy_from_slice.new.self ++ post_of 0 n a.rec.now)) (sym size ∙ sym long) ∙ drop-append_seam c.copy_from_slice.new.self _ ∙ ap (λ (k : ℕ). drop k a.rec.now) size)
    place.0
