-- `Translator::by_entry` meets its contract: the four signs are printed where they lie in the entry, and its shift and class are read.
use mathlib.Core.Path.{◌≡◌, ◌∙◌, ap}
use native.Mathlib.Omega.{arith}
use lib.ListN.{length}
use Rattle.table.specs.Table.{entry_at}
use Rattle.table.proofs.Sound.{sound_entry}
use Rattle.translation.proofs.Accepted.{opened}
use Rattle.translation.proofs.Entries.{signs_read}
use Rattle.translation.proofs.translator.Translator.by_entry.Goals as goal

pub print_all-requires : goal.print_all-requires
print_all-requires c =
    let t = c.args.self.now in
    let o = opened t in
    let read = c.record_part.ensures.is ∙ signs_read t.image.now t.sections o c.args.k c.requires.there in
    let right = sound_entry t.image.now t.sections o.laid o.right c.args.k c.requires.there in
    let four = ap length read ∙ right.four_signs in
    omega arith

pub returns : goal.returns
unfolding entry_at
returns c =
    let t = c.args.self.now in
    let read : c.record_part.result.now ≡ (entry_at t.image.now t.sections c.args.k).signs =
    c.record_part.ensures.is ∙ signs_read t.image.now t.sections (opened t) c.args.k c.requires.there in
    record {
      shift_is = c.from.ensures ∙ c.record_byte.ensures.is;
      class_is = c.record_byte-2.ensures.is;
      wrote = rw (← read) c.print_all.ensures;
    }
