-- `Translator::byte_of_class` meets its contract: below the number of classes the byte is read, and beyond it nothing stands.
use Prim.Native.Nat.{pred, ◌+◌, ◌≤◌}
use mathlib.Core.Path.{◌≡◌, sym, ◌∙◌, ap}
use native.Mathlib.Omega.{arith}
use lib.ListN.{length, get_or-eq_default}
use Rattle.table.specs.Sections.{offset, record_byte, record_part}
use Rattle.translation.specs.Decide.{byte_of_class}
use Rattle.table.proofs.Reading.{part_long, part_at}
use Rattle.translation.proofs.translator.Translator.byte_of_class.Goals as goal

pub returns-then-j-self : goal.returns-then-j-self
unfolding byte_of_class
returns-then-j-self c =
    let a = c.args in
    let t = a.self.now in
    let inside : offset a.section a.k + 0 + t.sections.classes ≤ length t.image.now = omega arith in
    let same : c.from-j.result ≡ 0 + pred a.c = omega arith in
    c.record_byte.ensures.is ∙ ap (record_byte t.image.now a.section a.k) same
    ∙ sym (part_at t.image.now a.section a.k 0 t.sections.classes inside (pred a.c) _ (omega arith))

pub returns-else-j-self : goal.returns-else-j-self
unfolding byte_of_class
returns-else-j-self c =
    let a = c.args in
    let t = a.self.now in
    let inside : offset a.section a.k + 0 + t.sections.classes ≤ length t.image.now = omega arith in
    let same : c.from-j.result ≡ pred a.c = omega arith in
    sym
    (get_or-eq_default (record_part t.image.now a.section a.k 0 t.sections.classes) _
    (rw (part_long t.image.now a.section a.k 0 t.sections.classes inside) (omega arith)))
