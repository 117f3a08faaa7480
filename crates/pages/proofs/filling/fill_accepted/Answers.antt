-- `pages::filling::fill_accepted` meets its contract: the measured place counts the bytes of the whole.
use Prim.Native.Nat.{ℕ, ◌+◌, ◌≤◌, ◌<◌}
use mathlib.Core.List.{List, ◌++◌}
use mathlib.Core.Path.{◌≡◌, ◌∙◌, ap}
use native.Mathlib.Omega.{arith}
use lib.ListN.{length, drop}
use lib.Seq.{sets, sets-eq}
use borrow.Author.Tests.{le-leb, lt-leb}
use Rattle.pages.specs.Words.{Item, items_of}
use Rattle.pages.specs.Place.{volume}
use Rattle.pages.specs.Volume.{bytes_of, end_of}
use Rattle.pages.specs.Fill.{refused, done, roomed}
use Rattle.pages.specs.declared.Place.{Place}
use Rattle.pages.proofs.Whole.{written_volume}
use Rattle.pages.proofs.filling.fill_accepted.Goals as goal

-- a run from the front is followed by what lies beyond it
ends : (out bytes : List ℕ) → length bytes ≤ length out → sets out 0 bytes ≡ bytes ++ drop (length bytes) out
ends out bytes h =
    let k : 0 + length bytes ≡ length bytes = omega arith in
    sets-eq bytes out 0 (omega arith) ∙ ap (λ (n : ℕ). bytes ++ drop n out) k

pub returns-then-out-written : goal.returns-then-out-written
unfolding bytes_of roomed refused
returns-then-out-written c =
    let a = c.args in
    let items : List Item = items_of a.sheet.width a.signs.now in
    let bytes : List ℕ = volume a.sheet items in
    let n = ap (λ (p : Place). p.written) c.measure-written.ensures ∙ written_volume a.sheet items in
    let short : length a.out.now < length bytes = omega arith in
    let b = lt-leb (length bytes) (length a.out.now) short in
    record { answers = rw (b, roomed, n); leaves = rw (b, roomed) }

pub write-requires : goal.write-requires
write-requires c =
    let a = c.args in
    let items : List Item = items_of a.sheet.width a.signs.now in
    let n = ap (λ (p : Place). p.written) c.measure-written.ensures ∙ written_volume a.sheet items in
    record { fillable = c.requires; room = omega arith }

pub returns : goal.returns
unfolding bytes_of end_of roomed done
returns c =
    let a = c.args in
    let items : List Item = items_of a.sheet.width a.signs.now in
    let bytes : List ℕ = volume a.sheet items in
    let e = c.measure-written.ensures in
    let n = ap (λ (p : Place). p.written) e ∙ written_volume a.sheet items in
    let l = ap (λ (p : Place). p.lines) e in
    let g = ap (λ (p : Place). p.pages) e in
    let room : length bytes ≤ length a.out.now = omega arith in
    let b = le-leb (length bytes) (length a.out.now) room in
    record {
      answers = rw (b, roomed, n, l, g);
      leaves = rw (b, roomed) (c.write.ensures.leaves ∙ ends a.out.now bytes room);
    }
