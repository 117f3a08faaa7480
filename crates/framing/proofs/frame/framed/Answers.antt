-- `framing::frame::framed` meets its contract: each way out is one of the frame's tests failing, or all of them passing, and the definition goes by the
-- same tests.
use Rattle.std.proofs.Common.{arith, sym, List, ℕ, ◌≡◌, ap, true, false, Some, None}
use Rattle.std.proofs.lemmas.Grind.{common_steps}
use Rattle.table.specs.Sections.{frame_right, sections_in}
use Rattle.table.proofs.Frame.{frame_short, frame_long}
use Rattle.framing.specs.Promises.{Framed}
use Rattle.framing.proofs.frame.framed.Goals as goal

unframed : (image : List ℕ) → frame_right image ≡ false → Framed image None
unframed image e = record { is = ap (λ b. elim b [ true ↦ Some (sections_in image) | false ↦ None ]) (sym e) }

is_framed : (image : List ℕ) → frame_right image ≡ true → Framed image (Some (sections_in image))
is_framed image e = record { is = ap (λ b. elim b [ true ↦ Some (sections_in image) | false ↦ None ]) (sym e) }

pub returns-then-image-lt-TRAILER : goal.returns-then-image-lt-TRAILER
returns-then-image-lt-TRAILER c = unframed c.args.image.now (frame_short c.args.image.now (omega arith))

pub returns-then-not-distances_right : goal.returns-then-not-distances_right
returns-then-not-distances_right c =
    let image = c.args.image.now in
    let long = frame_long image (omega arith) in
    unframed image (grind (arith, common_steps))

pub returns : goal.returns
returns c =
    let image = c.args.image.now in
    let long = frame_long image (omega arith) in
    rw c.sections-s.ensures (is_framed image (grind (arith, common_steps)))

pub returns-then-not-lengths_right : goal.returns-then-not-lengths_right
returns-then-not-lengths_right c =
    let image = c.args.image.now in
    let long = frame_long image (omega arith) in
    unframed image (grind (arith, common_steps))
