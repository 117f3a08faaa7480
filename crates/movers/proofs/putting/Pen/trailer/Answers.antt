-- `movers::putting::Pen::trailer` meets its contract: two numbers, a part and a mark, each where the one before it ends, are the trailer.
use native.Mathlib.Omega.{arith}
use Prim.Native.Nat.{◌-◌}
use lib.ListN.{length, drop, length-drop}
use lib.Seq.{length-take-le}
use Rattle.dates.proofs.Parts.{number_long}
use Rattle.dates.proofs.Puts.{puts_length, slice_of_trailer, trailer_put}
use Rattle.movers.proofs.putting.Pen.trailer.Goals as goal

pub number-requires-2 : goal.number-requires-2
number-requires-2 c =
    let kept = puts_length c.number.ensures.puts in
    let two = number_long c.args.self.now.at in
    let at = c.number.ensures.puts.moves in
    omega arith

pub part-requires : goal.part-requires
part-requires c =
    let a = c.args in
    let kept = puts_length c.number.ensures.puts in
    let kept_2 = puts_length c.number-2.ensures.puts in
    let two = number_long a.self.now.at in
    let two_2 = number_long (a.self.now.at - a.alphabet) in
    let at = c.number.ensures.puts.moves in
    let at_2 = c.number-2.ensures.puts.moves in
    let image = a.image.now in
    let nine = length-take-le (length image - 1 - (length image - 10)) (drop (length image - 10) image) (rw length-drop (omega arith)) in
    omega arith

pub part-requires-2 : goal.part-requires-2
part-requires-2 c =
    let a = c.args in
    let kept = puts_length c.number.ensures.puts in
    let kept_2 = puts_length c.number-2.ensures.puts in
    let kept_3 = puts_length c.part.ensures.puts in
    let two = number_long a.self.now.at in
    let two_2 = number_long (a.self.now.at - a.alphabet) in
    let at = c.number.ensures.puts.moves in
    let at_2 = c.number-2.ensures.puts.moves in
    let at_3 = c.part.ensures.puts.moves in
    let image = a.image.now in
    let nine = length-take-le (length image - 1 - (length image - 10)) (drop (length image - 10) image) (rw length-drop (omega arith)) in
    omega arith

pub returns-clause-puts : goal.returns-clause-puts
returns-clause-puts c =
    let a = c.args in
    trailer_put a.alphabet a.image.now a.mark (slice_of_trailer a.image.now c.requires.from) c.number.ensures.puts c.number-2.ensures.puts
    c.part.ensures.puts c.part-2.ensures.puts
