-- `files::charting::unchanged` meets its contract. The loop's invariant: the bytes passed have themselves.
use mathlib.Core.Path.{refl}
use native.Mathlib.Omega.{arith}
use Rattle.embosser.proofs.Tables.{filled_none, filled_more, filled_all}
use Rattle.files.proofs.charting.unchanged.Goals as goal

pub loop-i-init : goal.loop-i-init
loop-i-init c = filled_none

pub loop-i-preserved : goal.loop-i-preserved
loop-i-preserved c =
    let l = c.loop-i in filled_more l.i _ (omega arith) refl (λ b e. e) refl l.invariant

pub returns : goal.returns
returns c = filled_all (λ b l beyond. absurd (omega arith)) c.loop-i.invariant
