-- `pages::Place::empty_line` meets its contract: by whether the page has a line once the line has ended.
use Prim.Native.Nat.{◌^◌, ◌<◌}
use mathlib.Core.Path.{◌≡◌, sym, ◌∙◌, ap}
use native.Mathlib.Omega.{arith}
use Rattle.pages.specs.Place.{after_line, after_line_end}
use Rattle.pages.specs.declared.Place.{Place}
use Rattle.pages.proofs.Moves as Moves
use Rattle.pages.proofs.Place.empty_line.Goals as goal

pub line_done-requires : goal.line_done-requires
line_done-requires c =
    let a = c.args in
    rw c.line_end-ended.ensures (Moves.modest_more (omega arith) (Moves.modest_line_end a.sheet (2 ^ 32) a.self c.requires))

pub returns-then-ended-gt0 : goal.returns-then-ended-gt0
returns-then-ended-gt0 c =
    let a = c.args in
    let e = c.line_end-ended.ensures in
    let l : 0 < (after_line_end a.sheet a.self).line = rw (← e) c.if-ended-gt0.true in
    c.line_done.ensures ∙ ap (λ (p : Place). after_line a.sheet p) e ∙ sym (Moves.empty_line_below a.sheet a.self l)

pub returns-else-ended-gt0 : goal.returns-else-ended-gt0
returns-else-ended-gt0 c =
    let a = c.args in
    let e = c.line_end-ended.ensures in
    let l : (after_line_end a.sheet a.self).line ≡ 0 = rw (← e) (omega arith) in
    e ∙ sym (Moves.empty_line_at_top a.sheet a.self l)
