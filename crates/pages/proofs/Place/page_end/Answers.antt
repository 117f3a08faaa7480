-- `pages::Place::page_end` meets its contract: by whether the page has a line once the line has ended.
use Prim.Native.Nat.{◌^◌, ◌<◌}
use mathlib.Core.Path.{◌≡◌, sym, ◌∙◌, ap}
use native.Mathlib.Omega.{arith}
use Rattle.pages.specs.Place.{after_line_end, after_page}
use Rattle.pages.proofs.Moves as Moves
use Rattle.pages.proofs.Place.page_end.Goals as goal

pub overflow_add-result : goal.overflow_add-result
overflow_add-result c =
    let a = c.args in
    let e = c.line_end-ended.ensures in
    let d = Moves.modest_line_end a.sheet (2 ^ 32) a.self c.requires in
    rw e (record { fits = omega arith })

pub overflow_add-result-then-ended-gt0 : goal.overflow_add-result-then-ended-gt0
overflow_add-result-then-ended-gt0 c =
    let a = c.args in
    let e = c.line_end-ended.ensures in
    let d = Moves.modest_line_end a.sheet (2 ^ 32) a.self c.requires in
    rw e (record { fits = omega arith })

pub returns-then-ended-gt0 : goal.returns-then-ended-gt0
unfolding after_page
returns-then-ended-gt0 c =
    let a = c.args in
    let e = c.line_end-ended.ensures in
    let l : 0 < (after_line_end a.sheet a.self).line = rw (← e) c.if-ended-gt0.true in
    ap after_page e ∙ sym (Moves.page_end_lined a.sheet a.self l)

pub returns-else-ended-gt0 : goal.returns-else-ended-gt0
returns-else-ended-gt0 c =
    let a = c.args in
    let e = c.line_end-ended.ensures in
    let l : (after_line_end a.sheet a.self).line ≡ 0 = rw (← e) (omega arith) in
    e ∙ sym (Moves.page_end_empty a.sheet a.self l)
