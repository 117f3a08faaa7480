-- `writing::showing::put_head` meets its contract: the line of a dated table where it is one, and the two lines of its numbers.
use Prim.Native.Nat.{◌+◌, ◌≤◌}
use native.Mathlib.Omega.{arith}
use Rattle.form.specs.Showing.{shown_head}
use Rattle.writing.specs.inside.Penned.{Penned}
use Rattle.writing.proofs.Puts.{pens_none, pens_then, pens_as}
use Rattle.writing.proofs.Shown.{dated_line, line_dated, line_undated, fits_dated, fits_classes, fits_variables}
use Rattle.writing.proofs.showing.put_head.Goals as goal
use Rattle.writing.proofs.showing.put_head.Goals.{After-put_line-arg-3-1, then-draft, else-draft}

-- the first line of a dated table, or nothing
first : (c : After-put_line-arg-3-1) → Penned c.args.pen.now (dated_line c.args.draft) c.if-draft.pen × (c.if-draft.pen.at ≤ c.args.pen.now.at + 700)
first c =
    elim c.if-draft.branch [
      | then-draft w ↦ rw w.pen-is (pens_as (line_dated c.args.draft w.if-draft.true) w.put_line.ensures.0, w.put_line.ensures.1)
      | else-draft w ↦ rw w.pen-is (pens_as (line_undated c.args.draft w.if-draft.false) (pens_none _), omega arith)
    ]

pub put_line-requires : goal.put_line-requires
put_line-requires c = (omega arith, c.requires.1, fits_dated _)

pub put_line-requires-2 : goal.put_line-requires-2
put_line-requires-2 c = let near = (first c).1 in (omega arith, c.requires.1, fits_classes _ _)

pub put_line-requires-3 : goal.put_line-requires-3
put_line-requires-3 c =
    let near = (first (goal.at.put_line-requires-3 c).After-put_line-arg-3-1).1 in
    (omega (arith, c.put_line-2.ensures.1), c.requires.1, fits_variables _ _)

pub returns : goal.returns
unfolding shown_head
returns c =
    let line = first (goal.at.returns c).After-put_line-arg-3-1 in
    (pens_then (pens_then line.0 c.put_line-2.ensures.0) c.put_line-3.ensures.0, omega (arith, line.1, c.put_line-2.ensures.1, c.put_line-3.ensures.1))
