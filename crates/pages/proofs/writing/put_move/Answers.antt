-- `pages::writing::put_move` meets its contract: four runs, each where the one before it ends, are the move's bytes.
use Prim.Native.Nat.{ℕ, ◌+◌, ◌-◌, ◌≤◌}
use mathlib.Core.Path.{◌≡◌, refl, ap}
use native.Mathlib.Omega.{arith}
use mathlib.Core.List.{List}
use lib.ListN.{length, replicate}
use Rattle.table.specs.Numbers.{blank_cell}
use Rattle.table.specs.inside.Wrote.{Wrote}
use Rattle.pages.specs.Numbers.{line_mark, page_mark}
use Rattle.pages.specs.declared.Place.{Place}
use Rattle.pages.specs.Place.{standing, move_bytes}
use Rattle.table.proofs.Wrote.{run_written, wrote_length}
use Rattle.pages.proofs.Bytes as Bytes
use Rattle.pages.proofs.writing.put_move.Goals as goal

-- after the marks and the blanks there is room for the cells
cells_fit : (p q : Place) (cells : List ℕ) {out o₁ o₂ o₃ : List ℕ} {a b s d : ℕ} → p.written + length (move_bytes p q cells) ≤ length out
    → (a ≡ p.written + (q.lines - p.lines)) × Wrote out p.written (replicate (q.lines - p.lines) line_mark) o₁
    → (b ≡ a + (q.pages - p.pages)) × Wrote o₁ a (replicate (q.pages - p.pages) page_mark) o₂
    → s ≡ standing p q
    → (d ≡ b + (q.column - s - length cells)) × Wrote o₂ b (replicate (q.column - s - length cells) blank_cell) o₃
    → d + length cells ≤ length o₃
cells_fit p q cells room first second stands third =
    let n = Bytes.length_move p q cells in
    let x = wrote_length first.1 in
    let y = wrote_length second.1 in
    let z = wrote_length third.1 in
    omega arith

pub put_same-lined-requires : goal.put_same-lined-requires
put_same-lined-requires c =
    let n = Bytes.length_move c.args.p c.args.q c.args.cells.now in
    omega arith

pub put_same-paged-requires : goal.put_same-paged-requires
put_same-paged-requires c =
    let n = Bytes.length_move c.args.p c.args.q c.args.cells.now in
    let s = wrote_length c.put_same-lined.ensures.1 in
    omega arith

pub put_same-at-requires : goal.put_same-at-requires
put_same-at-requires c =
    let n = Bytes.length_move c.args.p c.args.q c.args.cells.now in
    let s = wrote_length c.put_same-lined.ensures.1 in
    let t = wrote_length c.put_same-paged.ensures.1 in
    let h = c.standing.ensures in
    omega arith

pub slice_bounds-copy_from_slice-end : goal.slice_bounds-copy_from_slice-end
slice_bounds-copy_from_slice-end c = cells_fit c.args.p c.args.q c.args.cells.now c.requires.1 c.put_same-lined.ensures c.put_same-paged.ensures c.standing.ensures c.put_same-at.ensures

pub returns : goal.returns
returns c =
    let a = c.args in
    record {
      place = refl;
      wrote =
          Bytes.move_written a.p a.q a.cells.now c.put_same-lined.ensures.1 c.put_same-lined.ensures.0 c.put_same-paged.ensures.1
          c.put_same-paged.ensures.0
          (ap (λ (s : ℕ). a.q.column - s - length a.cells.now) c.standing.ensures)
          c.put_same-at.ensures.1
          c.put_same-at.ensures.0
          (run_written c.put_same-at.new.out c.copy_from_slice.new.self c.put_same-at.result (c.put_same-at.result + length a.cells.now) a.cells.now
          c.copy_from_slice.ensures.after refl
          (cells_fit c.args.p c.args.q c.args.cells.now c.requires.1 c.put_same-lined.ensures c.put_same-paged.ensures c.standing.ensures c.put_same-at.ensures));
    }
