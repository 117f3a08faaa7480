-- The judging, one byte further: what each output byte makes of a spot; the same in words, a cell, the line's end and the page's end, each where it may stand;
-- what every spot has that a step leads to; and the walk over the bytes, which goes by the bytes that are left: judged from here on, they are wrong where the
-- whole is.
use Prim.Native.Nat.{ℕ, ◌+◌, ◌≤◌, ◌<◌}
use mathlib.Core.Bool.{Bool, true, false, true≢false, false≢true, cond}
use mathlib.Core.List.{List}
use Rattle.std.specs.Prelude.{None, Some}
use mathlib.Core.Path.{◌≡◌, refl, sym, ◌∙◌, ap, subst}
use native.Mathlib.Decide.{ℕ_discrete, dec_le}
use native.Mathlib.Numerals.{add-one}
use native.Mathlib.Omega.{arith}
use lib.Dec.{eqb}
use lib.ListN.{length, get_or, drop, drop_of_length-le}
use lib.Seq.{drop-cons}
use borrow.Author.Tests.{le-leb, lt-leb, ne_eqb}
use Rattle.table.specs.Cells.{most_cell, is_cell}
use Rattle.table.specs.Numbers.{blank_cell}
use Rattle.table.specs.Refusals.{Between}
use Rattle.table.proofs.Tests.{Tells, tells_and, tells_le, tells_lt, tells_eq, tells_not}
use Rattle.pages.specs.Numbers.{line_mark, page_mark}
use Rattle.pages.specs.declared.Sheet.{Sheet}
use Rattle.embosser.specs.Chart.{stands_for}
use Rattle.embosser.specs.Judging.{start, at_start, has_room, cells_from, cell_fits, line_ends, page_ends, after_cell, after_line, onwards, stepped, wrong_from, wrong_at}
use Rattle.embosser.specs.declared.Kind.{Kind}
use Rattle.embosser.specs.declared.Spot.{Spot}

pub cells_from_bounds : (cell : ℕ) → Between 1 2 (cells_from cell)
unfolding cells_from
cells_from_bounds cell = go (eqb cell blank_cell)
  where
    go : (blank : Bool) → Between 1 2 (cond blank 2 1)
    go true = record { low = omega arith; high = omega arith }
    go false = record { low = omega arith; high = omega arith }

-- ---- Each output byte

module _ (sheet : Sheet) (s : Spot) where
  pub stepped_cell : (byte : ℕ) → byte ≤ 63 → stepped sheet s byte ≡ onwards (cell_fits sheet s byte) (after_cell s byte)
  unfolding stepped is_cell
  stepped_cell byte l = rw (le-leb byte 63 l)

  pub stepped_line : stepped sheet s line_mark ≡ onwards (line_ends sheet s) (after_line s)
  unfolding stepped is_cell
  stepped_line = refl

  pub stepped_page : stepped sheet s page_mark ≡ onwards (page_ends s) start
  unfolding stepped is_cell
  stepped_page = refl

  pub stepped_none : (byte : ℕ) → 65 < byte → stepped sheet s byte ≡ None
  unfolding stepped is_cell
  stepped_none byte l = rw (lt-leb byte 63 (omega arith), ne_eqb byte 64 (λ e. omega arith), ne_eqb byte 65 (λ e. omega arith))

-- each of them, and the cells that a line must hold, for a proof of a step of the code
pub ruleset stepping = (cells_from_bounds, stepped_cell, stepped_line, stepped_page, stepped_none)

-- ---- A step in words

-- a step that goes on passed its test, and goes to the spot after it
goes_on : (test : Bool) {s t : Spot} → onwards test s ≡ Some t → (test ≡ true) × (s ≡ t)
goes_on true e = (refl, cc)
goes_on false e = let z : ◌≡◌ {A = ℕ} 0 1 = cc in absurd (omega arith)

not_blank : (b : Bool) → (b ≡ true → ⊥) → b ≡ false
not_blank true h = absurd (h refl)
not_blank false h = refl

module _ (sheet : Sheet) where
  -- a cell has room on its line and its line on the page, a line doesn't end in a blank, and a page has a line and nothing after it
  pub data Steps (s : Spot) (byte : ℕ) : Spot → Type 0 where
    cell : byte ≤ most_cell → s.line < sheet.length → s.column + cells_from byte ≤ sheet.width → Steps s byte (after_cell s byte)
    line_end : byte ≡ line_mark → s.line < sheet.length → s.blank ≡ false → Steps s byte (after_line s)
    page_end : byte ≡ page_mark → s.column ≡ 0 → 0 < s.line → Steps s byte start

  tells_cell : (s : Spot) (byte : ℕ) → Tells (cell_fits sheet s byte) ((s.line < sheet.length) × (s.column + cells_from byte ≤ sheet.width))
  unfolding cell_fits has_room
  tells_cell s byte = tells_and (tells_lt s.line sheet.length) (tells_le (s.column + cells_from byte) sheet.width)

  tells_line : (s : Spot) → Tells (line_ends sheet s) ((s.line < sheet.length) × (s.blank ≡ true → ⊥))
  unfolding line_ends has_room
  tells_line s = tells_and (tells_lt s.line sheet.length) (tells_not (λ e. e, λ e. e))

  tells_page : (s : Spot) → Tells (page_ends s) ((s.column ≡ 0) × (0 < s.line))
  unfolding page_ends
  tells_page s = tells_and (tells_eq s.column 0) (tells_lt 0 s.line)

  pub steps_told : (s : Spot) (byte : ℕ) (t : Spot) → stepped sheet s byte ≡ Some t → Steps s byte t
  steps_told s byte t told = go (dec_le byte most_cell) (ℕ_discrete byte line_mark) (ℕ_discrete byte page_mark)
    where
      go : Dec (byte ≤ most_cell) → Dec (byte ≡ line_mark) → Dec (byte ≡ page_mark) → Steps s byte t
      go (yes l) _ _ =
          let went = goes_on (cell_fits sheet s byte) (sym (stepped_cell sheet s byte l) ∙ told) in
          let fits = (tells_cell s byte).0 went.0 in
          subst (Steps s byte) went.1 (cell l fits.0 fits.1)
      go (no n) (yes is) _ =
          let went = goes_on (line_ends sheet s) (sym (ap (stepped sheet s) is ∙ stepped_line sheet s) ∙ told) in
          let fits = (tells_line s).0 went.0 in
          subst (Steps s byte) went.1 (line_end is fits.0 (not_blank s.blank fits.1))
      go (no n) (no m) (yes is) =
          let went = goes_on (page_ends s) (sym (ap (stepped sheet s) is ∙ stepped_page sheet s) ∙ told) in
          let fits = (tells_page s).0 went.0 in
          subst (Steps s byte) went.1 (page_end is fits.0 fits.1)
      go (no n) (no m) (no k) =
          let wrong = stepped_none sheet s byte (omega arith) in
          let z : ◌≡◌ {A = ℕ} 0 1 = cc in absurd (omega arith)

  passed : {test : Bool} (t : Spot) → test ≡ true → onwards test t ≡ Some t
  passed t e = rw e

  steps_is : {s : Spot} {byte : ℕ} {t : Spot} → Steps s byte t → stepped sheet s byte ≡ Some t
  steps_is {s} {byte} (cell c l w) = stepped_cell sheet s byte c ∙ passed (after_cell s byte) ((tells_cell s byte).1 (l, w))
  steps_is {s} {byte} (line_end is l w) =
      ap (stepped sheet s) is ∙ stepped_line sheet s ∙ passed (after_line s) ((tells_line s).1 (l, λ h. true≢false (sym h ∙ w)))
  steps_is {s} {byte} (page_end is c l) = ap (stepped sheet s) is ∙ stepped_page sheet s ∙ passed start ((tells_page s).1 (c, l))

  -- no step leads further where the judging finds a wrong byte
  pub wrong_told : {s t : Spot} {byte : ℕ} → stepped sheet s byte ≡ None → Steps s byte t → ⊥
  wrong_told e step = let told = steps_is step in let z : ◌≡◌ {A = ℕ} 0 1 = cc in omega arith

  pub one_step : {s t u : Spot} {byte : ℕ} → Steps s byte t → Steps s byte u → t ≡ u
  one_step a b = let x = steps_is a in let y = steps_is b in cc

  -- a byte that leads on is a cell, 64 or 65
  pub step_marks : {s : Spot} {byte : ℕ} {t : Spot} → Steps s byte t → byte ≤ page_mark
  step_marks (cell c l w) = omega arith
  step_marks (line_end b l w) = omega arith
  step_marks (page_end b c l) = omega arith

  -- what every spot has that a step leads to: it keeps to the sheet, and there is room where something must follow
  pub record Fit (s : Spot) : Type 0 where
    pub line : s.line ≤ sheet.length
    pub column : s.column ≤ sheet.width
    pub blank : s.blank ≡ true → (s.line < sheet.length) × (s.column < sheet.width)
    pub full : s.line ≡ sheet.length → s.column ≡ 0

  pub start_fits : Fit start
  start_fits = record { line = omega arith; column = omega arith; blank = λ e. absurd (false≢true e); full = λ e. refl }

  pub step_fits : {s : Spot} {byte : ℕ} {t : Spot} → Steps s byte t → Fit t
  unfolding cells_from
  step_fits {s} {byte} (cell h room fits) =
      let one = (cells_from_bounds byte).low in
      record {
        line = omega arith;
        column = omega arith;
        blank = λ e. (room, let two : s.column + 2 ≤ sheet.width = rw e at fits in omega arith);
        full = λ e. absurd (omega arith);
      }
  step_fits (line_end is room w) = record { line = omega arith; column = omega arith; blank = λ e. absurd (false≢true e); full = λ e. refl }
  step_fits (page_end is c l) = start_fits

-- ---- The walk

module _ (kind : Kind) (sheet : Sheet) (bytes : List ℕ) where
  -- what is wrong from the place `i` on, in the spot `s`, is what is wrong with the whole
  abbrev pub Walked : Spot → ℕ → Type 0
  Walked s i = wrong_from kind sheet s i (drop i bytes) ≡ wrong_at kind sheet bytes

  pub walk_starts : Walked start 0
  unfolding wrong_at
  walk_starts = refl

  -- `byte` is the output byte that stands there
  pub walk_on : (s t : Spot) (i byte : ℕ) → i < length bytes → byte ≡ stands_for kind (get_or bytes i 0) → stepped sheet s byte ≡ Some t → Walked s i
      → Walked t (i + 1)
  unfolding wrong_from
  walk_on s t i byte there is on walked =
      let went : stepped sheet s (stands_for kind (get_or bytes i 0)) ≡ Some t = rw is at on in
      rw (add-one i) (rw (drop-cons bytes i 0 there, went, wrong_from) at walked)

  pub walk_wrong : (s : Spot) (i byte : ℕ) → i < length bytes → byte ≡ stands_for kind (get_or bytes i 0) → stepped sheet s byte ≡ None → Walked s i
      → wrong_at kind sheet bytes ≡ Some i
  unfolding wrong_from
  walk_wrong s i byte there is wrong walked =
      let stops : stepped sheet s (stands_for kind (get_or bytes i 0)) ≡ None = rw is at wrong in
      sym (rw (drop-cons bytes i 0 there, stops, wrong_from) at walked)

  -- no byte is left
  pub walk_ends : (s : Spot) (i : ℕ) → length bytes ≤ i → Walked s i → wrong_at kind sheet bytes ≡ cond (at_start s) None (Some i)
  unfolding wrong_from
  walk_ends s i over walked = sym (rw (drop_of_length-le bytes over) at walked)
