-- `pages::measuring::measure` meets its contract. The loop's invariant: some cells wait, no more than the width, and what is left to do from here with them
-- ends where the whole ends. A sign adds at most 70 to each number of the place.
use Prim.Native.Nat.{ℕ, ◌+◌, ◌*◌, ◌^◌, ◌≤◌, ◌<◌}
use mathlib.Core.List.{List, []}
use mathlib.Core.Path.{◌≡◌, refl, sym, ◌∙◌, ap}
use native.Mathlib.Omega.{arith}
use lib.ListN.{length, get_or, drop, drop_of_length-le}
use Rattle.pages.specs.Words.{items_of, words_of}
use Rattle.table.specs.Numbers.{sign_page_end}
use Rattle.pages.specs.Place.{volume_end}
use Rattle.pages.specs.inside.Gather.{after_format, after_flush, stepped, waiting, after_rest}
use Rattle.pages.specs.declared.Place.{Place}
use Rattle.pages.proofs.Moves as Moves
use Rattle.pages.proofs.Gather as Gather
use Rattle.pages.proofs.measuring.measure.Goals as goal

pub loop-sign-init : goal.loop-sign-init
unfolding after_rest volume_end items_of words_of
loop-sign-init c =
    rw c.first.ensures (
      omega arith,
      record { column_most = omega arith; line_most = omega arith; written_most = omega arith; lines_most = omega arith; pages_most = omega arith },
      ([], refl, refl),
    )

pub loop-sign-preserved : goal.loop-sign-preserved
loop-sign-preserved c =
    let a = c.args in
    let pre = c.requires in
    let l = c.loop-sign in
    let v = l.invariant in
    let cells : List ℕ = v.2.0 in
    let size : length cells ≡ l.so_far.cells = v.2.1 in
    let there : l.sign-index < length a.signs.now = omega arith in
    let g : ℕ = get_or a.signs.now l.sign-index 0 in
    let most : length cells ≤ a.sheet.width = omega arith in
    let p : Place = l.so_far.place in
    let e : c.step-so_far.result ≡ stepped a.sheet p (length cells) g = c.step-so_far.ensures ∙ ap (λ (n : ℕ). stepped a.sheet p n g) (sym size) in
    let w = Gather.waiting_length a.sheet pre.wide p cells g in
    let b = Gather.waiting_most a.sheet pre.wide cells g most in
    rw e (
      rw (← w) b,
      Moves.modest_more (omega arith) (Gather.modest_step a.sheet (70 * l.sign-index) (length cells) g p (omega arith) v.1),
      (waiting a.sheet cells g, w, sym (Gather.turn_after a.sheet pre.wide a.signs.now l.sign-index there p cells most) ∙ v.2.2),
    )

pub page_end-requires : goal.page_end-requires
page_end-requires c =
    let a = c.args in
    let l = c.loop-sign in
    let v = l.invariant in
    let pre = c.requires in
    let i : 70 * l.sign-index + 4 + l.so_far.cells ≤ 2 ^ 32 = omega arith in
    rw c.flushed.ensures (Moves.modest_more i (Gather.modest_flush a.sheet (70 * l.sign-index) l.so_far.cells l.so_far.place v.1))

pub returns : goal.returns
returns c =
    let a = c.args in
    let l = c.loop-sign in
    let v = l.invariant in
    let pre = c.requires in
    let p : Place = l.so_far.place in
    let cells : List ℕ = v.2.0 in
    let size : length cells ≡ l.so_far.cells = v.2.1 in
    let all : drop l.sign-index a.signs.now ≡ [] = drop_of_length-le a.signs.now {i = l.sign-index} (omega arith) in
    c.page_end.ensures
    ∙ Gather.ends_as_73 a.sheet pre.wide c.flushed.result
    ∙ ap (λ (q : Place). after_format a.sheet q sign_page_end) (c.flushed.ensures ∙ ap (λ (n : ℕ). after_flush a.sheet p n) (sym size))
    ∙ sym (Gather.end_after a.sheet pre.wide p cells (omega arith))
    ∙ ap (λ (r : List ℕ). after_rest a.sheet p cells r) (sym all)
    ∙ v.2.2
