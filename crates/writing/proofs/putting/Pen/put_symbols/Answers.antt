-- `writing::putting::Pen::put_symbols` meets its contract. The loop's invariant: the symbols so far are put, in at most two bytes each.
use Prim.Native.Nat.{ℕ, ◌-◌}
use mathlib.Core.Path.{◌≡◌, ap}
use native.Mathlib.Omega.{arith}
use lib.ListN.{length, length-replicate}
use Rattle.form.specs.Showing.{shown_symbols}
use Rattle.writing.proofs.Puts.{pens_none, pens_as, pens_leftward, symbols_longer}
use Rattle.writing.proofs.putting.Pen.put_symbols.Goals as goal

pub loop-c-init : goal.loop-c-init
unfolding shown_symbols
loop-c-init c = (pens_none _, omega arith)

pub loop-c-preserved : goal.loop-c-preserved
loop-c-preserved c =
    (symbols_longer c.args.symbols.now c.loop-c.c-index c.loop-c.invariant.0 c.put_symbol.ensures.0, omega (arith, c.loop-c.invariant.1, c.put_symbol.ensures.1))

pub returns : goal.returns
returns c =
    let a = c.args in
    let all : c.loop-c.c-index ≡ length a.symbols.now = omega arith in
    let word = pens_as (ap (shown_symbols a.symbols.now 0) all) c.loop-c.invariant.0 in
    let begin = c.put.ensures.puts.goes in
    let goes = word.puts.goes in
    let near = c.loop-c.invariant.1 in
    let then = c.put_same.ensures.puts.goes in
    let long = length-replicate {A = ℕ} c.saturating_sub.result 32 in
    let blanks : c.saturating_sub.result ≡ a.width - length (shown_symbols a.symbols.now 0 (length a.symbols.now)) = omega (arith, c.saturating_sub.ensures) in
    (pens_leftward a.width _ blanks c.put.ensures word c.put_same.ensures, omega arith)
