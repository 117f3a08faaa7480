-- `ink::decoding::next` meets its contract: the character at the front keeps to the text.
use native.Mathlib.Omega.{arith}
use Rattle.std.proofs.Common.{rules, ◌≤◌}
use lib.ListN.{length}
use Rattle.inkprint.proofs.Characters.{ends_empty, front_fits, front_begins, next_ascii}
use Rattle.ink.proofs.decoding.next.Goals as goal

pub returns-in_default : goal.returns-in_default
returns-in_default c = ends_empty _ (omega (arith, c.in_default.len_below))

pub returns-then-a-lt128 : goal.returns-then-a-lt128
returns-then-a-lt128 c = front_begins _ _ (omega (arith, c.in-len1-up.len_at_least)) (rw c.from.ensures (next_ascii _ c.if-a-lt128.true))

pub slice_bounds-result-count : goal.slice_bounds-result-count
slice_bounds-result-count c = front_fits _ _ (omega (arith, c.in-len1-up.len_at_least)) c.longer-c.ensures

pub slice_bounds-result-start : goal.slice_bounds-result-start
slice_bounds-result-start c =
    let fits : c.longer-c.result.size ≤ length c.args.text.now = front_fits _ _ (omega (arith, c.in-len1-up.len_at_least)) c.longer-c.ensures in
    search rules

pub returns : goal.returns
returns c = front_begins _ _ (omega (arith, c.in-len1-up.len_at_least)) c.longer-c.ensures
