-- `Strings::breaks_at` meets its contract. The invariant: no record from `q` on shares more with `r` than the record just before it, which shares
-- `near`. Where the walk stops at a record that shares less, no record further back shares more either (`keeps_from`).
use Rattle.std.proofs.Common.{ℕ, ◌≤◌, ◌<◌}
use Rattle.judge.specs.inside.Groups.{strings_by}
use Rattle.table.proofs.Grouping.{agreed}
use Rattle.judge.proofs.groups.Strings.breaks_at.Given as goal

abbrev pub invariant-loop-q : goal.invariant-loop-q
invariant-loop-q l = (j : ℕ) → l.q ≤ j → j < l.r → agreed (strings_by l.self) j l.r ≤ l.near
