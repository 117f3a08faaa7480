-- 'Width W 8..60, page length P 2..40' with the paper's numerals written out: a sheet at each limit is accepted, and one past it is refused with number 5.
-- No name of Numbers.antt stands here, so a number that is mistyped there and in the code alike is refused here.
use Prim.Native.Nat.{ℕ}
use mathlib.Core.List.{List, [], ◌∷◌, map}
use mathlib.Core.Path.{◌≡◌, refl}
use Rattle.table.specs.Refusals.{verdict_number, verdict_place}
use Rattle.pages.specs.Volume.{sheet_verdict}
use Rattle.pages.specs.inside.Computing.{computing}

-- W, P, and the number that comes back
record Case : Type 0 where
  width : ℕ
  length : ℕ
  number : ℕ

case : ℕ → ℕ → ℕ → Case
case w p n = record { width = w; length = p; number = n }

cases : List Case
cases =
    case 8 2 0
    ∷ case 60 40 0
    ∷ case 7 20 5
    ∷ case 61 20 5
    ∷ case 30 1 5
    ∷ case 30 41 5 ∷ []

-- number and place
judged : Case → ℕ × ℕ
judged c = let v = sheet_verdict (record { width = c.width; length = c.length }) in (verdict_number v, verdict_place v)

limits_as_written : map judged cases ≡ map (λ (c : Case). (c.number, 0)) cases
unfolding computing case cases judged
limits_as_written = refl
