-- The movers on document 01's table, and on the same table with years: what is written, there and back, and each refusal. All by computing.
use Prim.Native.Nat.{ℕ}
use mathlib.Core.List.{List, [], ◌∷◌, ◌++◌, map}
use mathlib.Core.Path.{◌≡◌, refl}
use lib.ListN.{take, replicate}
use Rattle.table.specs.Example.{image, dated_image, alphabet_bytes, bytes_com, bytes_ful, bytes_blind, bytes_p, bytes_l, bytes_s, bytes_n, always, contexts_bytes, transitions_bytes, decisions_bytes, dated_trailer_bytes}
use Rattle.dates.specs.Moving.{number, place, written, Outcome, done, dating, undating}
use Rattle.dates.specs.inside.Computing.{computing}

-- the 218 bytes with years on each entry, from 0 to 65,535
abbrev always_image : List ℕ
always_image =
    alphabet_bytes
    ++ bytes_com
    ++ always
    ++ bytes_ful
    ++ always
    ++ bytes_blind
    ++ always
    ++ bytes_p
    ++ always
    ++ bytes_l
    ++ always
    ++ bytes_s
    ++ always
    ++ bytes_n
    ++ always
    ++ contexts_bytes
    ++ transitions_bytes
    ++ decisions_bytes
    ++ dated_trailer_bytes

-- so many bytes, each 7
abbrev room : ℕ → List ℕ
room n = replicate n 7

pub example_dated : dating image (room 248) ≡ done (room 248) always_image
unfolding computing
example_dated = refl

pub example_undated : undating always_image (room 220) ≡ done (room 220) image
unfolding computing
example_undated = refl

-- number, place and bytes written
abbrev values : Outcome → List ℕ
values o = number o.answer ∷ place o.answer ∷ written o.answer ∷ []

-- done; too short by one byte; the table with years, and the table without them, to the mover of the other; COM is dated, at its offset, before any room is
-- asked for; a table cut short; nothing at all
pub example_answers :
    map values
    (dating image (room 246)
    ∷ dating image (room 245)
    ∷ undating always_image (room 218)
    ∷ undating always_image (room 217)
    ∷ dating dated_image (room 300)
    ∷ undating image (room 300)
    ∷ undating dated_image (room 300)
    ∷ undating dated_image []
    ∷ dating (take 217 image) (room 300)
    ∷ dating [] []
    ∷ undating [] []
    ∷ [])
    ≡ (0 ∷ 0 ∷ 246 ∷ [])
    ∷ (8 ∷ 246 ∷ 0 ∷ [])
    ∷ (0 ∷ 0 ∷ 218 ∷ [])
    ∷ (8 ∷ 218 ∷ 0 ∷ [])
    ∷ (1 ∷ 0 ∷ 0 ∷ [])
    ∷ (1 ∷ 0 ∷ 0 ∷ [])
    ∷ (17 ∷ 57 ∷ 0 ∷ [])
    ∷ (17 ∷ 57 ∷ 0 ∷ [])
    ∷ (1 ∷ 0 ∷ 0 ∷ [])
    ∷ (1 ∷ 0 ∷ 0 ∷ [])
    ∷ (1 ∷ 0 ∷ 0 ∷ [])
    ∷ []
unfolding computing
example_answers = refl
