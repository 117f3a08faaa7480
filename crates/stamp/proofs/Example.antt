-- The stamps of document 01's table, of the same table with document 02's years, and of refused tables; and three changes that cancel, which a stamp
-- doesn't show. All by computing.
use Rattle.std.proofs.Common.{◌≡◌, ℕ, List, [], ◌∷◌, map, get_or, take, set, Ok, refl, ap, arith}
use Rattle.table.specs.Table.{Table, Letter, table_of}
use Rattle.table.specs.Example.{image, dated_image}
use Rattle.stamp.specs.Sums.{sums_from}
use Rattle.stamp.specs.Stamping.{Answer, number, place, first, second, stamping}
use Rattle.stamp.specs.inside.Computing.{computing}

-- number, place and stamp
abbrev values : Answer → List ℕ
values s = number s ∷ place s ∷ first s ∷ second s ∷ []

-- the table; the same with years; with another sign for A; with the first two classes of its context exchanged; cut short; nothing at all; with no class in its
-- second letter
pub example_stamps :
    map (λ (i : List ℕ). values (stamping i))
    (image
    ∷ dated_image
    ∷ set image 14 2
    ∷ set (set image 183 3) 184 2
    ∷ take 217 image
    ∷ []
    ∷ set image 4 0
    ∷ [])
    ≡ (0 ∷ 0 ∷ 6973 ∷ 708472 ∷ [])
    ∷ (0 ∷ 0 ∷ 10467 ∷ 1160156 ∷ [])
    ∷ (0 ∷ 0 ∷ 6974 ∷ 708676 ∷ [])
    ∷ (0 ∷ 0 ∷ 6973 ∷ 708473 ∷ [])
    ∷ (1 ∷ 0 ∷ 0 ∷ 0 ∷ [])
    ∷ (1 ∷ 0 ∷ 0 ∷ 0 ∷ [])
    ∷ (2 ∷ 4 ∷ 0 ∷ 0 ∷ [])
    ∷ []
unfolding computing
example_stamps = refl

-- the top of 32 bits is reached, and one byte more than it is 0, for the first and for the second
pub example_top :
    (sums_from (record { first = 4294967294; second = 0 }) (1 ∷ []) ≡ record { first = 4294967295; second = 4294967295 })
    × (sums_from (record { first = 4294967295; second = 4294967295 }) (1 ∷ 1 ∷ []) ≡ record { first = 1; second = 0 })
unfolding computing
example_top = (refl, refl)

-- A, B and C with the signs 2, 1 and 10, in the place of 1, 3 and 9: one more, two less, one more, three bytes apart. Another table with the same stamp
abbrev cancelled : List ℕ
cancelled = set (set (set image 14 2) 17 1) 20 10

pub example_cancels : stamping cancelled ≡ Ok (record { first = 6973; second = 708472 })
unfolding computing
example_cancels = refl

pub example_another_table : table_of cancelled ≡ table_of image → ⊥
unfolding computing
example_another_table same =
    let sign : ◌≡◌ {A = ℕ} 2 1 = ap (λ (t : Table). get_or (map (λ (l : Letter). l.sign) t.letters) 4 0) same in
    omega arith
