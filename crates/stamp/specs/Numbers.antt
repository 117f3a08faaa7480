-- The numbers of 'A stamp to name the table', each said once.
use Rattle.std.specs.Prelude.{ℕ, ◌^◌}

-- a number of a stamp has 32 bits: it goes past the top back to 0
abbrev pub sum_room : ℕ
sum_room = 2 ^ 32

-- both numbers start at 0
abbrev pub sum_start : ℕ
sum_start = 0

-- and both are 0 for a refused image
abbrev pub no_stamp : ℕ
no_stamp = 0
