-- 'Decision columns are read from the left', and 'the piece's class moves each variable'. A state is yes (true) or no (false).
use Rattle.std.specs.Prelude.{ℕ, pred, Bool, true, false, cond, not, List, [], ◌∷◌, length, get_or, replicate, eqb}
use Rattle.table.specs.Numbers.{turn_no, turn_yes, turn_other, accepts, rejects, byte_yes, byte_no, dash}
use Rattle.table.specs.Search.{every, list_of}
use Rattle.table.specs.Table.{Table, Column}

-- ---- States

abbrev pub States : Type 0
States = List Bool

-- all state variables start at no
unfoldable pub start_states : Table → States
start_states table = replicate (length table.transitions) false

abbrev pub state : States → ℕ → Bool
state states v = get_or states v false

-- the byte of a class, counted from 1, in a transition or in a decision column
unfoldable pub byte_of_class : List ℕ → ℕ → ℕ
byte_of_class bytes c = get_or bytes (pred c) dash

-- R no, S yes, T the other, - as it was
unfoldable pub turned : ℕ → Bool → Bool
turned b was = cond (eqb b turn_no) false (cond (eqb b turn_yes) true (cond (eqb b turn_other) (not was) was))

-- the piece's class moves each variable
unfoldable pub moved : Table → ℕ → States → States
moved table c states = list_of (λ v. turned (byte_of_class (get_or table.transitions v []) c) (state states v)) (length table.transitions)

-- ---- Decisions

-- Y state yes, N state no, - either
unfoldable pub condition_holds : ℕ → Bool → Bool
condition_holds b was = cond (eqb b byte_yes) was (cond (eqb b byte_no) (not was) true)

-- the column's variable conditions all hold
unfoldable pub conditions_hold : Column → States → Bool
conditions_hold column states = every (λ v. condition_holds (get_or column.conditions v dash) (state states v)) (length column.conditions)

pub data Ruling : Type 0 where
  accept reject next : Ruling

-- -: next column. G: accept. F: reject. Y: accept if the conditions hold, else next. N: reject if they hold, else next
unfoldable pub ruling : Column → States → ℕ → Ruling
ruling column states c =
    let b : ℕ = byte_of_class column.by_class c in
    cond (eqb b accepts) accept
    (cond (eqb b rejects) reject
    (cond (eqb b byte_yes) (cond (conditions_hold column states) accept next)
    (cond (eqb b byte_no) (cond (conditions_hold column states) reject next) next)))

-- columns are read from the left; no column left: reject
unfoldable pub decided : List Column → States → ℕ → Bool
decided [] states c = false
decided (column ∷ columns) states c =
    elim (ruling column states c) [ accept ↦ true | reject ↦ false | next ↦ decided columns states c ]
