-- States start at no, and each piece's states come from the piece before by the transition of its class; what a transition does to one variable is
-- what the paper says.
use Prim.Native.Nat.{ℕ, zero, suc, ◌<◌}
use mathlib.Core.Bool.{false}
use mathlib.Core.List.{List, []}
use mathlib.Core.Path.{◌≡◌, refl, ◌∙◌, ap}
use lib.ListN.{length, get_or, replicate}
use Rattle.table.specs.Numbers.{turn_no, turn_yes, turn_other, dash}
use Rattle.table.specs.Table.{Table}
use Rattle.table.proofs.Lists.{get_or_list_of}
use Rattle.translation.specs.Decide.{States, state, start_states, byte_of_class, turned, moved}
use Rattle.translation.specs.Pieces.{pieces_in}
use Rattle.translation.specs.Chosen.{piece_in}
use Rattle.translation.specs.Moved.{Turned}
use Rattle.translation.specs.declared.Setting.{Setting}
use Rattle.translation.proofs.Pieces.{first_piece, next_piece}

-- ---- The start

pub all_start_at_no : (table : Table) (v : ℕ) → state (start_states table) v ≡ false
unfolding start_states
all_start_at_no table v = go (length table.transitions) v
  where
    go : (n v : ℕ) → state (replicate n false) v ≡ false
    go zero v = refl
    go (suc n) zero = refl
    go (suc n) (suc v) = go n v

pub states_start : (table : Table) (setting : Setting) (text : List ℕ) → 0 < length (pieces_in table setting text)
    → (v : ℕ) → state (piece_in table setting text 0).states v ≡ false
states_start table setting text l v = rw (first_piece table setting text l).states (all_start_at_no table v)

-- ---- The moves

pub states_move : (table : Table) (setting : Setting) (text : List ℕ) (i : ℕ) → suc i < length (pieces_in table setting text)
    → (piece_in table setting text (suc i)).states ≡ moved table (piece_in table setting text i).class (piece_in table setting text i).states
states_move table setting text i l = (next_piece table setting text i l).states

pub moved_as_written : (table : Table) (c : ℕ) (states : States) (v : ℕ) → v < length table.transitions
    → Turned (byte_of_class (get_or table.transitions v []) c) (state states v) (state (moved table c states) v)
unfolding moved turned
moved_as_written table c states v l =
    record {
      to_no = by turn_no;
      to_yes = by turn_yes;
      to_other = by turn_other;
      as_it_was = by dash;
    }
  where
    now : state (moved table c states) v ≡ turned (byte_of_class (get_or table.transitions v []) c) (state states v)
    now = get_or_list_of (λ v. turned (byte_of_class (get_or table.transitions v []) c) (state states v)) (length table.transitions) v false l

    by : (b : ℕ) → byte_of_class (get_or table.transitions v []) c ≡ b → state (moved table c states) v ≡ turned b (state states v)
    by b e = now ∙ ap (λ (x : ℕ). turned x (state states v)) e
