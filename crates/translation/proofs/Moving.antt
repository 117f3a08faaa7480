-- The states, moved one variable after another: those before `v` have moved, the others are as they were. Once all have moved they are what the
-- definition's list has.
use Prim.Native.Nat.{ℕ, ◌+◌, ◌≤◌, ◌<◌}
use mathlib.Core.Bool.{Bool, false}
use mathlib.Core.List.{List, []}
use mathlib.Core.Path.{◌≡◌, refl, sym, ◌∙◌, ap}
use native.Mathlib.Decide.{ℕ_discrete}
use native.Mathlib.Omega.{arith}
use lib.ListN.{length, get_or, take, set, replicate, length-set, length-replicate, get_or-replicate}
use lib.Seq.{ext_get_or, length-take-le, get_or-take, get_or-set_same, get_or-set_other}
use Rattle.table.specs.Numbers.{most_variables}
use Rattle.table.specs.Sections.{record_part}
use Rattle.table.specs.Table.{table_in, transition_at}
use Rattle.table.specs.declared.Sections.{Sections}
use Rattle.table.proofs.Reading.{transitions_long}
use Rattle.table.proofs.Lists.{length_list_of, get_or_list_of}
use Rattle.translation.specs.Decide.{state, start_states, byte_of_class, turned, moved}
use Rattle.translation.specs.inside.States.{states_in}
use Rattle.translation.specs.declared.variables.States.{States as Held}

-- ---- One variable after another

module _ (turn : ℕ → Bool → Bool) (n : ℕ) (before : List Bool) where
  pub record Moving (after : List Bool) (v : ℕ) : Type 0 where
    pub within : v ≤ n
    pub room : n ≤ length after
    pub have_moved : (j : ℕ) → j < v → get_or after j false ≡ turn j (get_or before j false)
    pub as_they_were : (j : ℕ) → v ≤ j → get_or after j false ≡ get_or before j false

  pub moving_starts : n ≤ length before → Moving before 0
  moving_starts l =
      record { within = omega arith; room = l; have_moved = λ j l. absurd (omega arith); as_they_were = λ j l. refl }

  pub moving_goes_on : (after : List Bool) (v : ℕ) → Moving after v → v < n → Moving (set after v (turn v (get_or after v false))) (v + 1)
  moving_goes_on after v m l =
      record {
        within = omega arith;
        room = rw (length-set after v (turn v (get_or after v false))) m.room;
        have_moved = λ j u. go j u (ℕ_discrete j v);
        as_they_were = λ j u. get_or-set_other after v j _ false (omega arith) ∙ m.as_they_were j (omega arith);
      }
    where
      go : (j : ℕ) → j < v + 1 → Dec (j ≡ v) → get_or (set after v (turn v (get_or after v false))) j false ≡ turn j (get_or before j false)
      go j u (yes e) =
          rw e (get_or-set_same after v _ false (let r = m.room in omega arith) ∙ ap (turn v) (m.as_they_were v (omega arith)))
      go j u (no d) = get_or-set_other after v j _ false d ∙ m.have_moved j (omega arith)

-- ---- All of them

module _ (image : List ℕ) (s : Sections) where
  -- what class `c` makes of the state of variable `v`, read in the image
  abbrev pub turn : ℕ → ℕ → Bool → Bool
  turn c v = turned (byte_of_class (record_part image s.transitions v 0 s.classes) c)

  pub moving_ends : (c : ℕ) (held next : Held) (v : ℕ) → Moving (turn c) s.transitions.records held.yes next.yes v
      → s.transitions.records ≤ v → states_in s next ≡ moved (table_in image s) c (states_in s held)
  unfolding states_in moved table_in transition_at
  moving_ends c held next v m l =
      ext_get_or false (take n next.yes) (moved (table_in image s) c (take n held.yes))
      (long ∙ sym (length_list_of f (length (table_in image s).transitions) ∙ transitions_long image s))
      (λ j u.
      let h : j < n = omega (arith, long) in
      get_or-take n next.yes j false h ∙ m.have_moved j (omega arith)
      ∙ sym (get_or_list_of f (length (table_in image s).transitions) j false (rw (transitions_long image s) h)
      ∙ rw (get_or-take n held.yes j false h, get_or_list_of (transition_at image s) n j [] h)))
    where
      n : ℕ
      n = s.transitions.records

      f : ℕ → Bool
      f v = turned (byte_of_class (get_or (table_in image s).transitions v []) c) (state (take n held.yes) v)

      long : length (take n next.yes) ≡ n
      long = length-take-le n next.yes m.room

  -- ---- The start

  pub start_held : (held : Held) → held.yes ≡ replicate most_variables false → s.transitions.records ≤ most_variables
      → states_in s held ≡ start_states (table_in image s)
  unfolding states_in start_states
  start_held held e l =
      rw (e, transitions_long image s)
      (ext_get_or false (take n (replicate most_variables false)) (replicate n false) (long ∙ sym (length-replicate n false))
      (λ j u.
      let h : j < n = omega (arith, long) in
      get_or-take n (replicate most_variables false) j false h ∙ get_or-replicate most_variables j false false (omega arith)
      ∙ sym (get_or-replicate n j false false h)))
    where
      n : ℕ
      n = s.transitions.records

      long : length (take n (replicate most_variables false)) ≡ n
      long = length-take-le n (replicate most_variables false) (rw (length-replicate most_variables false) l)
