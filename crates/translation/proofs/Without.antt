-- The table without one of its entries is as right as the table was: sound, and grouped. What stands in the shorter list at a place stands in the longer one
-- at that place or just after it, in the same order.
use Prim.Native.Nat.{ℕ, zero, suc, ◌≤◌, ◌<◌}
use mathlib.Core.List.{List, [], ◌∷◌, map}
use mathlib.Core.Path.{◌≡◌, refl, sym, subst}
use native.Mathlib.Omega.{arith}
use lib.ListN.{length, get_or, length-map}
use Rattle.table.specs.Grouped.{Agree}
use Rattle.table.specs.Sound.{SoundEntry, Sound}
use Rattle.table.specs.Table.{Table, Entry}
use Rattle.table.specs.Verdict.{strings}
use Rattle.translation.specs.Years.{without, without_entry}

-- where in the list member `j` of the list without member `k` stands
place_in : ℕ → ℕ → ℕ
place_in zero j = suc j
place_in (suc k) zero = zero
place_in (suc k) (suc j) = suc (place_in k j)

place_there : (k j : ℕ) (es : List Entry) → j < length (without k es) → place_in k j < length es
unfolding without place_in
place_there k j [] l = absurd (omega arith)
place_there zero j (e ∷ es) l = omega arith
place_there (suc k) zero (e ∷ es) l = omega arith
place_there (suc k) (suc j) (e ∷ es) l = let h = place_there k j es (omega arith) in omega arith

place_after : (k i j : ℕ) → i < j → place_in k i < place_in k j
unfolding place_in
place_after zero i j l = omega arith
place_after (suc k) i zero l = absurd (omega arith)
place_after (suc k) zero (suc j) l = omega arith
place_after (suc k) (suc i) (suc j) l = let h = place_after k i j (omega arith) in omega arith

without_at : (k j : ℕ) (es : List Entry) (d : Entry) → get_or (without k es) j d ≡ get_or es (place_in k j) d
unfolding without place_in
without_at k j [] d = refl
without_at zero j (e ∷ es) d = refl
without_at (suc k) zero (e ∷ es) d = refl
without_at (suc k) (suc j) (e ∷ es) d = without_at k j es d

string_at : (k j : ℕ) (es : List Entry) → get_or (map (λ (e : Entry). e.string) (without k es)) j [] ≡ get_or (map (λ (e : Entry). e.string) es) (place_in k j) []
unfolding without place_in
string_at k j [] = refl
string_at zero j (e ∷ es) = refl
string_at (suc k) zero (e ∷ es) = refl
string_at (suc k) (suc j) (e ∷ es) = string_at k j es

no_longer : (k : ℕ) (es : List Entry) → length (without k es) ≤ length es
unfolding without
no_longer k [] = omega arith
no_longer zero (e ∷ es) = omega arith
no_longer (suc k) (e ∷ es) = let h = no_longer k es in omega arith

agree_of : {p : ℕ} {a b c d : List ℕ} → a ≡ c → b ≡ d → Agree p a b → Agree p c d
agree_of {p} {a} {d = d} e f h = subst (λ (x : List ℕ). Agree p x d) e (subst (λ (y : List ℕ). Agree p a y) f h)

pub without_sound : {classes variables : ℕ} (k : ℕ) (table : Table) → Sound classes variables table → Sound classes variables (without_entry k table)
unfolding strings
without_sound {classes} k table sound =
    record {
      classes_right = sound.classes_right;
      variables_right = sound.variables_right;
      letters_number = sound.letters_number;
      entries_number = let h = no_longer k table.entries in let m = sound.entries_number in omega arith;
      contexts_number = sound.contexts_number;
      transitions_number = sound.transitions_number;
      columns_number = sound.columns_number;
      letters_right = sound.letters_right;
      symbols_differ = sound.symbols_differ;
      blank_known = sound.blank_known;
      entries_right =
          λ j d l.
          subst (SoundEntry classes (length table.contexts) table.letters) (sym (without_at k j table.entries d))
          (sound.entries_right (place_in k j) d (place_there k j table.entries l));
      contexts_right = sound.contexts_right;
      transitions_right = sound.transitions_right;
      columns_right = sound.columns_right;
      grouped =
          λ q m r p after before there agree.
          let shorter = length-map (without k table.entries) (λ (e : Entry). e.string) in
          let longer = length-map table.entries (λ (e : Entry). e.string) in
          let last = place_there k r table.entries (omega arith) in
          agree_of (sym (string_at k q table.entries)) (sym (string_at k m table.entries))
          (sound.grouped (place_in k q) (place_in k m) (place_in k r) p (place_after k q m after) (place_after k m r before) (omega arith)
          (agree_of (string_at k q table.entries) (string_at k r table.entries) agree));
    }
