-- The trailer of a modest draft: how long the sections are at most, and that five numbers, two bytes and two marks, each where the one before it ends, are the
-- trailer.
use Prim.Native.Nat.{ℕ, ◌+◌, ◌*◌, ◌≤◌}
use mathlib.Core.Bool.{Bool, true, false, cond}
use mathlib.Core.List.{List, [], ◌∷◌, ◌++◌}
use mathlib.Core.Path.{◌≡◌, refl}
use native.Mathlib.Nat.{mul-le-mul}
use native.Mathlib.Omega.{arith}
use Rattle.table.specs.Numbers.{entry_size, dated_entry_size, first_mark, second_mark, dated_mark}
use Rattle.table.specs.inside.Wrote.{Wrote}
use Rattle.table.proofs.Wrote.{put_then}
use Rattle.form.specs.Fields.{number_bytes}
use Rattle.form.specs.Reading.{entry_size_for, decisions_for, transitions_for, contexts_for, entries_for, letters_for, trailer_for}
use Rattle.form.specs.inside.Steps.{Modest}
use Rattle.form.specs.declared.Draft.{Draft}

module _ (d : Draft) (m : Modest d) where
  pub decisions_few : decisions_for d ≤ 1100
  unfolding decisions_for
  decisions_few =
      let row : d.classes + d.variables ≤ 55 = omega arith in
      let h : (d.classes + d.variables) * d.decisions ≤ 55 * 20 = mul-le-mul row m.decisions in
      h

  pub turns_few : d.classes * d.transitions ≤ 600
  turns_few = let h : d.classes * d.transitions ≤ 40 * 15 = mul-le-mul m.classes m.transitions in h

  pub transitions_few : transitions_for d ≤ 1700
  unfolding transitions_for
  transitions_few = omega (arith, decisions_few, turns_few)

  pub contexts_few : contexts_for d ≤ 1720
  unfolding contexts_for
  contexts_few = omega (arith, transitions_few, m.contexts)

  pub records_few : entry_size_for d * d.entries ≤ 26378
  unfolding entry_size_for
  records_few = let h : entry_size_for d * d.entries ≤ 22 * 1199 = mul-le-mul (few d.dated) m.entries in h
    where
      few : (t : Bool) → cond t dated_entry_size entry_size ≤ 22
      few true = omega arith
      few false = omega arith

  pub entries_few : entries_for d ≤ 28098
  unfolding entries_for
  entries_few = omega (arith, records_few, contexts_few)

  pub letters_few : letters_for d ≤ 28287
  unfolding letters_for
  letters_few = omega (arith, entries_few, m.letters)

  -- ---- What is put is the trailer

  module _ (at : ℕ) (l l₁ l₂ l₃ l₄ l₅ : List ℕ) where
    pub trailer_put : {a b c e f : ℕ} {after : List ℕ} → Wrote l at (number_bytes a) l₁ → a ≡ letters_for d
        → Wrote l₁ (at + 2) (number_bytes b) l₂ → b ≡ entries_for d
        → Wrote l₂ (at + 4) (number_bytes c) l₃ → c ≡ contexts_for d
        → Wrote l₃ (at + 6) (number_bytes e) l₄ → e ≡ transitions_for d
        → Wrote l₄ (at + 8) (number_bytes f) l₅ → f ≡ decisions_for d
        → Wrote l₅ (at + 10) (d.classes ∷ d.variables ∷ first_mark ∷ cond d.dated dated_mark second_mark ∷ []) after → Wrote l at (trailer_for d) after
    unfolding trailer_for number_bytes
    trailer_put {a} {b} {c} {e} {f} {after} w₁ e₁ w₂ e₂ w₃ e₃ w₄ e₄ w₅ e₅ last =
        rw (← e₁, ← e₂, ← e₃, ← e₄, ← e₅)
        (record {
          leaves =
              put_then l l₅ after at (number_bytes a ++ number_bytes b ++ number_bytes c ++ number_bytes e ++ number_bytes f)
              (d.classes ∷ d.variables ∷ first_mark ∷ cond d.dated dated_mark second_mark ∷ [])
              (put_then l l₄ l₅ at (number_bytes a ++ number_bytes b ++ number_bytes c ++ number_bytes e) (number_bytes f)
              (put_then l l₃ l₄ at (number_bytes a ++ number_bytes b ++ number_bytes c) (number_bytes e)
              (put_then l l₂ l₃ at (number_bytes a ++ number_bytes b) (number_bytes c)
              (put_then l l₁ l₂ at (number_bytes a) (number_bytes b) w₁.leaves w₂.leaves refl) w₃.leaves refl) w₄.leaves refl) w₅.leaves refl)
              last.leaves refl;
        })
