-- The promises of the calls from those of the functions that they call: the answer and the output are those that the function promises, and the stored
-- values are the answer's.
use Prim.Native.Nat.{ℕ}
use mathlib.Core.List.{List, [], ◌∷◌}
use mathlib.Core.Path.{◌≡◌, refl, ◌∙◌}
use Rattle.std.specs.Prelude.{Result, Ok, Err}
use Rattle.table.specs.Numbers.{number_done, no_place}
use Rattle.table.specs.Answers.{refusal_number, refusal_place}
use Rattle.table.specs.declared.Refusal.{Refusal}
use Rattle.dates.specs.Moving.{Outcome}
use Rattle.dates.specs.Promises.{Ends}
use Rattle.form.specs.Calls.{undrawn_number, undrawn_place, undrawn_line, undrawn_column}
use Rattle.form.specs.declared.Undrawn.{Undrawn}
use Rattle.layout.specs.declared.Laid.{Laid}
use Rattle.stamp.specs.declared.Stamped.{Stamped}
use Rattle.inkprint.specs.Calls.{uninked_number, uninked_place}
use Rattle.inkprint.specs.Promises.{Inks}
use Rattle.inkprint.specs.declared.Uninked.{Uninked}
use Rattle.embosser.specs.Promises.{Files}
use Rattle.embosser.specs.declared.Kind.{Kind}
use Rattle.calls.specs.Promises.{six_values, three_in, three_values, Converted, two_values, four_values, moved_values, Recast, five_values, inked_values, Inkprinted}

-- ---- The values one by one

pub two_refused : (r : Refusal) → refusal_number r ∷ refusal_place r ∷ [] ≡ two_values (Err r)
unfolding two_values
two_refused r = refl

pub four_done : (stamp : Stamped) → number_done ∷ no_place ∷ stamp.first ∷ stamp.second ∷ [] ≡ four_values (Ok stamp)
unfolding four_values
four_done stamp = refl

pub five_unlike : (e : Undrawn) → undrawn_number e ∷ undrawn_place e ∷ 0 ∷ undrawn_line e ∷ undrawn_column e ∷ [] ≡ five_values (Err e)
unfolding five_values
five_unlike e = refl

pub six_done : (laid : Laid) → number_done ∷ no_place ∷ laid.written ∷ laid.pieces ∷ laid.lines ∷ laid.pages ∷ [] ≡ six_values (Ok laid)
unfolding six_values
six_done laid = refl

-- ---- The three values of a file, a mover and of marking

filed : (a : Result ℕ Refusal) → three_in refusal_number refusal_place a ≡ three_values a
unfolding three_values
filed (Ok w) = refl
filed (Err r) = refl

moved : (a : Result ℕ Refusal) → three_in refusal_number refusal_place a ≡ moved_values a
unfolding moved_values
moved (Ok w) = refl
moved (Err r) = refl

inked : (a : Result ℕ Uninked) → three_in uninked_number uninked_place a ≡ inked_values a
unfolding inked_values
inked (Ok w) = refl
inked (Err r) = refl

pub converted : {kind : Kind} {bytes : List ℕ} {W P : ℕ} {before after values : List ℕ} {a : Result ℕ Refusal}
    → Files kind (record { width = W; length = P }) bytes before a after
    → values ≡ three_in refusal_number refusal_place a → Converted kind bytes W P before after values
converted files told = record { answer = _; files = files; tells = told ∙ filed _ }

pub recast : {outcome : Outcome} {after values : List ℕ} {a : Result ℕ Refusal} → Ends outcome a after
    → values ≡ three_in refusal_number refusal_place a → Recast outcome after values
recast ends told = record { answer = _; ends = ends; tells = told ∙ moved _ }

pub inkprinted : {text before after values : List ℕ} {a : Result ℕ Uninked} → Inks text before a after
    → values ≡ three_in uninked_number uninked_place a → Inkprinted text before after values
inkprinted inks told = record { answer = _; inks = inks; tells = told ∙ inked _ }
