-- How large a draft's records and numbers are, within the limits of the frame.
use Prim.Native.Nat.{◌+◌, ◌≤◌}
use mathlib.Core.Bool.{Bool, true, false, cond}
use mathlib.Core.List.{[], ◌∷◌}
use mathlib.Core.Path.{◌≡◌, refl}
use native.Mathlib.Omega.{arith}
use lib.Dec.{eqb}
use borrow.Author.Tests.{eqb-true}
use Rattle.form.specs.Fields.{fields_of, sizes_of}
use Rattle.form.specs.inside.Steps.{Modest}
use Rattle.form.specs.declared.Draft.{Draft}
use Rattle.form.specs.declared.Field.TheVariants.{Row}
use Rattle.form.specs.declared.Keyword.{Keyword}
use Rattle.form.specs.declared.Keyword.TheVariants.{Dated, Classes, Variables, Letter, Entry, Context, Transition, Decision}

-- a decision has a byte for each class and each variable
pub decision_size : (d : Draft) → sizes_of (fields_of d Decision) ≡ d.classes + d.variables
unfolding fields_of sizes_of
decision_size d = go (eqb d.variables 0) refl
  where
    go : (none : Bool) → eqb d.variables 0 ≡ none → d.classes + sizes_of (cond none [] (Row d.variables ∷ [])) ≡ d.classes + d.variables
    go true e = let z = eqb-true d.variables 0 e in omega arith
    go false e = omega arith

tail_small : (dated : Bool) → cond dated 8 4 ≤ 8
tail_small true = omega arith
tail_small false = omega arith

-- no record is longer than 64 bytes
pub record_small : (d : Draft) (k : Keyword) → Modest d → sizes_of (fields_of d k) ≤ 64
unfolding fields_of sizes_of
record_small d Dated m = omega arith
record_small d Classes m = omega arith
record_small d Variables m = omega arith
record_small d Letter m = omega arith
record_small d Entry m = let h = tail_small d.dated in omega arith
record_small d Context m = omega arith
record_small d Transition m = omega arith
record_small d Decision m = let s = decision_size d in omega arith
