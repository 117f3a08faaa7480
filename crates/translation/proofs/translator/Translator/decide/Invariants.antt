-- `Translator::decide` meets its contract. The loop's invariant: the columns from `k` on decide what all of them decide.
use Prim.Native.Nat.{ℕ}
use mathlib.Core.Bool.{Bool}
use mathlib.Core.Path.{◌≡◌}
use lib.ListN.{drop}
use Rattle.translation.specs.Decide.{States, decided}
use Rattle.translation.specs.inside.States.{states_in}
use Rattle.translation.specs.inside.Tables.{table_by}
use Rattle.translation.specs.declared.translator.Translator.{Translator}
use Rattle.translation.proofs.translator.Translator.decide.Given as goal

abbrev pub decided_from : Translator → States → ℕ → ℕ → Bool
decided_from t states c k = decided (drop k (table_by t).decisions) states c

abbrev pub invariant-loop-k : goal.invariant-loop-k
invariant-loop-k l =
    let states : States = states_in l.self.sections l.states in
    decided_from l.self states l.c l.k ≡ decided (table_by l.self).decisions states l.c
