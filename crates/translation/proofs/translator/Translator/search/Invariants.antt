-- `Translator::search` meets its contract. The loop's invariant: no entry before `k` is admissible, and `at` is where entry `k`
-- lies. An entry whose first character is another than the rest's is passed over: its string doesn't begin the rest.
use Prim.Native.Nat.{ℕ, ◌<◌}
use mathlib.Core.Bool.{Bool, false}
use mathlib.Core.List.{List}
use mathlib.Core.Path.{◌≡◌}
use Rattle.table.specs.Sections.{offset}
use Rattle.table.specs.Table.{entry_at}
use Rattle.translation.specs.Decide.{States}
use Rattle.translation.specs.Choose.{admissible}
use Rattle.translation.specs.inside.States.{states_in}
use Rattle.translation.specs.inside.Tables.{table_by}
use Rattle.translation.specs.declared.translator.Translator.{Translator}
use Rattle.translation.proofs.translator.Translator.search.Given as goal

abbrev pub passes : Translator → States → List ℕ → ℕ → Bool
passes t states rest k = admissible (table_by t) t.setting states rest (entry_at t.image.now t.sections k)

abbrev pub invariant-loop-k : goal.invariant-loop-k
invariant-loop-k l = record {
  lies : l.at ≡ offset l.self.sections.contractions l.k;
  none : (j : ℕ) → j < l.k → passes l.self (states_in l.self.sections l.states) l.rest j ≡ false;
}
