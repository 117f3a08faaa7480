-- `Translator::decide` meets its contract: a column decides what it says, or leaves it to those after it.
use borrow.Author.Rules.{rules}
use Prim.Native.Nat.{ℕ, ◌+◌, ◌<◌}
use mathlib.Core.Bool.{Bool, true, false}
use mathlib.Core.List.{List}
use mathlib.Core.Path.{◌≡◌, refl, sym, ◌∙◌, ap}
use Rattle.std.specs.Prelude.{Option, Some, None}
use Rattle.table.specs.Table.{Column, column_at}
use Rattle.translation.specs.Decide.{States, Ruling, accept, reject, next, ruling, decided}
use Rattle.translation.specs.inside.States.{states_in, said}
use Rattle.translation.specs.declared.translator.Translator.{Translator}
use Rattle.translation.proofs.Records.{columns_from, columns_end}
use Rattle.translation.proofs.translator.Translator.decide.Invariants.{decided_from}
use Rattle.translation.proofs.translator.Translator.decide.Goals as goal

by : Ruling → Bool → Bool
by o later = elim o [ accept ↦ true | reject ↦ false | next ↦ later ]

-- the columns from `k` on decide by what column `k` says
decided_by : (t : Translator) (states : States) (c k : ℕ) (answer : Option Bool) → k < t.sections.decisions.records
    → said answer ≡ ruling (column_at t.image.now t.sections k) states c
    → decided_from t states c k ≡ by (said answer) (decided_from t states c (k + 1))
unfolding decided by
decided_by t states c k answer l e =
    ap (λ (columns : List Column). decided columns states c) (columns_from t.image.now t.sections k l)
    ∙ ap (λ (o : Ruling). by o (decided_from t states c (k + 1))) (sym e)

answered : (accepted later : Bool) → by (said (Some accepted)) later ≡ accepted
unfolding by
answered true later = refl
answered false later = refl

pub returns-in-Some : goal.returns-in-Some
returns-in-Some c =
    let t = c.args.self.now in
    let states = states_in t.sections c.args.states.now in
    let ruled = decided_by t states c.args.c c.loop-k.k (Some c.in-Some.accepted) (search rules) c.in-Some.ensures in
    sym (sym c.loop-k.invariant ∙ ruled ∙ answered c.in-Some.accepted _)

pub loop-k-preserved : goal.loop-k-preserved
unfolding by
loop-k-preserved c =
    let t = c.args.self.now in
    let states = states_in t.sections c.args.states.now in
    sym (decided_by t states c.args.c c.loop-k.k None (search rules) c.in_default.ensures) ∙ c.loop-k.invariant

pub returns : goal.returns
unfolding decided
returns c =
    let t = c.args.self.now in
    let none_left = columns_end t.image.now t.sections c.loop-k.k (search rules) in
    sym (ap (λ (columns : List Column). decided columns (states_in t.sections c.args.states.now) c.args.c) none_left)
    ∙ c.loop-k.invariant
