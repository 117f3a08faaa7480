-- `tables::modest::ModestDraft::entries_for` meets its contract: its product and its sum fit, as the limits of a modest draft bound them.
use Prim.Native.Nat.{ℕ, ◌+◌, ◌*◌, ◌≤◌}
use mathlib.Core.Bool.{Bool, cond}
use mathlib.Core.Path.{◌≡◌, ◌∙◌, ap, sym}
use native.Mathlib.Omega.{arith}
use Rattle.form.specs.Reading.{entry_size_for, contexts_for, entries_for}
use Rattle.tables.proofs.Trailer.{records_few, contexts_few}
use Rattle.tables.proofs.modest.ModestDraft.entries_for.Goals as goal
use Rattle.tables.proofs.modest.ModestDraft.entries_for.Goals.{After-from, then-self, else-self}

-- the bytes of an entry
size_is : (c : After-from) → c.if-self.size ≡ entry_size_for c.args.self.draft
unfolding entry_size_for
size_is c =
    elim c.if-self.branch [
      | then-self w ↦ w.size-is ∙ sym (ap (λ (t : Bool). cond t 22 18) w.if-self.true)
      | else-self w ↦ w.size-is ∙ sym (ap (λ (t : Bool). cond t 22 18) w.if-self.false)
    ]

few : (c : After-from) → c.if-self.size * c.from.result ≤ 26378
few c = rw (size_is c, c.from.ensures) (records_few c.args.self.draft c.args.self.modest)

pub overflow_mul-result : goal.overflow_mul-result
overflow_mul-result c = let h = few (goal.at.overflow_mul-result c).After-from in omega arith

pub overflow_add-result : goal.overflow_add-result
overflow_add-result c =
    let h = few (goal.at.overflow_add-result c).After-from in
    let rest = contexts_few c.args.self.draft c.args.self.modest in
    rw c.contexts_for.ensures (omega arith)

pub returns : goal.returns
unfolding entries_for
returns c =
    let here = (goal.at.returns c).After-from in
    let d = c.args.self.draft in
    ap (λ (n : ℕ). c.if-self.size * c.from.result + n) c.contexts_for.ensures
    ∙ ap (λ (n : ℕ). n * c.from.result + contexts_for d) (size_is here)
    ∙ ap (λ (n : ℕ). entry_size_for d * n + contexts_for d) c.from.ensures
