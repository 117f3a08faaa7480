-- `tables::modest::ModestDraft::put_trailer` meets its contract: five numbers, two bytes and two marks, each where the one before it ends, are the trailer.
use Prim.Native.Nat.{ℕ, ◌+◌}
use mathlib.Core.Bool.{Bool, cond}
use mathlib.Core.List.{[], ◌∷◌}
use mathlib.Core.Path.{◌≡◌, ◌∙◌, ap, sym}
use native.Mathlib.Omega.{arith}
use Rattle.table.specs.Numbers.{first_mark, second_mark, dated_mark}
use Rattle.table.proofs.Wrote.{run_written}
use Rattle.tables.proofs.Trailer.{decisions_few, transitions_few, contexts_few, entries_few, letters_few, trailer_put}
use Rattle.tables.proofs.modest.ModestDraft.put_trailer.Goals as goal
use Rattle.tables.proofs.modest.ModestDraft.put_trailer.Goals.{then-draft, else-draft}

pub put_number-requires : goal.put_number-requires
put_number-requires c = (omega arith, rw c.letters_for.ensures (omega (arith, letters_few c.args.self.draft c.args.self.modest)))

pub put_number-requires-2 : goal.put_number-requires-2
put_number-requires-2 c = (omega arith, rw c.entries_for.ensures (omega (arith, entries_few c.args.self.draft c.args.self.modest)))

pub put_number-requires-3 : goal.put_number-requires-3
put_number-requires-3 c = (omega arith, rw c.contexts_for.ensures (omega (arith, contexts_few c.args.self.draft c.args.self.modest)))

pub put_number-requires-4 : goal.put_number-requires-4
put_number-requires-4 c = (omega arith, rw c.transitions_for.ensures (omega (arith, transitions_few c.args.self.draft c.args.self.modest)))

pub put_number-requires-5 : goal.put_number-requires-5
put_number-requires-5 c = (omega arith, rw c.decisions_for.ensures (omega (arith, decisions_few c.args.self.draft c.args.self.modest)))

pub returns : goal.returns
returns c =
    let d = c.args.self.draft in
    let mark_is : c.if-draft.last ≡ cond d.dated dated_mark second_mark =
    elim c.if-draft.branch [
      | then-draft w ↦ w.last-is ∙ sym (ap (λ (t : Bool). cond t dated_mark second_mark) w.if-draft.true)
      | else-draft w ↦ w.last-is ∙ sym (ap (λ (t : Bool). cond t dated_mark second_mark) w.if-draft.false)
    ] in
    let last = c.copy_from_slice.ensures.after ∙ ap (λ (m : ℕ). d.classes ∷ d.variables ∷ first_mark ∷ m ∷ []) mark_is in
    trailer_put d c.args.self.modest c.args.at c.args.out.now c.put_number.new.out c.put_number-2.new.out
    c.put_number-3.new.out c.put_number-4.new.out c.put_number-5.new.out
    c.put_number.ensures c.letters_for.ensures
    c.put_number-2.ensures c.entries_for.ensures
    c.put_number-3.ensures c.contexts_for.ensures
    c.put_number-4.ensures c.transitions_for.ensures
    c.put_number-5.ensures c.decisions_for.ensures
    (run_written c.put_number-5.new.out c.copy_from_slice.new.self (c.args.at + 10) (c.args.at + 14) _ last (omega arith) (omega arith))
