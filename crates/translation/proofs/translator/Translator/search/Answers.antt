-- `Translator::search` meets its contract: each entry lies within the image, and its first character is read there.
use borrow.Author.Count.{below_more}
use borrow.Author.Rules.{rules}
use Prim.Native.Nat.{ℕ, ◌+◌, ◌<◌}
use mathlib.Core.Path.{◌≡◌, sym, ◌∙◌, ap}
use native.Mathlib.Omega.{arith}
use lib.ListN.{get_or}
use Rattle.table.specs.Numbers.{string_byte}
use Rattle.table.specs.Sections.{offset, byte_at, record_byte}
use Rattle.table.proofs.Reading.{entry_inside}
use Rattle.table.proofs.Search.{found_first, found_none}
use Rattle.table.specs.inside.Found.{found}
use Rattle.translation.specs.inside.States.{states_in}
use Rattle.translation.proofs.Accepted.{opened}
use Rattle.translation.proofs.Entries.{first_differs, choice_read}
use Rattle.translation.proofs.Offsets.{walk_starts, walk_goes_on}
use Rattle.translation.proofs.translator.Translator.search.Goals as goal
use Rattle.translation.proofs.translator.Translator.search.Goals.{else-self-at-via-then-self-at+else-admits, else-self-at-via-else-self-at}

pub loop-k-init : goal.loop-k-init
loop-k-init c = record { lies = omega (arith, walk_starts c.args.self.now.sections.contractions); none = λ j u. absurd (omega arith) }

pub bounds-self-at : goal.bounds-self-at
bounds-self-at c =
    let t = c.args.self.now in
    let o = opened t in
    let lies = entry_inside t.image.now t.sections o.laid o.right c.loop-k.k (search rules) in
    let at-is = c.loop-k.invariant.lies in
    omega arith

pub returns-then-admits : goal.returns-then-admits
returns-then-admits c =
    let t = c.args.self.now in
    let read = choice_read t.image.now t.sections t.setting (states_in t.sections c.args.states.now) c.args.rest.now in
    ap found
    (sym
    (read ∙ found_first _ t.sections.contractions.records c.loop-k.k c.loop-k.invariant.none (search rules) (sym c.admits.ensures ∙ c.if-admits.true)))

pub overflow_add-at : goal.overflow_add-at
overflow_add-at c =
    let t = c.args.self.now in
    let laid = (opened t).laid.contractions_laid in
    let lies = laid.lies c.loop-k.k (search rules) in
    let long = c.well_formed in
    let at-is = c.loop-k.invariant.lies in
    record { fits = omega (arith, laid.size_is) }

pub overflow_add-at-in-loop-k : goal.overflow_add-at-in-loop-k
overflow_add-at-in-loop-k c =
    let t = c.args.self.now in
    let laid = (opened t).laid.contractions_laid in
    let lies = laid.lies c.loop-k.k (search rules) in
    let long = c.well_formed in
    let at-is = c.loop-k.invariant.lies in
    record { fits = omega (arith, laid.size_is) }

pub loop-k-preserved : goal.loop-k-preserved
unfolding record_byte byte_at
loop-k-preserved c =
    let t = c.args.self.now in
    let l = c.loop-k in
    let there : l.k < t.sections.contractions.records = search rules in
    let first_at : l.at + 1 ≡ offset t.sections.contractions l.k + string_byte = let e = l.invariant.lies in omega arith in
    record {
      lies = rw c.from-size.ensures (walk_goes_on t.sections.contractions l.k l.at l.invariant.lies);
      none =
          below_more _ _ l.invariant.none
          (elim c.else-self-at.branch [
            | else-self-at-via-then-self-at+else-admits w ↦ sym w.admits.ensures ∙ w.if-admits.false
            | else-self-at-via-else-self-at w ↦
                first_differs t.image.now t.sections (opened t) l.k there t.setting (states_in t.sections c.args.states.now) c.args.rest.now c.requires
                (λ e. w.if-self-at.false (ap (λ (x : ℕ). get_or t.image.now x 0) first_at ∙ e))
          ]);
    }

pub returns : goal.returns
returns c =
    let t = c.args.self.now in
    let read = choice_read t.image.now t.sections t.setting (states_in t.sections c.args.states.now) c.args.rest.now in
    ap found (sym (read ∙ found_none _ t.sections.contractions.records _ c.loop-k.invariant.none (search rules)))
