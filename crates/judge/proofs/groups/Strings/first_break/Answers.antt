-- `Strings::first_break` meets its contract. The invariant: no record before `r` breaks the grouping.
use Rattle.std.proofs.Common.{◌∙◌, sym, ap, arith, below_more}
use Rattle.judge.specs.inside.Groups.{strings_by}
use Rattle.table.specs.Grouping.{breaks_at, first_break}
use Rattle.table.specs.inside.Found.{found}
use Rattle.table.proofs.Search.{found_first, found_none}
use Rattle.table.proofs.GroupLaws.{keeps_by, strings_length}
use Rattle.judge.proofs.groups.Strings.first_break.Goals as goal

pub loop-r-init : goal.loop-r-init
loop-r-init c = λ k l. keeps_by _ k (λ q u. absurd (omega arith))

pub breaks_at-requires : goal.breaks_at-requires
breaks_at-requires c = (omega arith, omega arith, c.loop-r.invariant)

pub returns-then-breaks_at : goal.returns-then-breaks_at
unfolding first_break
returns-then-breaks_at c =
    let t = c.args.self.now in
    let n = strings_length t.image.now t.sections in
    sym
    (ap found
    (found_first (breaks_at (strings_by t)) _ c.loop-r.r c.loop-r.invariant (omega arith) (sym c.breaks_at.ensures ∙ c.if-breaks_at.true)))

pub loop-r-preserved : goal.loop-r-preserved
loop-r-preserved c = below_more _ _ c.loop-r.invariant (sym c.breaks_at.ensures ∙ c.if-breaks_at.false)

pub returns : goal.returns
unfolding first_break
returns c =
    let t = c.args.self.now in
    let n = strings_length t.image.now t.sections in
    sym (ap found (found_none (breaks_at (strings_by t)) _ c.loop-r.r c.loop-r.invariant (omega arith)))
