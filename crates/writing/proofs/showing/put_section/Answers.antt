-- `writing::showing::put_section` meets its contract. The loop's invariant: the lines of the first k records are put, each of at most 700 bytes.
use Prim.Native.Nat.{ℕ}
use mathlib.Core.List.{flatten}
use mathlib.Core.Path.{◌≡◌, sym, ◌∙◌, ap, subst}
use native.Mathlib.Omega.{arith}
use Rattle.table.specs.Search.{list_from, list_of}
use Rattle.table.specs.Sections.{record_part}
use Rattle.table.proofs.Reading.{part_within_lem}
use Rattle.form.specs.Showing.{shown_record}
use Rattle.writing.specs.inside.Puts.{Fitting}
use Rattle.writing.proofs.Puts.{pens_none, pens_then, pens_as}
use Rattle.writing.proofs.Shown.{records_step, section_none, section_some}
use Rattle.writing.proofs.showing.put_section.Goals as goal
use Rattle.writing.proofs.showing.put_section.Goals.{After-record_part}

-- the record of that number
part : (c : After-record_part) → c.record_part.result.now ≡ record_part c.args.image.now c.args.s c.loop-k.k 0 c.args.s.size
part c =
    let lies = c.requires.2.lies c.loop-k.k (omega arith) in
    c.record_part.ensures.is ∙ part_within_lem c.args.image.now c.args.s c.loop-k.k 0 c.args.s.size (omega arith)

pub returns-then-s-eq0 : goal.returns-then-s-eq0
returns-then-s-eq0 c =
    let a = c.args in
    (pens_as (section_none a.draft a.keyword a.image.now a.s c.if-s-eq0.true) (pens_none _), omega arith)

pub loop-k-init : goal.loop-k-init
unfolding flatten list_from
loop-k-init c = (pens_none _, omega arith)

pub put_line-requires : goal.put_line-requires
put_line-requires c =
    let a = c.args in
    let few = c.requires.2.few in
    let here = c.loop-k.invariant.1 in
    let begins = c.put.ensures.puts.goes in
    let fits = subst (Fitting a.draft a.keyword) (sym (part (goal.at.put_line-requires c).After-record_part)) (c.requires.2.fits c.loop-k.k (omega arith)) in
    (omega arith, c.requires.1, fits)

pub loop-k-preserved : goal.loop-k-preserved
loop-k-preserved c =
    let a = c.args in
    let shown = records_step a.draft a.keyword a.image.now a.s c.loop-k.k _ (part (goal.at.loop-k-preserved c).After-record_part) in
    (pens_as shown (pens_then c.loop-k.invariant.0 c.put_line.ensures.0), omega (arith, c.loop-k.invariant.1, c.put_line.ensures.1))

pub returns : goal.returns
returns c =
    let a = c.args in
    let few = c.requires.2.few in
    let here = c.loop-k.invariant.1 in
    let begins = c.put.ensures.puts.goes in
    let all : c.loop-k.k ≡ a.s.records = omega arith in
    let lines = pens_as (ap (λ (n : ℕ). flatten (list_of (shown_record a.draft a.keyword a.image.now a.s) n)) all) c.loop-k.invariant.0 in
    let shown = section_some a.draft a.keyword a.image.now a.s c.if-s-eq0.false in
    (pens_as shown (pens_then c.put.ensures lines), omega arith)
