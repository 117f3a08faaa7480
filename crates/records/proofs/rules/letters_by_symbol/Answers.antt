-- `records::rules::letters_by_symbol` meets its contract. The loop's invariant: each byte has the number of its first record among those passed.
use Rattle.std.proofs.Common.{ℕ, refl, subst, arith, ◌∙◌}
use lib.ListN.{get_or-replicate}
use Rattle.table.specs.Search.{first_from}
use Rattle.records.specs.inside.Judging.{letter_number, Gathered}
use Rattle.records.proofs.LetterNumbers.{gathered_old, gathered_new}
use Rattle.records.proofs.rules.letters_by_symbol.Goals as goal
use Rattle.records.proofs.rules.letters_by_symbol.Goals.{then-letters-c-eq0, else-letters-c-eq0}

pub loop-k-init : goal.loop-k-init
unfolding letter_number first_from
loop-k-init c = record { size = refl; numbers = λ b l. get_or-replicate 256 b 0 0 l }

pub loop-k-preserved : goal.loop-k-preserved
loop-k-preserved c =
    let a = c.args in
    let k = c.loop-k.k in
    let letters = c.loop-k.letters in
    let byte = c.from-c.result in
    let is_symbol = c.from-c.ensures ∙ c.record_byte.ensures.is in
    let new = gathered_new a.image.now a.s.alphabet k letters c.loop-k.invariant byte is_symbol (omega arith) in
    let old = gathered_old a.image.now a.s.alphabet k letters c.loop-k.invariant byte is_symbol (omega arith) in
    elim c.if-letters-c-eq0.branch [
      | then-letters-c-eq0 w ↦ rw w.letters-is (new w.if-letters-c-eq0.true)
      | else-letters-c-eq0 w ↦ rw w.letters-is (old w.if-letters-c-eq0.false)
    ]

pub returns : goal.returns
returns c =
    subst (λ (n : ℕ). Gathered c.args.image.now c.args.s.alphabet n c.loop-k.letters) (omega arith) c.loop-k.invariant
