-- `Translator::letter_of` meets its contract: each record of the section lies within the image, and its symbol is read there.
use borrow.Author.Count.{below_more}
use borrow.Author.Rules.{rules}
use Prim.Native.Nat.{ℕ, ◌+◌, ◌≤◌, ◌<◌}
use mathlib.Core.Path.{◌≡◌, sym, ◌∙◌, ap}
use native.Mathlib.Omega.{arith}
use lib.ListN.{get_or}
use borrow.Author.Tests.{eq-eqb, ne_eqb}
use Rattle.table.specs.Numbers.{symbol_byte}
use Rattle.table.specs.Sections.{offset, byte_at, record_byte}
use Rattle.table.proofs.Reading.{letters_long}
use Rattle.table.proofs.Search.{found_first, found_none}
use Rattle.translation.specs.Letters.{letter_of}
use Rattle.table.specs.inside.Found.{found}
use Rattle.translation.proofs.Accepted.{opened}
use Rattle.translation.proofs.Offsets.{walk_starts, walk_goes_on}
use Rattle.translation.proofs.Records.{symbol_read}
use Rattle.translation.proofs.translator.Translator.letter_of.Goals as goal

pub loop-k-init : goal.loop-k-init
loop-k-init c =
    record { lies = omega (arith, walk_starts c.args.self.now.sections.alphabet); none = λ j u. absurd (omega arith) }

pub bounds-self-at : goal.bounds-self-at
bounds-self-at c =
    let k = c.loop-k in
    let lies = (opened c.args.self.now).laid.alphabet_laid.lies k.k (search rules) in
    let at-is = k.invariant.lies in
    omega arith

pub returns-then-self-at : goal.returns-then-self-at
unfolding letter_of record_byte byte_at
returns-then-self-at c =
    let t = c.args.self.now in
    let l = c.loop-k in
    let there : l.k < t.sections.alphabet.records = search rules in
    let long = letters_long t.image.now t.sections in
    let read = symbol_read t.image.now t.sections c.args.c in
    let at-is : offset t.sections.alphabet l.k + symbol_byte ≡ l.at = let e = l.invariant.lies in omega arith in
    ap found
    (sym
    (found_first _ _ l.k (λ j u. read j (omega arith) ∙ l.invariant.none j u) (omega arith)
    (read l.k there ∙ eq-eqb _ _ (ap (λ (x : ℕ). get_or t.image.now x 0) at-is ∙ c.if-self-at.true))))

pub overflow_add-at : goal.overflow_add-at
overflow_add-at c =
    let laid = (opened c.args.self.now).laid.alphabet_laid in
    let lies = laid.lies c.loop-k.k (search rules) in
    let long = c.well_formed in
    let at-is = c.loop-k.invariant.lies in
    record { fits = omega (arith, laid.size_is) }

pub loop-k-preserved : goal.loop-k-preserved
unfolding record_byte byte_at
loop-k-preserved c =
    let t = c.args.self.now in
    let l = c.loop-k in
    let at-is : l.at ≡ offset t.sections.alphabet l.k + symbol_byte = let e = l.invariant.lies in omega arith in
    let other = ne_eqb _ _ (λ e. c.if-self-at.false (ap (λ (x : ℕ). get_or t.image.now x 0) at-is ∙ e)) in
    record {
      lies = rw c.from-at-in-loop-k.ensures (walk_goes_on t.sections.alphabet l.k l.at l.invariant.lies);
      none = below_more _ _ l.invariant.none other;
    }

pub returns : goal.returns
unfolding letter_of
returns c =
    let t = c.args.self.now in
    let l = c.loop-k in
    let ends : t.sections.alphabet.records ≤ l.k = search rules in
    let long = letters_long t.image.now t.sections in
    ap found (sym (found_none _ _ l.k (λ j u. symbol_read t.image.now t.sections c.args.c j (omega arith) ∙ l.invariant.none j u) (omega arith)))
