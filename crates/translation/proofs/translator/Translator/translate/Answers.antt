-- `Translator::translate` meets its contract: a text that is too long, the first unknown character, a following symbol that is unknown, and otherwise the
-- pieces of the collapsed text, which stands at the front of the local buffer.
use borrow.Author.Rules.{rules}
use mathlib.Core.Bool.{true, false}
use mathlib.Core.Path.{◌≡◌, sym, ◌∙◌}
use native.Mathlib.Omega.{arith}
use Rattle.translation.specs.Pieces.{pieces_of}
use Rattle.translation.proofs.Collapse.{collapsed_at_most}
use Rattle.table.proofs.Search.{found_at, found_nothing}
use Rattle.translation.proofs.Writing.{front_long, front_is}
use Rattle.translation.proofs.Outcomes.{too_long, unknown_at, following_refused, made_by, ends_refused, ends_made}
use Rattle.translation.proofs.translator.Translator.translate.Goals as goal

pub returns-then-text-gt-MOST_TEXT : goal.returns-then-text-gt-MOST_TEXT
returns-then-text-gt-MOST_TEXT c = ends_refused (too_long _ _ _ c.if-text-gt-MOST_TEXT.true)

pub slice_bounds-collapsed-end : goal.slice_bounds-collapsed-end
slice_bounds-collapsed-end c =
    let wrote = c.collapse-n.ensures in
    rw (front_is wrote) (front_long wrote)

pub returns-in-Some : goal.returns-in-Some
returns-in-Some c =
    let place = found_at _ _ (sym c.first_unknown.ensures ∙ c.in-Some.is) in
    ends_refused (unknown_at _ _ _ _ c.if-text-gt-MOST_TEXT.false place)

pub returns-then-not-is_known : goal.returns-then-not-is_known
returns-then-not-is_known c =
    let fails : c.is_known.result ≡ false = search rules in
    let known = found_nothing _ (sym c.first_unknown.ensures ∙ c.in_default.is) in
    let unknown = sym c.is_known.ensures ∙ fails in
    ends_refused (following_refused _ _ _ c.if-text-gt-MOST_TEXT.false known unknown)

pub consume-requires : goal.consume-requires
consume-requires c =
    let most = collapsed_at_most c.args.text.now in
    let short = c.if-text-gt-MOST_TEXT.false in
    let room = c.requires in
    rw (front_is c.collapse-n.ensures) (omega arith)

pub returns : goal.returns
unfolding pieces_of
returns c =
    let holds : c.is_known.result ≡ true = search rules in
    let known = found_nothing _ (sym c.first_unknown.ensures ∙ c.in_default.is) in
    let there = sym c.is_known.ensures ∙ holds in
    ends_made (made_by _ _ _ c.if-text-gt-MOST_TEXT.false known there)
    (rw (front_is c.collapse-n.ensures) at c.consume.ensures)
