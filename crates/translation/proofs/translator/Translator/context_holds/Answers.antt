-- `Translator::context_holds` meets its contract: no context holds, and another is read where it lies and asked for the class after the
-- whole string.
use mathlib.Core.Path.{sym, ◌∙◌, ap₂}
use Rattle.table.specs.Search.{member}
use Rattle.translation.proofs.Accepted.{opened}
use Rattle.translation.proofs.Entries.{no_context_holds, context_holds_by}
use Rattle.translation.proofs.Library.{any_member}
use Rattle.translation.proofs.translator.Translator.context_holds.Goals as goal

pub returns-then-number-eq0 : goal.returns-then-number-eq0
returns-then-number-eq0 c =
    let t = c.args.self.now in
    sym
    (no_context_holds t.image.now t.sections (opened t) c.args.k c.requires t.setting c.args.rest.now
    (sym c.record_byte-number.ensures.is ∙ c.if-number-eq0.true))

pub returns : goal.returns
returns c =
    let t = c.args.self.now in
    let number = c.record_byte-number.ensures.is in
    rw (
      context_holds_by t.image.now t.sections (opened t) c.args.k c.requires t.setting c.args.rest.now
          (λ e. c.if-number-eq0.false (number ∙ e)),
      ← number,
      ← c.record_byte.ensures.is,
      ← c.from.ensures,
      ← c.from-n.ensures,
    )
    (c.contains.ensures.value ∙ any_member _ _ ∙ ap₂ member c.class_after-c.ensures c.record_part.ensures.is)
