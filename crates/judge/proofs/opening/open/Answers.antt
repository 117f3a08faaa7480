-- `judge::opening::open` meets its contract: no sections in place of none are those of any image.
use Rattle.std.proofs.Common.{◌∙◌, ap, refl, Option, unwrap_or}
use Rattle.table.specs.Sections.{no_sections}
use Rattle.table.specs.declared.Sections.{Sections}
use Rattle.framing.proofs.Frames.{or_none}
use Rattle.judge.proofs.opening.open.Goals as goal

pub returns : goal.returns
returns c =
    record {
      lent = refl;
      located = record { is = c.unwrap_or.ensures ∙ ap (λ (o : Option Sections). unwrap_or o no_sections) c.framed-found.ensures.is ∙ or_none c.args.image.now };
      checked = c.verdict_on.ensures;
    }
