-- `framing::frame::locate` meets its contract: no sections in place of none are those of any image.
use Rattle.std.proofs.Common.{◌∙◌, ap, Option, unwrap_or}
use Rattle.table.specs.Sections.{no_sections}
use Rattle.table.specs.declared.Sections.{Sections}
use Rattle.framing.proofs.Frames.{or_none}
use Rattle.framing.proofs.frame.locate.Goals as goal

pub returns : goal.returns
returns c = record { is = c.unwrap_or.ensures ∙ ap (λ (o : Option Sections). unwrap_or o no_sections) c.framed.ensures.is ∙ or_none c.args.image.now }
