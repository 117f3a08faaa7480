-- `Translator::begins` meets its contract: the string is compared where it lies.
use mathlib.Core.Path.{◌∙◌, ap}
use Rattle.translation.proofs.Accepted.{opened}
use Rattle.translation.proofs.Entries.{string_read}
use Rattle.translation.specs.Choose.{begins}
use Rattle.translation.proofs.translator.Translator.begins.Goals as goal

pub returns : goal.returns
returns c =
    let t = c.args.self.now in
    let n = c.from.ensures ∙ c.record_byte-n.ensures.is in
    c.starts.ensures
    ∙ ap (λ string. begins string c.args.rest.now)
    (c.record_part-string.ensures.is ∙ rw n (string_read t.image.now t.sections (opened t) c.args.k c.requires))
