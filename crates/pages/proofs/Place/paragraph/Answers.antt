-- `pages::Place::paragraph` meets its contract: the line's end, with the paragraph told.
use Rattle.pages.specs.Place.{after_paragraph}
use Rattle.pages.proofs.Place.paragraph.Goals as goal

pub returns : goal.returns
unfolding after_paragraph
returns c = rw c.line_end-ended.ensures
