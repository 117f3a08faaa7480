-- `pages::Place::format` meets its contract: each format sign is its own move, and any other sign is none.
use Rattle.pages.specs.Place.{after_item}
use Rattle.pages.specs.inside.Gather.{after_format}
use Rattle.pages.proofs.Place.format.Goals as goal

pub returns-in-Ok-LineEnd : goal.returns-in-Ok-LineEnd
unfolding after_format after_item
returns-in-Ok-LineEnd c = rw (rw c.in-Ok-LineEnd.field-0-is at c.in-Ok-LineEnd.ensures, after_format) c.line_end.ensures

pub returns-in-Ok-EmptyLine : goal.returns-in-Ok-EmptyLine
unfolding after_format after_item
returns-in-Ok-EmptyLine c = rw (rw c.in-Ok-EmptyLine.field-0-is at c.in-Ok-EmptyLine.ensures, after_format) c.empty_line.ensures

pub returns-in-Ok-Paragraph : goal.returns-in-Ok-Paragraph
unfolding after_format after_item
returns-in-Ok-Paragraph c = rw (rw c.in-Ok-Paragraph.field-0-is at c.in-Ok-Paragraph.ensures, after_format) c.paragraph.ensures

pub returns-in-Ok-PageEnd : goal.returns-in-Ok-PageEnd
unfolding after_format after_item
returns-in-Ok-PageEnd c = rw (rw c.in-Ok-PageEnd.field-0-is at c.in-Ok-PageEnd.ensures, after_format) c.page_end.ensures

pub returns-in-Err : goal.returns-in-Err
unfolding after_format
returns-in-Err c = rw (c.in-Err.ensures, after_format)
