-- The format signs of the code and those of the definitions.
use Rattle.std.specs.Prelude.{ℕ, ◌≡◌, Result, MatchResult}
use Rattle.std.proofs.Math.Option.{none, some}
use Rattle.pages.specs.Words.{Item, line_end, empty_line, paragraph, page_end, format_of}
use Rattle.pages.specs.declared.ending.Format.{Format}
use Rattle.pages.specs.declared.ending.Format.TheVariants.{LineEnd, EmptyLine, Paragraph, PageEnd}
use Rattle.pages.specs.declared.ending.NoFormat.{NoFormat}

abbrev pub item_of : Format → Item
item_of LineEnd = line_end
item_of EmptyLine = empty_line
item_of Paragraph = paragraph
item_of PageEnd = page_end

-- the format sign that a sign is, or none
abbrev pub Names : ℕ → Result Format NoFormat → Type 0
Names g r = MatchResult r (λ f. format_of g ≡ some (item_of f)) (λ _. format_of g ≡ none)
