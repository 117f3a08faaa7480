-- The whole call by a table that is given as lists: what `embossing` is by an accepted image. So the call can be said of a table without one of its entries,
-- of which there need be no image.
use Rattle.std.specs.Prelude.{ℕ, List, Ok, Err}
use Rattle.table.specs.Table.{Table}
use Rattle.translation.specs.Translate.{refused as not_made, translate_by}
use Rattle.translation.specs.declared.Setting.{Setting}
use Rattle.pages.specs.Volume.{sheet_verdict}
use Rattle.pages.specs.declared.Sheet.{Sheet}
use Rattle.layout.specs.Emboss.{Outcome, laid}

unfoldable pub embossed_by : Table → Setting → List ℕ → Sheet → List ℕ → Outcome
embossed_by table setting text sheet out =
    laid sheet out (elim (sheet_verdict sheet) [ Ok accepted ↦ translate_by table setting text | Err r ↦ not_made r ])
