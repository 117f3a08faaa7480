-- What a search of the code answers, by what the definition's search finds: the number of a record, or a place of a text. No heading of document 01.
use Rattle.std.specs.Prelude.{ℕ, Option, None, Some}
use Rattle.std.proofs.Math.Option as maybe

abbrev pub found : maybe.Option ℕ → Option ℕ
found maybe.none = None
found (maybe.some k) = Some k
