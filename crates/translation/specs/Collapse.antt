-- 'Collapsing the text': bars and line feeds first, then the runs of blanks.
use Rattle.std.specs.Prelude.{ℕ, pred, true, false, cond, List, [], ◌∷◌, ltb, eqb}
use Rattle.table.specs.Numbers.{blank, bar}
use Rattle.translation.specs.Numbers.{line_feed, period, kept_blanks, kept_after_period}

-- line feed becomes a blank
unfoldable pub unfed : ℕ → ℕ
unfed c = cond (eqb c line_feed) blank c

-- first `|` is dropped and line feed becomes a blank
unfoldable pub unbarred : List ℕ → List ℕ
unbarred [] = []
unbarred (c ∷ text) = elim (eqb c bar) [ true ↦ unbarred text | false ↦ unfed c ∷ unbarred text ]

-- how many blanks are kept of a run that follows this character
unfoldable pub kept_after : ℕ → ℕ
kept_after c = cond (eqb c period) kept_after_period kept_blanks

-- of the run of blanks that stands here, if one does, only the first `kept` are kept
unfoldable pub thinned : ℕ → List ℕ → List ℕ
thinned kept [] = []
thinned kept (c ∷ text) =
    elim (eqb c blank) [
      | true ↦ elim (ltb 0 kept) [ true ↦ c ∷ thinned (pred kept) text | false ↦ thinned kept text ]
      | false ↦ c ∷ thinned (kept_after c) text
    ]

unfoldable pub collapsed : List ℕ → List ℕ
collapsed text = thinned kept_blanks (unbarred text)
