-- 'Lines and pages', sign by sign: the word that is being gathered is placed where a sign ends it; where it has W cells and one more comes, its first part
-- is placed, W-1 of them and the hyphen, and the last of the W waits on with the one that came. proofs/Gather.antt shows that this is the layout of the words
-- and parts.
use Rattle.std.specs.Prelude.{ℕ, ◌+◌, ◌-◌, ◌≤◌, cond, List, [], ◌∷◌, ◌++◌, ltb, eqb, length, drop}
use Rattle.std.proofs.Math.Option.{none, some}
use Rattle.pages.specs.Words.{format_of, gathered, part_of, cut}
use Rattle.pages.specs.Place.{after_word, move_bytes, after_item, after_items, items_bytes, ended}
use Rattle.pages.specs.Signs.{ends_word}
use Rattle.pages.specs.declared.Gathering.{Gathering}
use Rattle.pages.specs.declared.Place.{Place}
use Rattle.pages.specs.declared.Sheet.{Sheet}

-- no number of the place is over `m`, which is far from the largest that a machine word holds
pub record Modest (m : ℕ) (p : Place) : Type 0 where
  pub column_most : p.column ≤ m
  pub line_most : p.line ≤ m
  pub written_most : p.written ≤ m
  pub lines_most : p.lines ≤ m
  pub pages_most : p.pages ≤ m

-- the `n` cells that are gathered are placed, if there are any
unfoldable pub after_flush : Sheet → Place → ℕ → Place
after_flush sheet p n = cond (ltb 0 n) (after_word sheet p n) p

abbrev pub flush_bytes : Sheet → Place → List ℕ → List ℕ
flush_bytes sheet p cells = move_bytes p (after_flush sheet p (length cells)) cells

-- a format sign; the blank moves nothing
unfoldable pub after_format : Sheet → Place → ℕ → Place
after_format sheet p g = elim (format_of g) [ none ↦ p | some format ↦ after_item sheet p format ]

abbrev pub format_bytes : Sheet → Place → ℕ → List ℕ
format_bytes sheet p g = move_bytes p (after_format sheet p g) []

-- a word of cells
abbrev pub word_bytes : Sheet → Place → List ℕ → List ℕ
word_bytes sheet p cells = move_bytes p (after_word sheet p (length cells)) cells

-- ---- One sign: a blank or a format sign places the cells that wait; a cell waits with them, and where they are W already it tells that the word is cut

-- the last of the W cells, and the one that came
abbrev pub cells_held : ℕ
cells_held = 2

unfoldable pub stepped : Sheet → Place → ℕ → ℕ → Gathering
stepped sheet p n g =
    cond (ends_word g) (record { place = after_format sheet (after_flush sheet p n) g; cells = 0 })
    (cond (eqb n sheet.width) (record { place = after_word sheet p sheet.width; cells = cells_held }) (record { place = p; cells = n + 1 }))

-- the cells that wait then
unfoldable pub waiting : Sheet → List ℕ → ℕ → List ℕ
waiting sheet cells g =
    cond (ends_word g) [] (cond (eqb (length cells) sheet.width) (drop (sheet.width - 1) cells ++ g ∷ []) (cells ++ g ∷ []))

-- what is written for the sign
unfoldable pub step_bytes : Sheet → Place → List ℕ → ℕ → List ℕ
step_bytes sheet p cells g =
    cond (ends_word g) (flush_bytes sheet p cells ++ format_bytes sheet (after_flush sheet p (length cells)) g)
    (cond (eqb (length cells) sheet.width) (word_bytes sheet p (part_of sheet.width cells)) [])

-- ---- All that is left: from a place, the cells that wait and the signs that follow, to the end of the text

unfoldable pub after_rest : Sheet → Place → List ℕ → List ℕ → Place
after_rest sheet p cells signs = after_items sheet p (ended (cut sheet.width (gathered cells signs)))

unfoldable pub rest_bytes : Sheet → Place → List ℕ → List ℕ → List ℕ
rest_bytes sheet p cells signs = items_bytes sheet p (ended (cut sheet.width (gathered cells signs)))
