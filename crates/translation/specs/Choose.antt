-- 'An entry is admissible when', 'passes over entries outside their years', and the first admissible entry in table order. The search is given the rest of the text from its place on.
use Rattle.std.specs.Prelude.{ℕ, pred, Bool, true, false, ◌&&◌, ◌||◌, List, [], ◌∷◌, length, get_or, eqb}
use Rattle.std.proofs.Math.Option.{Option}
use Rattle.table.specs.Numbers.{no_context, earliest_year, latest_year}
use Rattle.table.specs.Search.{within, first, member}
use Rattle.table.specs.Table.{Table, Entry}
use Rattle.translation.specs.Letters.{class_of}
use Rattle.translation.specs.Decide.{States, decided}
use Rattle.translation.specs.declared.Setting.{Setting}

-- the whole string begins the rest
unfoldable pub begins : List ℕ → List ℕ → Bool
begins [] rest = true
begins (c ∷ string) [] = false
begins (c ∷ string) (x ∷ rest) = eqb c x && begins string rest

-- the class of the character after the first `n` of the rest; past the end of text, of the symbol that follows it
unfoldable pub class_after : Table → Setting → List ℕ → ℕ → ℕ
class_after table setting rest n = class_of table.letters (get_or rest n setting.following)

-- its right context is 0 or holds the class of the character after the whole string
unfoldable pub context_holds : Table → Setting → List ℕ → Entry → Bool
context_holds table setting rest e =
    eqb e.context no_context || member (class_after table setting rest (length e.string)) (get_or table.contexts (pred e.context) [])

-- the year is one of the entry's, the first and the last both counted in
unfoldable pub in_force : ℕ → Entry → Bool
in_force year e = within e.first e.last year

unfoldable pub admissible : Table → Setting → States → List ℕ → Entry → Bool
admissible table setting states rest e =
    begins e.string rest && in_force setting.year e && context_holds table setting rest e && decided table.decisions states e.class

-- what stands for an entry past the last
abbrev pub no_entry : Entry
no_entry = record { string = []; context = no_context; class = 0; shift = 0; signs = []; first = earliest_year; last = latest_year }

abbrev pub entry : Table → ℕ → Entry
entry table k = get_or table.entries k no_entry

-- the first admissible entry in table order
unfoldable pub choice : Table → Setting → States → List ℕ → Option ℕ
choice table setting states rest = first (λ k. admissible table setting states rest (entry table k)) (length table.entries)
