-- 'Dates on entries', of two tables: the entries in force in a year, years aside, and when two tables are alike in it. And of pieces: the same but for the
-- number of the entry in its table.
use Rattle.std.specs.Prelude.{ℕ, zero, suc, true, false, List, [], ◌∷◌, ◌≡◌}
use Rattle.std.proofs.Math.Option.{none}
use Rattle.table.specs.Numbers.{earliest_year, latest_year}
use Rattle.table.specs.Table.{Table, Entry}
use Rattle.translation.specs.Choose.{in_force}
use Rattle.translation.specs.Pieces.{Piece}

-- an entry, its years aside
unfoldable pub undated : Entry → Entry
undated e =
    record {
      string = e.string;
      context = e.context;
      class = e.class;
      shift = e.shift;
      signs = e.signs;
      first = earliest_year;
      last = latest_year;
    }

-- the entries in force in the year, in table order, years aside
unfoldable pub entries_in_force : ℕ → List Entry → List Entry
entries_in_force year [] = []
entries_in_force year (e ∷ es) = elim (in_force year e) [ true ↦ undated e ∷ entries_in_force year es | false ↦ entries_in_force year es ]

-- two tables with the same entries in force in the year, in the same order, and otherwise equal
pub record AlikeIn (year : ℕ) (a b : Table) : Type 0 where
  pub letters : a.letters ≡ b.letters
  pub entries : entries_in_force year a.entries ≡ entries_in_force year b.entries
  pub contexts : a.contexts ≡ b.contexts
  pub transitions : a.transitions ≡ b.transitions
  pub decisions : a.decisions ≡ b.decisions

-- the list without member number `k`, counted from 0
unfoldable pub without : ℕ → List Entry → List Entry
without k [] = []
without zero (e ∷ es) = es
without (suc k) (e ∷ es) = e ∷ without k es

-- the table without entry number `k`
abbrev pub without_entry : ℕ → Table → Table
without_entry k table =
    record {
      letters = table.letters;
      entries = without k table.entries;
      contexts = table.contexts;
      transitions = table.transitions;
      decisions = table.decisions;
    }

-- a piece without the number of its entry
unfoldable pub unnumbered : Piece → Piece
unnumbered p = record { rest = p.rest; states = p.states; chosen = none; shift = p.shift; class = p.class; signs = p.signs }
