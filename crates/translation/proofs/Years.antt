-- Which entries a year leaves, over pieces: by a table whose entries are always in force every year gives the same pieces, and two tables that are alike in
-- a year give the same in that year, but for the entries' numbers. The idea: a piece is by the first entry that is admissible, and that one is the
-- first of those in force whose string, context and class allow it.
use Prim.Native.Nat.{ℕ, zero, suc, ◌≤◌, ◌<◌}
use mathlib.Core.Bool.{Bool, true, false, ◌&&◌}
use mathlib.Core.List.{List, [], ◌∷◌, ◌++◌, map}
use mathlib.Core.Option.{Option, none, some}
use mathlib.Core.Path.{◌≡◌, refl, sym, ◌∙◌, ap, ap₂}
use native.Mathlib.Omega.{arith}
use lib.ListN.{length, get_or, drop}
use borrow.Author.Tests.{le-leb}
use Rattle.table.specs.Numbers.{blank, latest_year}
use Rattle.table.specs.Table.{Table, Entry, Letter}
use Rattle.table.specs.Sound.{Always}
use Rattle.table.proofs.Search.{first_found, first_missing}
use Rattle.translation.specs.Collapse.{collapsed}
use Rattle.translation.specs.Letters.{letter_for}
use Rattle.translation.specs.Decide.{States, start_states, moved, decided}
use Rattle.translation.specs.Choose.{begins, class_after, context_holds, in_force, admissible, no_entry, entry, choice}
use Rattle.translation.specs.Pieces.{Piece, piece_by, front_piece, pieces_from, pieces_in, pieces_of, printed, signs_of}
use Rattle.translation.specs.Years.{undated, entries_in_force, AlikeIn, without, without_entry, unnumbered}
use Rattle.translation.specs.declared.Setting.{Setting}
use Rattle.translation.proofs.Following.{same_pieces}

-- ---- Entries that are always in force

always_in_force : (e : Entry) → Always e → (year : ℕ) → year ≤ latest_year → in_force year e ≡ true
unfolding in_force
always_in_force e always year most =
    let f = always.first_is in let l = always.last_is in rw (le-leb e.first year (omega arith), le-leb year e.last (omega arith))

-- every year gives the same pieces
pub always_same_pieces : (table : Table) → ((k : ℕ) → k < length table.entries → Always (entry table k)) → (u v : Setting)
    → u.following ≡ v.following → u.year ≤ latest_year → v.year ≤ latest_year → (text : List ℕ) → pieces_of table u text ≡ pieces_of table v text
unfolding admissible context_holds class_after
always_same_pieces table always u v follows before after =
    same_pieces table u v
    (λ states rest k l.
    rw (always_in_force (entry table k) (always k l) u.year before, always_in_force (entry table k) (always k l) v.year after, follows))

-- ---- The first entry that is admissible

-- the first member that passes the test
winner : (Entry → Bool) → List Entry → Option Entry
winner test [] = none
winner test (e ∷ es) = elim (test e) [ true ↦ some e | false ↦ winner test es ]

none_wins : (test : Entry → Bool) (es : List Entry) → ((j : ℕ) → j < length es → test (get_or es j no_entry) ≡ false) → winner test es ≡ none
unfolding winner
none_wins test [] h = refl
none_wins test (e ∷ es) h = rw (h 0 (omega arith), winner) (none_wins test es (λ j l. h (suc j) (omega arith)))

wins : (test : Entry → Bool) (es : List Entry) (k : ℕ) → k < length es → test (get_or es k no_entry) ≡ true
    → ((j : ℕ) → j < k → test (get_or es j no_entry) ≡ false) → winner test es ≡ some (get_or es k no_entry)
unfolding winner
wins test [] k l h earlier = absurd (omega arith)
wins test (e ∷ es) zero l h earlier = rw (h, winner)
wins test (e ∷ es) (suc k) l h earlier = rw (earlier 0 (omega arith), winner) (wins test es k (omega arith) h (λ j u. earlier (suc j) (omega arith)))

same_winners : {test other : Entry → Bool} → ((e : Entry) → test e ≡ other e) → (es : List Entry) → winner test es ≡ winner other es
unfolding winner
same_winners h [] = refl
same_winners {other = other} h (e ∷ es) =
    rw (h e, winner) (ap (λ (later : Option Entry). elim (other e) [ true ↦ some e | false ↦ later ]) (same_winners h es))

-- a piece by an entry, or by the character at the front, without a number
piece_of : List Letter → States → List ℕ → Option Entry → Piece
piece_of letters now rest none =
    let l = letter_for letters (get_or rest 0 blank) in
    record { rest = rest; states = now; chosen = none; shift = 1; class = l.class; signs = l.sign ∷ [] }
piece_of letters now rest (some e) = record { rest = rest; states = now; chosen = none; shift = e.shift; class = e.class; signs = e.signs }

module _ (table : Table) (setting : Setting) (now : States) (rest : List ℕ) where
  -- what is asked of an entry besides its years
  allowed : Entry → Bool
  allowed e = begins e.string rest && context_holds table setting rest e && decided table.decisions now e.class

  in_force_allowed : (e : Entry) → in_force setting.year e ≡ true → admissible table setting now rest e ≡ allowed e
  unfolding admissible allowed
  in_force_allowed e f = go (begins e.string rest) refl
    where
      go : (b : Bool) → begins e.string rest ≡ b → admissible table setting now rest e ≡ allowed e
      go true s = rw (s, f)
      go false s = rw s

  -- an entry that is always in force is admissible as it was before there were years
  pub always_admissible : (e : Entry) → Always e → setting.year ≤ latest_year
      → admissible table setting now rest e ≡ (begins e.string rest && context_holds table setting rest e && decided table.decisions now e.class)
  unfolding allowed
  always_admissible e always most = in_force_allowed e (always_in_force e always setting.year most)

  passed_over : (e : Entry) → in_force setting.year e ≡ false → admissible table setting now rest e ≡ false
  unfolding admissible
  passed_over e f = go (begins e.string rest) refl
    where
      go : (b : Bool) → begins e.string rest ≡ b → admissible table setting now rest e ≡ false
      go true s = rw (s, f)
      go false s = rw s

  undated_allowed : (e : Entry) → allowed (undated e) ≡ allowed e
  unfolding allowed undated context_holds
  undated_allowed e = refl

  -- the first that is admissible gives the piece of the first of those in force that is allowed
  same_winner : (es : List Entry)
      → piece_of table.letters now rest (winner (admissible table setting now rest) es)
      ≡ piece_of table.letters now rest (winner allowed (entries_in_force setting.year es))
  unfolding winner entries_in_force piece_of undated
  same_winner [] = refl
  same_winner (e ∷ es) = go (in_force setting.year e) refl (allowed e) refl (same_winner es)
    where
      go : (b : Bool) → in_force setting.year e ≡ b → (c : Bool) → allowed e ≡ c
          → piece_of table.letters now rest (winner (admissible table setting now rest) es)
          ≡ piece_of table.letters now rest (winner allowed (entries_in_force setting.year es))
          → piece_of table.letters now rest (winner (admissible table setting now rest) (e ∷ es))
          ≡ piece_of table.letters now rest (winner allowed (entries_in_force setting.year (e ∷ es)))
      go true f true a later = rw (f, entries_in_force, in_force_allowed e f ∙ a, winner, undated_allowed e ∙ a)
      go true f false a later = rw (f, entries_in_force, in_force_allowed e f ∙ a, winner, undated_allowed e ∙ a) later
      go false f c a later = rw (f, entries_in_force, passed_over e f, winner) later

  front_by_winner :
      unnumbered (front_piece table setting now rest) ≡ piece_of table.letters now rest (winner (admissible table setting now rest) table.entries)
  unfolding front_piece choice unnumbered piece_by piece_of
  front_by_winner = go (choice table setting now rest) refl
    where
      test : Entry → Bool
      test = admissible table setting now rest

      go : (o : Option ℕ) → choice table setting now rest ≡ o
          → unnumbered (piece_by table now rest (choice table setting now rest)) ≡ piece_of table.letters now rest (winner test table.entries)
      go none e =
          let m = first_missing (λ k. test (entry table k)) 0 (length table.entries) e in
          let w = none_wins test table.entries (λ j l. m j (omega arith) (omega arith)) in
          rw (e, w)
      go (some k) e =
          let f = first_found (λ j. test (entry table j)) 0 (length table.entries) k e in
          let w = wins test table.entries k (let h = f.high in omega arith) f.passes (λ j l. f.earlier j (omega arith) l) in
          rw (e, w)

  -- the piece at the front is by the entries in force
  front_in_force :
      unnumbered (front_piece table setting now rest)
      ≡ piece_of table.letters now rest (winner allowed (entries_in_force setting.year table.entries))
  front_in_force = front_by_winner ∙ same_winner table.entries

-- ---- Two tables that are alike in the year

module _ (setting : Setting) (a b : Table) (alike : AlikeIn setting.year a b) where
  same_allowed : (now : States) (rest : List ℕ) (e : Entry) → allowed a setting now rest e ≡ allowed b setting now rest e
  unfolding allowed context_holds class_after
  same_allowed now rest e = rw (alike.letters, alike.contexts, alike.decisions)

  same_front : (now : States) (rest : List ℕ) → unnumbered (front_piece a setting now rest) ≡ unnumbered (front_piece b setting now rest)
  same_front now rest =
      front_in_force a setting now rest
      ∙ ap₂ (λ (letters : List Letter) (e : Option Entry). piece_of letters now rest e) alike.letters
      (ap (winner (allowed a setting now rest)) alike.entries ∙ same_winners (same_allowed now rest) (entries_in_force setting.year b.entries))
      ∙ sym (front_in_force b setting now rest)

  same_moved : (c : ℕ) (now : States) → moved a c now ≡ moved b c now
  unfolding moved
  same_moved c now = rw alike.transitions

  same_start : start_states a ≡ start_states b
  unfolding start_states
  same_start = rw alike.transitions

  same_from : (n : ℕ) (now : States) (rest : List ℕ) → map unnumbered (pieces_from a setting n now rest) ≡ map unnumbered (pieces_from b setting n now rest)
  unfolding pieces_from
  same_from zero now rest = refl
  same_from (suc n) now [] = refl
  same_from (suc n) now (c ∷ rest) =
      let f = same_front now (c ∷ rest) in
      let class_is : (front_piece a setting now (c ∷ rest)).class ≡ (front_piece b setting now (c ∷ rest)).class =
      unfold unnumbered in ap (λ (p : Piece). p.class) f in
      let shift_is : (front_piece a setting now (c ∷ rest)).shift ≡ (front_piece b setting now (c ∷ rest)).shift =
      unfold unnumbered in ap (λ (p : Piece). p.shift) f in
      rw (f, class_is, shift_is, same_moved (front_piece b setting now (c ∷ rest)).class now)
      (ap (λ (ps : List Piece). unnumbered (front_piece b setting now (c ∷ rest)) ∷ ps)
      (same_from n (moved b (front_piece b setting now (c ∷ rest)).class now) (drop (front_piece b setting now (c ∷ rest)).shift (c ∷ rest))))

  -- they give the same pieces, but for the entries' numbers
  pub alike_pieces : (text : List ℕ) → map unnumbered (pieces_of a setting text) ≡ map unnumbered (pieces_of b setting text)
  unfolding pieces_of pieces_in
  alike_pieces text = rw same_start (same_from (length (collapsed text)) (start_states b) (collapsed text))

-- ---- A piece's signs don't come from its number

pub unnumbered_signs : (ps : List Piece) → signs_of (map unnumbered ps) ≡ signs_of ps
unfolding signs_of unnumbered
unnumbered_signs [] = refl
unnumbered_signs (p ∷ ps) = ap (λ (gs : List ℕ). printed p.signs ++ gs) (unnumbered_signs ps)

-- ---- An entry that isn't in force is as if it weren't there

left_out : (year k : ℕ) (es : List Entry) → in_force year (get_or es k no_entry) ≡ false → entries_in_force year (without k es) ≡ entries_in_force year es
unfolding entries_in_force without
left_out year k [] f = refl
left_out year zero (e ∷ es) f = rw (f, entries_in_force)
left_out year (suc k) (e ∷ es) f =
    ap (λ (later : List Entry). elim (in_force year e) [ true ↦ undated e ∷ later | false ↦ later ]) (left_out year k es f)

pub alike_without : (year k : ℕ) (table : Table) → in_force year (entry table k) ≡ false → AlikeIn year (without_entry k table) table
alike_without year k table f =
    record { letters = refl; entries = left_out year k table.entries f; contexts = refl; transitions = refl; decisions = refl }
