-- The piece at the front of a rest, as the code makes it: by the entry that the search finds, or by the character alone.
use Prim.Native.Nat.{ℕ, ◌<◌}
use mathlib.Core.List.{List}
use mathlib.Core.Option.{Option, none, some}
use mathlib.Core.Path.{◌≡◌, sym, ap, subst}
use native.Mathlib.Omega.{arith}
use lib.ListN.{length, get_or}
use Rattle.table.specs.Numbers.{blank}
use Rattle.table.specs.Table.{Entry, table_in, entry_at}
use Rattle.table.specs.declared.Sections.{Sections}
use Rattle.table.proofs.Search.{first_found}
use Rattle.table.proofs.Reading.{entries_long, entry_at_lem}
use Rattle.table.proofs.Lists.{get_or_there}
use Rattle.translation.specs.Letters.{letter_for}
use Rattle.translation.specs.Decide.{States}
use Rattle.translation.specs.Choose.{no_entry, choice}
use Rattle.translation.specs.Pieces.{Piece, piece_by, front_piece}
use Rattle.translation.specs.inside.Making.{MadeByEntry, MadeByLetter, MadeAs}
use Rattle.translation.specs.declared.Setting.{Setting}
use Rattle.translation.specs.declared.piecing.Piece.{Piece as MadePiece}

module _ (image : List ℕ) (s : Sections) (setting : Setting) (states : States) (rest : List ℕ) where
  abbrev chosen : Option ℕ
  chosen = choice (table_in image s) setting states rest

  abbrev front : Piece
  front = front_piece (table_in image s) setting states rest

  pub chosen_there : (k : ℕ) → chosen ≡ some k → k < s.contractions.records
  unfolding choice
  chosen_there k e = let f = first_found _ 0 (length (table_in image s).entries) k e in omega (arith, entries_long image s)

  front_is : (o : Option ℕ) → chosen ≡ o → front ≡ piece_by (table_in image s) states rest o
  unfolding front_piece
  front_is o e = ap (piece_by (table_in image s) states rest) e

  -- ---- As the code makes it

  module _ {before after : List ℕ} {made : MadePiece} where
    pub made_by_entry : (k : ℕ) → chosen ≡ some k
        → MadeByEntry (entry_at image s k) before after made
        → MadeAs front before after made
    unfolding piece_by
    made_by_entry k e m =
        subst (λ (p : Piece). MadeAs p before after made) (sym (front_is (some k) e))
        (subst (λ (x : Entry). MadeByEntry x before after made) (sym (entry_at_lem image s k no_entry (chosen_there k e))) m)

    pub made_by_letter : 0 < length rest → chosen ≡ none
        → MadeByLetter (letter_for (table_in image s).letters (get_or rest 0 0)) before after made
        → MadeAs front before after made
    unfolding piece_by
    made_by_letter l e m =
        subst (λ (p : Piece). MadeAs p before after made) (sym (front_is none e))
        (subst (λ (c : ℕ). MadeByLetter (letter_for (table_in image s).letters c) before after made) (get_or_there rest 0 0 blank l) m)
