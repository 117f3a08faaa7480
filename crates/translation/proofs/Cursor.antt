-- The loop over the pieces: what is printed so far, and then the signs of the pieces still to come from the rest, are the signs of all pieces, and so with
-- their number. A piece takes a character at least, so the definition's bound on the pieces is never met before the text ends.
use Prim.Native.Nat.{ℕ, zero, suc, ◌+◌, ◌-◌, ◌*◌, ◌≤◌, ◌<◌}
use mathlib.Core.List.{List, [], ◌∷◌, ◌++◌, append_assoc, append-nil}
use mathlib.Core.Path.{◌≡◌, refl, sym, ◌∙◌, ap, ap₂, subst}
use native.Mathlib.Omega.{arith}
use lib.ListN.{length, take, drop, length-drop}
use borrow.Rule.Slice.PartMut.{put_mid}
use Rattle.table.specs.Numbers.{entry_signs}
use Rattle.table.specs.Table.{Table, table_in}
use Rattle.table.specs.declared.Sections.{Sections}
use Rattle.table.proofs.Sound.{sound_entries}
use Rattle.translation.specs.Decide.{States, start_states, moved}
use Rattle.translation.specs.Pieces.{Piece, front_piece, pieces_from, pieces_in, printed, signs_of}
use Rattle.translation.specs.inside.Opened.{Opened}
use Rattle.translation.specs.inside.States.{states_in}
use Rattle.translation.specs.inside.Making.{WroteUntil, MadeAs, Consumed}
use Rattle.translation.specs.declared.Counts.{Counts}
use Rattle.translation.specs.declared.Setting.{Setting}
use Rattle.translation.specs.declared.variables.States.{States as Held}
use Rattle.translation.specs.declared.piecing.Piece.{Piece as MadePiece}
use Rattle.translation.proofs.Writing.{wrote_nothing, wrote_behind}
use Rattle.translation.proofs.Chosen.{front_fits}
use Rattle.translation.proofs.Signs.{printed_at_most}

nothing_left : (rest : List ℕ) → length rest ≡ 0 → rest ≡ []
nothing_left [] e = refl
nothing_left (c ∷ rest) e = absurd (omega arith)

-- ---- The definition, one piece after another

module _ (table : Table) (setting : Setting) where
  none_to_come : (n : ℕ) (now : States) → pieces_from table setting n now [] ≡ []
  unfolding pieces_from
  none_to_come zero now = refl
  none_to_come (suc n) now = refl

  piece_to_come : (m n : ℕ) (now : States) (rest : List ℕ) → m ≡ suc n → 0 < length rest
      → pieces_from table setting m now rest
      ≡ front_piece table setting now rest
      ∷ pieces_from table setting n (moved table (front_piece table setting now rest).class now) (drop (front_piece table setting now rest).shift rest)
  unfolding pieces_from
  piece_to_come m n now [] e l = absurd (omega arith)
  piece_to_come m n now (c ∷ rest) e l = rw e

-- ---- The loop

-- a piece takes a character at least, and no more than there are
pub record Takes (rest : List ℕ) (shift : ℕ) : Type 0 where
  pub least : 1 ≤ shift
  pub most : shift ≤ length rest

module _ (image : List ℕ) (s : Sections) (setting : Setting) (text before : List ℕ) where
  abbrev all : List Piece
  all = pieces_in (table_in image s) setting text

  -- the pieces of the rest, where so many are made
  abbrev to_come : States → List ℕ → ℕ → List Piece
  to_come now rest pieces = pieces_from (table_in image s) setting (length text - pieces) now rest

  pub record Piecing (after : List ℕ) (held : Held) (rest : List ℕ) (counts : Counts) : Type 0 where
    pub done : List ℕ
    pub wrote : WroteUntil before 0 done after counts.signs
    pub four_each : counts.signs ≤ entry_signs * counts.pieces
    pub passed : counts.pieces + length rest ≤ length text
    pub signs : done ++ signs_of (to_come (states_in s held) rest counts.pieces) ≡ signs_of all
    pub counted : counts.pieces + length (to_come (states_in s held) rest counts.pieces) ≡ length all

  pub piecing_starts : (held : Held) → states_in s held ≡ start_states (table_in image s)
      → Piecing before held text (record { pieces = 0; signs = 0 })
  unfolding pieces_in
  piecing_starts held e =
      record {
        done = [];
        wrote = wrote_nothing before 0 (omega arith);
        four_each = omega arith;
        passed = omega arith;
        signs = ap signs_of start;
        counted = let e = ap length start in omega arith;
      }
    where
      start : to_come (states_in s held) text 0 ≡ all
      start = ap₂ (λ (n : ℕ) (now : States). pieces_from (table_in image s) setting n now text) (omega arith) e

  module _ {after : List ℕ} {held : Held} {rest : List ℕ} {counts : Counts} (p : Piecing after held rest counts) where
    abbrev front : Piece
    front = front_piece (table_in image s) setting (states_in s held) rest

    -- the pieces to come are the one at the front and those after it
    after_front : (made : MadePiece) (moves : Held) → 0 < length rest → made.shift ≡ front.shift → made.class ≡ front.class
        → states_in s moves ≡ moved (table_in image s) made.class (states_in s held)
        → to_come (states_in s held) rest counts.pieces ≡ front ∷ to_come (states_in s moves) (drop made.shift rest) (counts.pieces + 1)
    after_front made moves l shift class e =
        piece_to_come (table_in image s) setting (length text - counts.pieces) (length text - (counts.pieces + 1)) (states_in s held) rest
        (let a = p.passed in omega arith) l
        ∙ rw (← shift, ← class, ← e)

    pub takes : {lent part : List ℕ} {made : MadePiece} → Opened image s → 0 < length rest → MadeAs front lent part made → Takes rest made.shift
    takes opened l m =
        let f = front_fits (table_in image s) setting (sound_entries image s opened.laid opened.right) (states_in s held) rest l in
        let shift = m.shift_is in
        record { least = omega (arith, f.least); most = omega (arith, f.most) }

    pub piecing_goes_on : {part : List ℕ} {made : MadePiece} {moves : Held} → Opened image s → 0 < length rest
        → MadeAs front (take (length after - counts.signs) (drop counts.signs after)) part made
        → states_in s moves ≡ moved (table_in image s) made.class (states_in s held)
        → Piecing (put_mid counts.signs (length after - counts.signs) after part) moves (drop made.shift rest)
        (record { pieces = counts.pieces + 1; signs = counts.signs + made.signs })
    unfolding signs_of
    piecing_goes_on {part} {made} {moves} opened l m e =
        let right = sound_entries image s opened.laid opened.right in
        let f = front_fits (table_in image s) setting right (states_in s held) rest l in
        let fewer = printed_at_most front.signs in
        let shift = m.shift_is in
        let place = m.wrote.place in
        let next_piece = after_front made moves l m.shift_is m.class_is e in
        record {
          done = p.done ++ printed front.signs;
          wrote = wrote_behind p.wrote m.wrote;
          four_each = omega (arith, p.four_each, f.few);
          passed = rw length-drop (omega (arith, p.passed, f.least, f.most));
          signs =
              append_assoc p.done (printed front.signs) (signs_of (to_come (states_in s moves) (drop made.shift rest) (counts.pieces + 1)))
              ∙ rw next_piece at p.signs;
          counted = omega (arith, p.counted, ap length next_piece);
        }

    pub piecing_ends : length rest ≡ 0 → Consumed all before after counts
    unfolding signs_of
    piecing_ends l =
        let ended = ap (pieces_from (table_in image s) setting (length text - counts.pieces) (states_in s held)) (nothing_left rest l)
        ∙ none_to_come (table_in image s) setting (length text - counts.pieces) (states_in s held) in
        record {
          counted = omega (arith, p.counted, ap length ended);
          wrote =
              subst (λ (xs : List ℕ). WroteUntil before 0 xs after counts.signs) (sym (append-nil p.done) ∙ rw ended at p.signs) p.wrote;
        }
