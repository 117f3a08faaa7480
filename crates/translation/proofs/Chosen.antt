-- Each piece is by the first admissible entry in table order, or by the alphabet record where no entry is admissible. The idea: every piece stands
-- at the front of a rest that isn't empty, and there the choice is the first number that passes the test `admissible`, which says the paper's words.
-- Where the entries are right a piece takes a character at least, no more than there are, and has four signs at most.
use Prim.Native.Nat.{ℕ, ◌≤◌, ◌<◌}
use mathlib.Core.Bool.{Bool, false}
use mathlib.Core.List.{List, [], ◌∷◌}
use mathlib.Core.Option.{Option, none, some}
use mathlib.Core.Path.{◌≡◌, refl, ◌∙◌, ap, subst}
use native.Mathlib.Omega.{arith}
use lib.ListN.{length, length-append}
use lib.Seq.{length-take-le}
use Rattle.table.specs.Numbers.{least_shift, entry_signs}
use Rattle.table.specs.Table.{Table}
use Rattle.table.specs.Sound.{EachOf, SoundEntry, Sound}
use Rattle.table.proofs.Search.{first_found, first_missing}
use Rattle.table.proofs.Tests.{clash}
use Rattle.translation.specs.Decide.{States}
use Rattle.translation.specs.Choose.{admissible, choice, no_entry, entry}
use Rattle.translation.specs.Pieces.{Piece, characters, piece_by, front_piece, pieces_in}
use Rattle.translation.specs.Admissible.{Admissible}
use Rattle.translation.specs.Chosen.{piece_in, ByEntry, Chosen}
use Rattle.translation.specs.declared.Setting.{Setting}
use Rattle.translation.proofs.Admissible.{admissible_as_written}
use Rattle.translation.proofs.Pieces.{front_rest, piece_at_front}

-- a piece of shift characters: as many as its shift, and at least one
pub record TakesShift (p : Piece) : Type 0 where
  pub least : 1 ≤ p.shift
  pub taken : length (characters p) ≡ p.shift

-- a piece takes a character at least, no more than there are, and has four signs at most
pub record Fits (rest : List ℕ) (p : Piece) : Type 0 where
  pub least : least_shift ≤ p.shift
  pub most : p.shift ≤ length rest
  pub few : length p.signs ≤ entry_signs

module _ (table : Table) (setting : Setting) where
  -- ---- The piece at the front of a rest

  pub front_chosen : (now : States) (c : ℕ) (after : List ℕ) → Chosen table setting (front_piece table setting now (c ∷ after))
  unfolding front_piece piece_by characters choice
  front_chosen now c after = chosen (choice table setting now (c ∷ after)) refl
    where
      passes : ℕ → Bool
      passes k = admissible table setting now (c ∷ after) (entry table k)

      refused : (j : ℕ) → passes j ≡ false → Admissible table setting now (c ∷ after) (entry table j) → ⊥
      refused j f a = clash ((admissible_as_written table setting now (c ∷ after) (entry table j)).1 a) f

      by_entry : (m k : ℕ) → choice table setting now (c ∷ after) ≡ some m → ◌≡◌ {A = Option ℕ} (some m) (some k)
          → ByEntry table setting (piece_by table now (c ∷ after) (some m)) k
      by_entry m k e same =
          let f = first_found passes 0 (length table.entries) k (e ∙ same) in
          let h : m ≡ k = cc in
          record {
            there = omega arith;
            admitted = (admissible_as_written table setting now (c ∷ after) (entry table k)).0 f.passes;
            none_earlier = λ j u. refused j (f.earlier j (omega arith) u);
            shift = ap (λ (x : ℕ). (entry table x).shift) h;
            class = ap (λ (x : ℕ). (entry table x).class) h;
            signs = ap (λ (x : ℕ). (entry table x).signs) h;
          }

      chosen : (o : Option ℕ) → choice table setting now (c ∷ after) ≡ o → Chosen table setting (piece_by table now (c ∷ after) o)
      chosen none e =
          record {
            by_entry = λ k same. let z : ◌≡◌ {A = ℕ} 0 1 = cc in absurd (omega arith);
            by_letter =
                λ same.
                record {
                  none_admissible = λ j u. refused j (first_missing passes 0 (length table.entries) e j (omega arith) (omega arith));
                  front = c;
                  after = after;
                  rest = refl;
                  shift = refl;
                  one = refl;
                  class = refl;
                  sign = refl;
                };
          }
      chosen (some m) e =
          record {
            by_entry = λ k same. by_entry m k e same;
            by_letter = λ same. let z : ◌≡◌ {A = ℕ} 0 1 = cc in absurd (omega arith);
          }

  -- ---- Each piece of a text

  pub first_in_order : (text : List ℕ) (i : ℕ) → i < length (pieces_in table setting text)
      → Chosen table setting (piece_in table setting text i)
  first_in_order text i l =
      let f = piece_at_front table setting text i l in
      subst (Chosen table setting) f.made (front_chosen f.now f.front f.after)

  -- ---- How much it takes

  module _ {classes contexts : ℕ} (right : EachOf (SoundEntry classes contexts table.letters) table.entries) where
    pub chosen_fits : {p : Piece} → Chosen table setting p → Fits p.rest p
    chosen_fits {p} by = go p.chosen refl
      where
        go : (o : Option ℕ) → p.chosen ≡ o → Fits p.rest p
        go none e =
            let b = by.by_letter e in
            let n = ap length b.rest in
            let one = ap length b.sign in
            record { least = omega arith; most = omega arith; few = omega arith }
        go (some k) e =
            let b = by.by_entry k e in
            let s = right k no_entry b.there in
            let n = ap length b.admitted.begins ∙ length-append (entry table k).string b.admitted.after in
            let four = ap length b.signs in
            record { least = omega arith; most = omega arith; few = omega arith }

    pub front_fits : (now : States) (rest : List ℕ) → 0 < length rest → Fits rest (front_piece table setting now rest)
    front_fits now [] l = absurd (omega arith)
    front_fits now (c ∷ after) l =
        subst (λ (rest : List ℕ). Fits rest (front_piece table setting now (c ∷ after))) (front_rest table setting now (c ∷ after))
        (chosen_fits (front_chosen now c after))

  pub piece_takes_shift : {classes variables : ℕ} → Sound classes variables table → (text : List ℕ) (i : ℕ)
      → i < length (pieces_in table setting text) → TakesShift (piece_in table setting text i)
  unfolding characters
  piece_takes_shift sound text i l =
      let f = chosen_fits sound.entries_right (first_in_order text i l) in
      record { least = f.least; taken = length-take-le _ _ f.most }
