-- What follows the end of the text is looked at where a right context is asked past it, and nowhere else. So two symbols of one class make the same pieces;
-- where no entry has a right context any two do; and a call by one of two such settings answers as by the other, unless one of them is refused with 15.
use Prim.Native.Nat.{ℕ, zero, suc, ◌<◌, ◌≤◌}
use mathlib.Core.Bool.{Bool, true, false}
use mathlib.Core.List.{List, [], ◌∷◌, flatten, map}
use mathlib.Core.Option.{Option, none, some}
use mathlib.Core.Path.{◌≡◌, refl, sym, ◌∙◌, ap}
use native.Mathlib.Decide.{dec_le}
use native.Mathlib.Omega.{arith}
use lib.ListN.{length}
use borrow.Author.Tests.{eq-eqb}
use Rattle.table.specs.Numbers.{no_context, most_text}
use Rattle.table.specs.Table.{Table, table_of}
use Rattle.table.specs.Verdict.{verdict_of}
use Rattle.table.specs.declared.Refusal.TheVariants.{Following}
use Rattle.std.specs.Prelude.{Ok, Err}
use Rattle.table.specs.Answers.{Verdict}
use Rattle.table.proofs.Search.{first_same}
use Rattle.table.proofs.Sound.{accepted_sound}
use Rattle.translation.proofs.Consumed.{consumed}
use Rattle.translation.specs.Collapse.{collapsed}
use Rattle.translation.specs.Letters.{class_of, is_known, first_unknown}
use Rattle.translation.specs.Decide.{States, start_states}
use Rattle.translation.specs.Choose.{class_after, context_holds, admissible, entry, choice}
use Rattle.translation.specs.Pieces.{characters, piece_by, front_piece, pieces_from, pieces_in, pieces_of}
use Rattle.translation.specs.Translate.{Result, refused, translate_by, translate_on}
use Rattle.translation.specs.declared.Setting.{Setting}
use Rattle.translation.specs.declared.Terms.{Terms}
use Rattle.translation.proofs.Outcomes.{too_long, unknown_at, following_refused, made_by, table_refused, also_refused, goes_on}

-- no entry has a right context
abbrev pub NoContexts : Table → Type 0
NoContexts table = (k : ℕ) → k < length table.entries → (entry table k).context ≡ no_context

-- the following symbol is never consumed: whichever it is, the pieces' characters, joined, are the collapsed text
pub following_never_consumed : (image text : List ℕ) → verdict_of image ≡ Ok tt → (setting : Setting)
    → flatten (map characters (pieces_of (table_of image) setting text)) ≡ collapsed text
unfolding pieces_of
following_never_consumed image text accepted setting = consumed (table_of image) setting (accepted_sound image accepted) (collapsed text)

-- ---- Where each entry is admissible alike, the pieces are the same

module _ (table : Table) (u v : Setting)
    (alike : (states : States) (rest : List ℕ) (k : ℕ) → k < length table.entries
    → admissible table u states rest (entry table k) ≡ admissible table v states rest (entry table k)) where
  same_choice : (states : States) (rest : List ℕ) → choice table u states rest ≡ choice table v states rest
  unfolding choice
  same_choice states rest = first_same _ _ (length table.entries) (alike states rest)

  same_front : (states : States) (rest : List ℕ) → front_piece table u states rest ≡ front_piece table v states rest
  unfolding front_piece
  same_front states rest = ap (piece_by table states rest) (same_choice states rest)

  same_from : (n : ℕ) (states : States) (rest : List ℕ) → pieces_from table u n states rest ≡ pieces_from table v n states rest
  unfolding pieces_from
  same_from zero states rest = refl
  same_from (suc n) states [] = refl
  same_from (suc n) states (c ∷ rest) = rw (same_front states (c ∷ rest), same_from n)

  pub same_pieces : (text : List ℕ) → pieces_of table u text ≡ pieces_of table v text
  unfolding pieces_of pieces_in
  same_pieces text = same_from (length (collapsed text)) (start_states table) (collapsed text)

module _ (table : Table) (u v : Setting) (same_year : u.year ≡ v.year) where
  -- ---- Symbols of one class

  class_after_lem : class_of table.letters u.following ≡ class_of table.letters v.following → (rest : List ℕ) (n : ℕ)
      → class_after table u rest n ≡ class_after table v rest n
  unfolding class_after
  class_after_lem e [] n = e
  class_after_lem e (x ∷ rest) zero = refl
  class_after_lem e (x ∷ rest) (suc n) = class_after_lem e rest n

  -- settings that differ only in the symbol, both of one class, give the same pieces
  pub same_class_same_pieces : class_of table.letters u.following ≡ class_of table.letters v.following → (text : List ℕ)
      → pieces_of table u text ≡ pieces_of table v text
  unfolding admissible context_holds
  same_class_same_pieces e = same_pieces table u v (λ states rest k l. rw (class_after_lem e rest (length (entry table k).string), same_year))

  -- ---- No right context

  pub no_context_same_pieces : NoContexts table → (text : List ℕ) → pieces_of table u text ≡ pieces_of table v text
  unfolding admissible context_holds
  no_context_same_pieces h = same_pieces table u v (λ states rest k l. rw (eq-eqb _ _ (h k l), same_year))

-- ---- The call: where the pieces are the same, so is what a text comes to, unless one of the symbols isn't in the alphabet

-- refused with 15 by one of two settings, or the same by both
pub data SameUnless15 (a b : Result) : Type 0 where
  first_15 : a ≡ refused Following → SameUnless15 a b
  second_15 : b ≡ refused Following → SameUnless15 a b
  same_result : a ≡ b → SameUnless15 a b

module _ (table : Table) (u v : Setting) (text : List ℕ) (same : pieces_of table u text ≡ pieces_of table v text) where
  same_by : SameUnless15 (translate_by table u text) (translate_by table v text)
  same_by = by_length (dec_le (length text) most_text)
    where
      by_following : length text ≤ most_text → first_unknown table.letters text ≡ none → (b c : Bool) → is_known table.letters u.following ≡ b
          → is_known table.letters v.following ≡ c → SameUnless15 (translate_by table u text) (translate_by table v text)
      by_following short f false c e g = first_15 (following_refused table u text short f e)
      by_following short f true false e g = second_15 (following_refused table v text short f g)
      by_following short f true true e g = same_result (rw (made_by table u text short f e, made_by table v text short f g, same))

      by_letters : length text ≤ most_text → (o : Option ℕ) → first_unknown table.letters text ≡ o → SameUnless15 (translate_by table u text) (translate_by table v text)
      by_letters short none f = by_following short f _ _ refl refl
      by_letters short (some at) f = same_result (unknown_at table u text at short f ∙ sym (unknown_at table v text at short f))

      by_length : Dec (length text ≤ most_text) → SameUnless15 (translate_by table u text) (translate_by table v text)
      by_length (yes short) = by_letters short (first_unknown table.letters text) refl
      by_length (no d) = same_result (too_long table u text (omega arith) ∙ sym (too_long table v text (omega arith)))

-- on terms that differ in the symbol alone
abbrev pub terms_with : Setting → Verdict → Terms
terms_with setting also = record { setting = setting; also = also }

pub same_on_terms : (image text : List ℕ) (also : Verdict) (u v : Setting) → pieces_of (table_of image) u text ≡ pieces_of (table_of image) v text
    → SameUnless15 (translate_on (terms_with u also) image text) (translate_on (terms_with v also) image text)
same_on_terms image text also u v same = go (verdict_of image) refl also refl
  where
    lifted : verdict_of image ≡ Ok tt → also ≡ Ok tt → SameUnless15 (translate_by (table_of image) u text) (translate_by (table_of image) v text)
        → SameUnless15 (translate_on (terms_with u also) image text) (translate_on (terms_with v also) image text)
    lifted e f (first_15 x) = first_15 (goes_on (terms_with u also) image text e f ∙ x)
    lifted e f (second_15 x) = second_15 (goes_on (terms_with v also) image text e f ∙ x)
    lifted e f (same_result x) = same_result (goes_on (terms_with u also) image text e f ∙ x ∙ sym (goes_on (terms_with v also) image text e f))

    go : (w : Verdict) → verdict_of image ≡ w → (x : Verdict) → also ≡ x
        → SameUnless15 (translate_on (terms_with u also) image text) (translate_on (terms_with v also) image text)
    go (Err r) e x f =
        same_result (table_refused (terms_with u also) image text r e ∙ sym (table_refused (terms_with v also) image text r e))
    go (Ok a) e (Err r) f =
        same_result (also_refused (terms_with u also) image text r e f ∙ sym (also_refused (terms_with v also) image text r e f))
    go (Ok a) e (Ok b) f = lifted e f (same_by (table_of image) u v text same)
