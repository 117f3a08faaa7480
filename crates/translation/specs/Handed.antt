-- What a call of translation hands back: the answer, and the signs as lent, afterwards.
use Rattle.std.specs.Prelude.{ℕ, List, ◌++◌, ◌≡◌, length, drop, Result as Answer, Ok, Err}
use Rattle.table.specs.declared.Refusal.{Refusal}
use Rattle.translation.specs.Pieces.{signs_of}
use Rattle.translation.specs.Translate.{Result, made, refused, translate_on}
use Rattle.translation.specs.declared.Counts.{Counts}
use Rattle.translation.specs.declared.Terms.{Terms}

-- what is answered: how many pieces and how many signs, or the refusal
abbrev pub Translation : Type 0
Translation = Answer Counts Refusal

pub record Outcome : Type 0 where
  pub answer : Translation
  pub signs : List ℕ

-- when done, the signs of the pieces stand at the front, and everything beyond them is as it was; when refused, the signs are as they were
unfoldable pub handed : List ℕ → Result → Outcome
handed before (made pieces) =
    record {
      answer = Ok (record { pieces = length pieces; signs = length (signs_of pieces) });
      signs = signs_of pieces ++ drop (length (signs_of pieces)) before;
    }
handed before (refused r) = record { answer = Err r; signs = before }

-- a call that ends with this answer and these signs has this outcome
pub record Ends (outcome : Outcome) (answer : Translation) (after : List ℕ) : Type 0 where
  pub answers : answer ≡ outcome.answer
  pub leaves : after ≡ outcome.signs

unfoldable pub translation : Terms → List ℕ → List ℕ → List ℕ → Outcome
translation terms image text before = handed before (translate_on terms image text)
