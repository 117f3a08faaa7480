-- What a call that writes does to a buffer, for the layers above: its bytes stand there from a place on, and everything else is as it was. No heading of
-- document 01.
use Rattle.std.specs.Prelude.{ℕ, List, ◌≡◌}
use Rattle.std.proofs.lemmas.List.Edits.{sets}

-- `bytes` are written from place `at` on
pub record Wrote (before : List ℕ) (at : ℕ) (bytes after : List ℕ) : Type 0 where
  pub leaves : after ≡ sets before at bytes
