-- Any two answers that the promise allows are equal.
use Prim.Native.Nat.{ℕ}
use mathlib.Core.List.{List}
use mathlib.Core.Path.{◌≡◌, sym, ◌∙◌}
use Rattle.records.specs.Promises.{RecordsJudged}
use Rattle.records.specs.Judged.{Judged}

pub judge_records_determined : {image : List ℕ} {a b : Judged} → RecordsJudged image a → RecordsJudged image b → a ≡ b
judge_records_determined p q = p.is ∙ sym q.is
