-- Any two results that a promise allows are equal.
use Rattle.std.proofs.Common.{◌≡◌, ℕ, List, sym, ◌∙◌}
use Rattle.stamp.specs.Promises.{Stamps, Tells}
use Rattle.stamp.specs.Stamping.{Answer}

pub stamp_determined : {image : List ℕ} {a b : Answer} → Stamps image a → Stamps image b → a ≡ b
stamp_determined p q = p.is ∙ sym q.is

-- `number_of`, `place_of`, `numbers_of`
pub value_determined : {value : Answer → ℕ} {stamped : Answer} {a b : ℕ} → Tells value stamped a → Tells value stamped b → a ≡ b
value_determined p q = p.is ∙ sym q.is
