-- 'Refusals: the table checks; a refused image has the stamp 0 and 0.' A refusal is the answer exactly when its line of the table holds and no earlier one does.
use Rattle.std.proofs.Common.{◌≡◌, ℕ, ◌<◌, ◌↔◌, List, Ok, Err, sym, refl, ap, ◌∙◌, arith}
use Rattle.table.specs.Numbers.{number_done}
use Rattle.table.specs.FirstLine.{FirstLine}
use Rattle.table.specs.Refusals.{Line, verdict_number, verdict_place}
use Rattle.table.specs.Verdict.{verdict_of}
use Rattle.table.specs.Answers.{Verdict}
use Rattle.table.proofs.Refusals.{answer_exactly_when, answer_0_exactly_when}
use Rattle.stamp.specs.Numbers.{no_stamp}
use Rattle.stamp.specs.Stamping.{number, place, first, second, stamping}
use Rattle.stamp.proofs.Outcomes.{stamp_refused, stamp_done}

module _ (image : List ℕ) where
  -- the answer tells what the table's verdict tells
  as_checked : (number (stamping image) ≡ verdict_number (verdict_of image)) × (place (stamping image) ≡ verdict_place (verdict_of image))
  as_checked = go (verdict_of image) refl
    where
      go : (v : Verdict) → verdict_of image ≡ v
          → (number (stamping image) ≡ verdict_number (verdict_of image)) × (place (stamping image) ≡ verdict_place (verdict_of image))
      go (Err r) e = (ap number (stamp_refused image r e) ∙ sym (ap verdict_number e), ap place (stamp_refused image r e) ∙ sym (ap verdict_place e))
      go (Ok tt) e = (ap number (stamp_done image e) ∙ sym (ap verdict_number e), ap place (stamp_done image e) ∙ sym (ap verdict_place e))

  abbrev Answers : ℕ → ℕ → Type 0
  Answers n p = (number (stamping image) ≡ n) × (place (stamping image) ≡ p)

  -- each refusal is given exactly when its line of the table holds and no earlier one does
  pub refused_exactly_when : (n p : ℕ) → 0 < n → Answers n p ↔ FirstLine (Line image) n p
  refused_exactly_when n p h =
      let table = answer_exactly_when image n p h in (
        λ a. table.0 (sym as_checked.0 ∙ a.0, sym as_checked.1 ∙ a.1),
        λ l. (as_checked.0 ∙ (table.1 l).0, as_checked.1 ∙ (table.1 l).1),
      )

  -- an image is stamped exactly when no line holds
  pub done_exactly_when : (number (stamping image) ≡ number_done) ↔ ((t n p : ℕ) → Line image t n p → ⊥)
  done_exactly_when =
      let table = answer_0_exactly_when image in
      (λ a. table.0 (sym as_checked.0 ∙ a), λ none_holds. as_checked.0 ∙ table.1 none_holds)

  -- a refused image has the stamp 0 and 0
  pub refused_has_none : 0 < number (stamping image) → (first (stamping image) ≡ no_stamp) × (second (stamping image) ≡ no_stamp)
  refused_has_none h = go (verdict_of image) refl
    where
      go : (v : Verdict) → verdict_of image ≡ v → (first (stamping image) ≡ no_stamp) × (second (stamping image) ≡ no_stamp)
      go (Err r) e = (ap first (stamp_refused image r e), ap second (stamp_refused image r e))
      go (Ok tt) e = let n = ap number (stamp_done image e) in absurd (omega arith)
