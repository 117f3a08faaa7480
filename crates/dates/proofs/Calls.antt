-- The round trips, said of the calls: where one mover is done the other takes what it wrote, and writes the image back where it has room. The results are any that
-- the promises of the two calls allow.
use Prim.Native.Nat.{ℕ, ◌≤◌}
use mathlib.Core.Bool.{Bool, true, false}
use mathlib.Core.List.{List}
use mathlib.Core.Option.{Option, none, some}
use mathlib.Core.Path.{◌≡◌, refl, sym, ◌∙◌, ap, subst}
use lib.ListN.{length, drop}
use lib.Seq.{take-append_seam}
use Rattle.std.specs.Prelude.{Ok}
use Rattle.table.specs.Numbers.{number_done}
use Rattle.table.specs.Sections.{is_dated}
use Rattle.table.specs.Verdict.{verdict_of}
use Rattle.table.proofs.Tests.{fails_law}
use Rattle.table.proofs.Forms.{tells_dated}
use Rattle.table.proofs.Refusals.{accepted_exactly_when}
use Rattle.dates.specs.Forms.{dated_image, undated_image, first_dated}
use Rattle.dates.specs.Moving.{Moved, number, wrote, Outcome, done, dating, undating}
use Rattle.dates.specs.Promises.{Ends}
use Rattle.dates.specs.Refusals.{Move, onward, back, moved_by, calling, other_form, of_table, line_17}
use Rattle.dates.proofs.Outcomes.{roomed_done, date_moves, undate_moves}
use Rattle.dates.proofs.Movers.{dated_is_dated, undated_is_undated, dated_accepted, undated_accepted, dated_none}
use Rattle.dates.proofs.Back.{Bytes, dated_and_back, undated_and_back}
use Rattle.dates.proofs.Refusals.{first_dated_lem, done_exactly_when, done_writes}

-- the image is written back, at the front of what was lent
abbrev pub WrittenBack : List ℕ → List ℕ → Moved → List ℕ → Type 0
WrittenBack image before answer after = Ends (done before image) answer after

-- ---- What a done call tells of its image

module _ (move : Move) (image out : List ℕ) (is_done : number (calling move image out).answer ≡ number_done) where
  took_accepted : verdict_of image ≡ Ok tt
  took_accepted = (accepted_exactly_when image).1 (λ t n p x. (done_exactly_when move image out).0 is_done t n p (of_table x))

  -- what it wrote is the moved image
  wrote_moved : wrote (calling move image out).answer (calling move image out).output ≡ moved_by move image
  unfolding done
  wrote_moved = rw (done_writes move image out is_done) (take-append_seam (moved_by move image) (drop (length (moved_by move image)) out))

date_took : (image out : List ℕ) → number (dating image out).answer ≡ number_done → is_dated image ≡ false
date_took image out is_done = (fails_law (tells_dated image)).1 (λ d. (done_exactly_when onward image out).0 is_done _ _ _ (other_form d))

undate_took : (image out : List ℕ) → number (undating image out).answer ≡ number_done → (is_dated image ≡ true) × (first_dated image ≡ none)
undate_took image out is_done = (of_form (is_dated image) refl, of_years (first_dated image) refl)
  where
    of_form : (b : Bool) → is_dated image ≡ b → is_dated image ≡ true
    of_form true e = e
    of_form false e = absurd ((done_exactly_when back image out).0 is_done _ _ _ (other_form ((fails_law (tells_dated image)).0 e)))

    of_years : (o : Option ℕ) → first_dated image ≡ o → first_dated image ≡ none
    of_years none e = e
    of_years (some k) e = absurd ((done_exactly_when back image out).0 is_done _ _ _ (line_17 refl (first_dated_lem image k e)))

-- ---- There and back

undate_of_dated : (image room : List ℕ) → Bytes image → verdict_of image ≡ Ok tt → is_dated image ≡ false → length image ≤ length room
    → undating (dated_image image) room ≡ done room image
undate_of_dated image room bytes accepts old fits =
    let same = dated_and_back image accepts bytes old in
    undate_moves (dated_image image) room (dated_is_dated image accepts) (dated_accepted image accepts old) (dated_none image accepts)
    ∙ rw same (roomed_done room image fits)

date_of_undated : (image room : List ℕ) → Bytes image → verdict_of image ≡ Ok tt → is_dated image ≡ true → first_dated image ≡ none
    → length image ≤ length room → dating (undated_image image) room ≡ done room image
date_of_undated image room bytes accepts new none_dated fits =
    let same = undated_and_back image accepts bytes new none_dated in
    date_moves (undated_image image) room (undated_is_undated image accepts) (undated_accepted image accepts none_dated) ∙ rw same (roomed_done room image fits)

module _ (image before after room left : List ℕ) (first second : Moved) (bytes : Bytes image) (is_done : number first ≡ number_done)
    (fits : length image ≤ length room) where
  pub date_then_undate : Ends (dating image before) first after → Ends (undating (wrote first after) room) second left → WrittenBack image room second left
  date_then_undate there back_again =
      let d : number (dating image before).answer ≡ number_done = ap number (sym there.answers) ∙ is_done in
      let w : wrote first after ≡ dated_image image = rw (there.answers, there.leaves) (wrote_moved onward image before d) in
      subst (λ (o : Outcome). Ends o second left)
      (ap (λ (i : List ℕ). undating i room) w
      ∙ undate_of_dated image room bytes (took_accepted onward image before d) (date_took image before d) fits)
      back_again

  pub undate_then_date : Ends (undating image before) first after → Ends (dating (wrote first after) room) second left → WrittenBack image room second left
  undate_then_date there back_again =
      let d : number (undating image before).answer ≡ number_done = ap number (sym there.answers) ∙ is_done in
      let w : wrote first after ≡ undated_image image = rw (there.answers, there.leaves) (wrote_moved back image before d) in
      let took = undate_took image before d in
      subst (λ (o : Outcome). Ends o second left)
      (ap (λ (i : List ℕ). dating i room) w
      ∙ date_of_undated image room bytes (took_accepted back image before d) took.0 took.1 fits)
      back_again
