-- What a caller of `write_file` and `read_file` may rely on, said of whatever answer and bytes afterwards their promise allows: the refusals exactly when, what
-- stays as it was, and that reading what was written and writing what was read give the same bytes.
use Prim.Native.Nat.{ℕ, ◌≤◌, ◌<◌}
use mathlib.Core.List.{List}
use mathlib.Core.Logic.{◌↔◌}
use mathlib.Core.Path.{◌≡◌, sym, ◌∙◌, ap, subst}
use lib.ListN.{length, drop}
use lib.Seq.{take-append_seam}
use Rattle.table.specs.Numbers.{number_done}
use Rattle.table.specs.FirstLine.{FirstLine}
use Rattle.pages.specs.declared.Sheet.{Sheet}
use Rattle.embosser.specs.Chart.{other}
use Rattle.embosser.specs.Good.{Good}
use Rattle.embosser.specs.Filing.{Filed, number, place, written, wrote, Outcome, done, GivenBack, turned_bytes, filing}
use Rattle.embosser.specs.Promises.{Files}
use Rattle.embosser.specs.Refusals.{Line}
use Rattle.embosser.specs.declared.Kind.{Kind}
use Rattle.embosser.specs.declared.Kind.TheVariants.{Layout, File}
use Rattle.embosser.proofs.Outcomes.{turned_length}
use Rattle.embosser.proofs.Pages.{same_pages, turned_and_back}
use Rattle.embosser.proofs.Refusals as Laws

module _ (kind : Kind) (sheet : Sheet) (bytes before : List ℕ) (answer : Filed) (after : List ℕ) (call : Files kind sheet bytes before answer after) where
  abbrev outcome : Outcome
  outcome = filing kind sheet bytes before

  -- a refusal is the answer, with its place, exactly when its line holds and no earlier one does
  pub call_refused_exactly_when : (n p : ℕ) → 0 < n → ((number answer ≡ n) × (place answer ≡ p)) ↔ FirstLine (Line kind sheet bytes before) n p
  call_refused_exactly_when n p h =
      subst (λ (a : Filed). ((number a ≡ n) × (place a ≡ p)) ↔ FirstLine (Line kind sheet bytes before) n p) (sym call.answers)
      (Laws.refused_exactly_when kind sheet bytes before n p h)

  -- the call is done exactly when no line holds
  pub call_done_exactly_when : (number answer ≡ number_done) ↔ ((t n p : ℕ) → Line kind sheet bytes before t n p → ⊥)
  call_done_exactly_when =
      subst (λ (a : Filed). (number a ≡ number_done) ↔ ((t n p : ℕ) → Line kind sheet bytes before t n p → ⊥)) (sym call.answers)
      (Laws.done_exactly_when kind sheet bytes before)

  -- a refused call changed no byte
  pub call_refused_untouched : 0 < number answer → after ≡ before
  call_refused_untouched h =
      call.leaves ∙ Laws.refused_keeps_output kind sheet bytes before (subst (λ (a : Filed). 0 < number a) call.answers h)

  -- ---- A call that is done

  module _ (is_done : number answer ≡ number_done) where
    outcome_done : number outcome.answer ≡ number_done
    outcome_done = sym (ap number call.answers) ∙ is_done

    whole : outcome ≡ done before (turned_bytes kind bytes)
    whole = Laws.done_writes kind sheet bytes before outcome_done

    -- beyond the written bytes nothing changed
    pub call_keeps_beyond : drop (written answer) after ≡ drop (written answer) before
    call_keeps_beyond = rw (call.answers, call.leaves) (Laws.done_keeps_beyond kind sheet bytes before outcome_done)

    -- one byte is written for each
    pub call_written : written answer ≡ length bytes
    unfolding done
    call_written = ap written call.answers ∙ ap (λ (o : Outcome). written o.answer) whole ∙ turned_length kind bytes

    -- what was lent is good, and what was written is the same pages
    pub call_good : Good kind sheet bytes
    call_good = (Laws.done_good kind sheet bytes before outcome_done).1

    wrote_turned : wrote answer after ≡ turned_bytes kind bytes
    unfolding done
    wrote_turned = rw (call.answers, call.leaves, whole) (take-append_seam (turned_bytes kind bytes) (drop (length (turned_bytes kind bytes)) before))

    pub call_same_pages : (there : Good (other kind) sheet (wrote answer after)) × (there.pages ≡ call_good.pages)
    call_same_pages =
        subst (λ (b : List ℕ). (there : Good (other kind) sheet b) × (there.pages ≡ call_good.pages)) (sym wrote_turned) (same_pages kind sheet call_good)

    -- ---- There and back

    -- the other call takes what was written, and gives the bytes back at the front of what it is lent
    there_and_back : (room left : List ℕ) (second : Filed) → length bytes ≤ length room → Files (other kind) sheet (wrote answer after) room second left
        → (second ≡ (done room bytes).answer) × (left ≡ (done room bytes).output)
    there_and_back room left second fits back_again =
        let right = (Laws.done_good kind sheet bytes before outcome_done).0 in
        let good : Good (other kind) sheet (turned_bytes kind bytes) = (same_pages kind sheet call_good).0 in
        let same = turned_and_back kind sheet call_good in
        let again : filing (other kind) sheet (wrote answer after) room ≡ done room bytes =
        ap (λ (b : List ℕ). filing (other kind) sheet b room) wrote_turned
        ∙ Laws.good_done (other kind) sheet (turned_bytes kind bytes) room right good (rw (turned_length kind bytes) fits)
        ∙ ap (done room) same in
        (back_again.answers ∙ ap (λ (o : Outcome). o.answer) again, back_again.leaves ∙ ap (λ (o : Outcome). o.output) again)

module _ (sheet : Sheet) (bytes before after room left : List ℕ) (first second : Filed) (is_done : number first ≡ number_done)
    (fits : length bytes ≤ length room) where
  -- reading what was written gives the same bytes
  pub write_then_read : Files Layout sheet bytes before first after → Files File sheet (wrote first after) room second left → GivenBack bytes room second left
  write_then_read there back_again =
      let e = there_and_back Layout sheet bytes before first after there is_done room left second fits back_again in
      record { answers = e.0; leaves = e.1 }

  -- writing what was read gives the same file
  pub read_then_write : Files File sheet bytes before first after → Files Layout sheet (wrote first after) room second left → GivenBack bytes room second left
  read_then_write there back_again =
      let e = there_and_back File sheet bytes before first after there is_done room left second fits back_again in
      record { answers = e.0; leaves = e.1 }
