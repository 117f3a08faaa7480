-- The call, case by case, and what its answer tells: each refusal is the answer exactly when its reason holds, 0 exactly when none does; a refused call leaves the
-- output as it was, and a done one has the marked text at its front and leaves what lies beyond. The results are any that the promise of the call allows.
use Prim.Native.Nat.{ℕ, ◌*◌, ◌≤◌, ◌<◌}
use mathlib.Core.List.{List, ◌++◌}
use mathlib.Core.Logic.{◌↔◌}
use mathlib.Core.Path.{◌≡◌, refl, sym, ◌∙◌, ap}
use native.Mathlib.Decide.{dec_le}
use native.Mathlib.Nat.{zero-add}
use native.Mathlib.Omega.{arith}
use Rattle.std.specs.Prelude.{Ok, Err}
use lib.ListN.{length, drop, length-append, length-drop}
use lib.Seq.{sets, sets-eq, take-append_seam, drop-append_seam}
use borrow.Author.Tests.{lt-ltb, le-ltb, le-leb, lt-leb}
use Rattle.table.specs.inside.Wrote.{Wrote}
use Rattle.inkprint.specs.Numbers.{most_ink, number_done, number_long, number_unmarked, number_room}
use Rattle.inkprint.specs.Marks.{Marking, marked, unmarked, marking}
use Rattle.inkprint.specs.Calls.{Inked, number_of, place_of, written_of, wrote, Outcome, refused, done, roomed, inking}
use Rattle.inkprint.specs.Promises.{Inks}
use Rattle.inkprint.specs.declared.Uninked.{Uninked}
use Rattle.inkprint.specs.declared.Uninked.TheVariants.{Unmarked, Room, Long}
use Rattle.inkprint.specs.inside.Steps.{walked_to, judged_as}
use Rattle.inkprint.proofs.Walk.{Comes, same_bytes, never_marked, four_each}

-- ---- The cases of the call

module _ (text out : List ℕ) where
  ink_long : most_ink < length text → inking text out ≡ refused out (Err Long)
  unfolding inking
  ink_long l = rw (lt-ltb most_ink (length text) l, inking)

  ink_unmarked : {at : ℕ} → length text ≤ most_ink → marking text ≡ unmarked at → inking text out ≡ refused out (Err (Unmarked at))
  unfolding inking
  ink_unmarked few e = rw (le-ltb most_ink (length text) few, e, inking)

  ink_roomed : {bytes : List ℕ} → length text ≤ most_ink → marking text ≡ marked bytes → inking text out ≡ roomed out bytes
  unfolding inking
  ink_roomed few e = rw (le-ltb most_ink (length text) few, e, inking)

  ink_room : {bytes : List ℕ} → length text ≤ most_ink → marking text ≡ marked bytes → length out < length bytes → inking text out ≡ refused out (Err (Room (length bytes)))
  unfolding roomed
  ink_room {bytes} few e l = ink_roomed few e ∙ rw (lt-leb (length bytes) (length out) l, roomed)

  ink_done : {bytes : List ℕ} → length text ≤ most_ink → marking text ≡ marked bytes → length bytes ≤ length out → inking text out ≡ done out bytes
  unfolding roomed
  ink_done {bytes} few e l = ink_roomed few e ∙ rw (le-leb (length bytes) (length out) l, roomed)

  -- ---- What the code hands back

  inks_refused : {answer : Inked} → inking text out ≡ refused out answer → Inks text out answer out
  unfolding refused
  inks_refused e = record { answers = sym (ap (λ (x : Outcome). x.answer) e); leaves = sym (ap (λ (x : Outcome). x.output) e) }

  pub inks_long : most_ink < length text → Inks text out (Err Long) out
  inks_long l = inks_refused (ink_long l)

  pub inks_unmarked : (at : ℕ) → length text ≤ most_ink → marking text ≡ unmarked at → Inks text out (Err (Unmarked at)) out
  inks_unmarked at few e = inks_refused (ink_unmarked few e)

  pub inks_room : (needed : ℕ) {bytes : List ℕ} → length text ≤ most_ink → marking text ≡ marked bytes → length bytes ≡ needed → length out < needed
      → Inks text out (Err (Room needed)) out
  inks_room needed few e long l = inks_refused (rw long at (ink_room few e (omega arith)))

  -- the bytes are written at the front
  pub inks_done : (needed : ℕ) {bytes after : List ℕ} → length text ≤ most_ink → marking text ≡ marked bytes → length bytes ≡ needed → needed ≤ length out
      → ((written : List ℕ) → marking text ≡ marked written → length written ≤ length out → Wrote out 0 written after) → Inks text out (Ok needed) after
  unfolding done
  inks_done needed {bytes} {after} few e long l writes =
      let fits : length bytes ≤ length out = omega arith in
      let is = ink_done few e fits in
      let front : sets out 0 bytes ≡ bytes ++ drop (length bytes) out =
      sets-eq bytes out 0 (omega arith) ∙ ap (λ (n : ℕ). bytes ++ drop n out) (zero-add (length bytes)) in
      record {
        answers = rw long at (sym (ap (λ (x : Outcome). x.answer) is));
        leaves = (writes bytes e fits).leaves ∙ front ∙ sym (ap (λ (x : Outcome). x.output) is);
      }

-- ---- What the walk and the judging answer

module _ (text : List ℕ) {out : List ℕ} where
  -- a character that has no mark
  pub inks_walked : {why : Uninked} → length text ≤ most_ink → Err why ≡ walked_to (marking text) → Inks text out (Err why) out
  inks_walked {why} few walked = go (marking text) refl walked
    where
      go : (m : Marking) → marking text ≡ m → Err why ≡ walked_to m → Inks text out (Err why) out
      go (marked bytes) e walked = cc
      go (unmarked at) e walked = rw walked (inks_unmarked text out at few e)

  pub inks_judged : {why : Uninked} → length text ≤ most_ink → Err why ≡ judged_as (marking text) → Inks text out (Err why) out
  inks_judged {why} few judged = go (marking text) refl judged
    where
      go : (m : Marking) → marking text ≡ m → Err why ≡ judged_as m → Inks text out (Err why) out
      go (marked bytes) e judged = cc
      go (unmarked at) e judged = let same : why ≡ Unmarked at = cc in rw same (inks_unmarked text out at few e)

  -- more bytes than there is room for
  pub inks_short : {needed : ℕ} → length text ≤ most_ink → Ok needed ≡ walked_to (marking text) → length out < needed → Inks text out (Err (Room needed)) out
  inks_short {needed} few walked short = go (marking text) refl walked
    where
      go : (m : Marking) → marking text ≡ m → Ok needed ≡ walked_to m → Inks text out (Err (Room needed)) out
      go (marked bytes) e walked = let long : length bytes ≡ needed = cc in inks_room text out needed few e long short
      go (unmarked at) e walked = cc

  module _ {after : List ℕ} {answer : Inked} (few : length text ≤ most_ink) (walked : answer ≡ walked_to (marking text))
      (writes : (bytes : List ℕ) → marking text ≡ marked bytes → length bytes ≤ length out → Wrote out 0 bytes after) where
    -- there is room for what was measured
    pub inks_measured : {needed : ℕ} → Ok needed ≡ walked_to (marking text) → needed ≤ length out → Inks text out answer after
    inks_measured {needed} measured fits = go (marking text) refl measured
      where
        go : (m : Marking) → marking text ≡ m → Ok needed ≡ walked_to m → Inks text out answer after
        go (marked bytes) e measured =
            let long : length bytes ≡ needed = cc in
            rw (walked ∙ ap walked_to e ∙ sym measured) (inks_done text out needed few e long fits writes)
        go (unmarked at) e measured = cc

    -- there is room for any marked text, and each character has a mark
    pub inks_judged_fine : Ok tt ≡ judged_as (marking text) → 4 * length text ≤ length out → Inks text out answer after
    inks_judged_fine judged room = go (marking text) refl judged
      where
        go : (m : Marking) → marking text ≡ m → Ok tt ≡ judged_as m → Inks text out answer after
        go (marked bytes) e judged =
            let most = four_each text bytes e in
            rw (walked ∙ ap walked_to e) (inks_done text out (length bytes) few e refl (omega arith) writes)
        go (unmarked at) e judged = cc

-- ---- Which case it is

-- a call ends in one of four ways
data Case (text before : List ℕ) (answer : Inked) (after : List ℕ) : Type 0 where
  too_long : most_ink < length text → answer ≡ Err Long → after ≡ before → Case text before answer after
  no_mark : (at : ℕ) → length text ≤ most_ink → marking text ≡ unmarked at → answer ≡ Err (Unmarked at) → after ≡ before → Case text before answer after
  no_room : (bytes : List ℕ) → length text ≤ most_ink → marking text ≡ marked bytes → length before < length bytes → answer ≡ Err (Room (length bytes)) → after ≡ before
      → Case text before answer after
  all_done : (bytes : List ℕ) → length text ≤ most_ink → marking text ≡ marked bytes → length bytes ≤ length before → answer ≡ Ok (length bytes)
      → after ≡ bytes ++ drop (length bytes) before → Case text before answer after

cases : {text before after : List ℕ} {answer : Inked} → Inks text before answer after → Case text before answer after
unfolding refused done
cases {text} {before} {after} {answer} call = by_length (dec_le (length text) most_ink)
  where
    by_room : (bytes : List ℕ) → length text ≤ most_ink → marking text ≡ marked bytes → Dec (length bytes ≤ length before) → Case text before answer after
    by_room bytes few e (yes l) =
        let is = ink_done text before few e l in
        all_done bytes few e l (call.answers ∙ ap (λ (x : Outcome). x.answer) is) (call.leaves ∙ ap (λ (x : Outcome). x.output) is)
    by_room bytes few e (no l) =
        let short : length before < length bytes = omega arith in
        let is = ink_room text before few e short in
        no_room bytes few e short (call.answers ∙ ap (λ (x : Outcome). x.answer) is) (call.leaves ∙ ap (λ (x : Outcome). x.output) is)

    by_marking : (m : Marking) → length text ≤ most_ink → marking text ≡ m → Case text before answer after
    by_marking (unmarked at) few e =
        let is = ink_unmarked text before few e in
        no_mark at few e (call.answers ∙ ap (λ (x : Outcome). x.answer) is) (call.leaves ∙ ap (λ (x : Outcome). x.output) is)
    by_marking (marked bytes) few e = by_room bytes few e (dec_le (length bytes) (length before))

    by_length : Dec (length text ≤ most_ink) → Case text before answer after
    by_length (yes few) = by_marking (marking text) few refl
    by_length (no l) =
        let is = ink_long text before (omega arith) in
        too_long (omega arith) (call.answers ∙ ap (λ (x : Outcome). x.answer) is) (call.leaves ∙ ap (λ (x : Outcome). x.output) is)

-- ---- Each answer exactly when

-- a text not too long, whose marked text has more bytes than there is room for
pub record Overflows (text before : List ℕ) (needed : ℕ) : Type 0 where
  pub few : length text ≤ most_ink
  pub comes : Comes (marking text) needed
  pub short : length before < needed

-- what a done call leaves: the marked text at the front, and beyond it the output as it was
pub record Written (text before : List ℕ) (answer : Inked) (after : List ℕ) : Type 0 where
  pub is : marking text ≡ marked (wrote answer after)
  pub beyond : drop (written_of answer) after ≡ drop (written_of answer) before

module _ {text before after : List ℕ} {answer : Inked} (call : Inks text before answer after) where
  -- 6
  pub long_exactly_when : (number_of answer ≡ number_long) ↔ (most_ink < length text)
  long_exactly_when = (tells (cases call), λ l. ap number_of (call.answers ∙ sym (inks_long text before l).answers))
    where
      tells : Case text before answer after → number_of answer ≡ number_long → most_ink < length text
      tells (too_long l a x) n = l
      tells (no_mark at few e a x) n = absurd (omega (arith, ap number_of a))
      tells (no_room bytes few e l a x) n = absurd (omega (arith, ap number_of a))
      tells (all_done bytes few e l a x) n = absurd (omega (arith, ap number_of a))

  -- 21, at the character's place
  pub unmarked_exactly_when : (p : ℕ) → ((number_of answer ≡ number_unmarked) × (place_of answer ≡ p)) ↔ ((length text ≤ most_ink) × (marking text ≡ unmarked p))
  unmarked_exactly_when p = (
    λ h. tells (cases call) h.0 h.1,
    λ h. let a = call.answers ∙ sym (inks_unmarked text before p h.0 h.1).answers in (ap number_of a, ap place_of a),
  )
    where
      tells : Case text before answer after → number_of answer ≡ number_unmarked → place_of answer ≡ p → (length text ≤ most_ink) × (marking text ≡ unmarked p)
      tells (too_long l a x) n q = absurd (omega (arith, ap number_of a))
      tells (no_mark at few e a x) n q = (few, e ∙ ap unmarked (sym (ap place_of a) ∙ q))
      tells (no_room bytes few e l a x) n q = absurd (omega (arith, ap number_of a))
      tells (all_done bytes few e l a x) n q = absurd (omega (arith, ap number_of a))

  -- 8, with the bytes that are needed
  pub room_exactly_when : (needed : ℕ) → ((number_of answer ≡ number_room) × (place_of answer ≡ needed)) ↔ Overflows text before needed
  room_exactly_when needed = (
    λ h. tells (cases call) h.0 h.1,
    λ h. let a = call.answers ∙ sym (inks_room text before needed h.few h.comes.is h.comes.long h.short).answers in (ap number_of a, ap place_of a),
  )
    where
      tells : Case text before answer after → number_of answer ≡ number_room → place_of answer ≡ needed → Overflows text before needed
      tells (too_long l a x) n q = absurd (omega (arith, ap number_of a))
      tells (no_mark at few e a x) n q = absurd (omega (arith, ap number_of a))
      tells (no_room bytes few e l a x) n q =
          let long : length bytes ≡ needed = sym (ap place_of a) ∙ q in
          record { few = few; comes = record { bytes = bytes; is = e; long = long }; short = omega arith }
      tells (all_done bytes few e l a x) n q = absurd (omega (arith, ap number_of a))

  -- 0, where none of these holds
  pub done_exactly_when : (number_of answer ≡ number_done)
      ↔ ((length text ≤ most_ink) × ((p : ℕ) → marking text ≡ unmarked p → ⊥) × ((needed : ℕ) → Comes (marking text) needed → length before < needed → ⊥))
  done_exactly_when = (tells (cases call), λ h. only (cases call) h.0 h.1 h.2)
    where
      tells : Case text before answer after → number_of answer ≡ number_done
          → (length text ≤ most_ink) × ((p : ℕ) → marking text ≡ unmarked p → ⊥) × ((needed : ℕ) → Comes (marking text) needed → length before < needed → ⊥)
      tells (too_long l a x) n = absurd (omega (arith, ap number_of a))
      tells (no_mark at few e a x) n = absurd (omega (arith, ap number_of a))
      tells (no_room bytes few e l a x) n = absurd (omega (arith, ap number_of a))
      tells (all_done bytes few e l a x) n = (
        few,
        λ p u. never_marked text u e,
        λ needed comes short. let z = comes.long in let same : comes.bytes ≡ bytes = same_bytes (sym comes.is ∙ e) in let also = ap length same in omega arith,
      )

      only : Case text before answer after → length text ≤ most_ink → ((p : ℕ) → marking text ≡ unmarked p → ⊥)
          → ((needed : ℕ) → Comes (marking text) needed → length before < needed → ⊥) → number_of answer ≡ number_done
      only (too_long l a x) m u r = absurd (omega arith)
      only (no_mark at few e a x) m u r = absurd (u at e)
      only (no_room bytes few e l a x) m u r = absurd (r (length bytes) (record { bytes = bytes; is = e; long = refl }) l)
      only (all_done bytes few e l a x) m u r = ap number_of a

  -- ---- What becomes of the output

  pub refused_leaves : (number_of answer ≡ number_done → ⊥) → after ≡ before
  refused_leaves = kept (cases call)
    where
      kept : Case text before answer after → (number_of answer ≡ number_done → ⊥) → after ≡ before
      kept (too_long l a x) n = x
      kept (no_mark at few e a x) n = x
      kept (no_room bytes few e l a x) n = x
      kept (all_done bytes few e l a x) n = absurd (n (ap number_of a))

  pub done_writes : number_of answer ≡ number_done → Written text before answer after
  done_writes = left (cases call)
    where
      left : Case text before answer after → number_of answer ≡ number_done → Written text before answer after
      left (too_long l a x) n = absurd (omega (arith, ap number_of a))
      left (no_mark at few e a x) n = absurd (omega (arith, ap number_of a))
      left (no_room bytes few e l a x) n = absurd (omega (arith, ap number_of a))
      left (all_done bytes few e l a x) n =
          record {
            is = rw (a, x) (e ∙ ap marked (sym (take-append_seam bytes (drop (length bytes) before))));
            beyond = rw (a, x) (drop-append_seam bytes (drop (length bytes) before));
          }

  -- the output is as long as it was
  pub ink_length : length after ≡ length before
  ink_length = same (cases call)
    where
      same : Case text before answer after → length after ≡ length before
      same (too_long l a x) = ap length x
      same (no_mark at few e a x) = ap length x
      same (no_room bytes few e l a x) = ap length x
      same (all_done bytes few e l a x) = ap length x ∙ simp (length-append, length-drop) (omega arith)
