-- 'Each refusal is given exactly when its line holds and no earlier one does', for writing and for reading a file; a refused call leaves the output as lent, and
-- a done one leaves everything beyond the written bytes as lent. The call makes its checks in the order of the lines, so each answer comes with what the checks
-- before it found.
use Prim.Native.Nat.{ℕ, ◌≤◌, ◌<◌}
use mathlib.Core.Bool.{Bool, true, false}
use mathlib.Core.List.{List}
use mathlib.Core.Logic.{◌↔◌}
use Rattle.std.specs.Prelude.{Option, None, Some, Ok}
use mathlib.Core.Path.{◌≡◌, refl, sym, ap, subst}
use native.Mathlib.Decide.{dec_lt}
use native.Mathlib.Omega.{arith}
use lib.ListN.{length, drop}
use lib.Seq.{drop-append_seam}
use Rattle.table.specs.Numbers.{number_done}
use Rattle.table.specs.Answers.{refusal_number, refusal_place}
use Rattle.table.specs.FirstLine.{FirstLine}
use Rattle.table.specs.declared.Refusal.{Refusal}
use Rattle.table.specs.declared.Refusal.TheVariants.{Size, Room, File as WrongFile}
use Rattle.table.proofs.FirstLine.{OneLine}
use Rattle.table.proofs.FirstLine as First
use Rattle.pages.specs.Volume.{sheet_right, sheet_verdict}
use Rattle.pages.specs.declared.Sheet.{Sheet}
use Rattle.pages.proofs.Sizes.{sizes_wrong, sizes_accepted, sizes_refused, sizes_not_wrong, sizes_of_accepted}
use Rattle.embosser.specs.Judging.{wrong_at}
use Rattle.embosser.specs.Good.{Good}
use Rattle.embosser.specs.Filing.{number, place, written, Outcome, refused, done, turned_bytes, filing}
use Rattle.embosser.specs.Refusals.{Line, line_5, line_16, line_8}
use Rattle.embosser.specs.declared.Kind.{Kind}
use Rattle.embosser.proofs.Outcomes.{filing_refused, filing_wrong, filing_short, filing_done}
use Rattle.embosser.proofs.Judged.{one_place, good_not_wrong, good_exactly_when, wrong_exactly_when}

module _ (kind : Kind) (sheet : Sheet) (bytes out : List ℕ) where
  abbrev Holds : ℕ → ℕ → ℕ → Type 0
  Holds t n p = Line kind sheet bytes out t n p

  abbrev outcome : Outcome
  outcome = filing kind sheet bytes out

  -- what the outcome tells: a refusal, whose line is the first that holds, with the output as lent; or no line holds, and the bytes of the other kind stand at
  -- the front
  data Told : Type 0 where
    told_refused : (r : Refusal) → 0 < refusal_number r → outcome ≡ refused out r → FirstLine Holds (refusal_number r) (refusal_place r) → Told
    told_done : sheet_right sheet ≡ true → Good kind sheet bytes → outcome ≡ done out (turned_bytes kind bytes) → ((t n p : ℕ) → Holds t n p → ⊥) → Told

  module _ (right : sheet_right sheet ≡ true) where
    accepted : sheet_verdict sheet ≡ Ok tt
    accepted = sizes_accepted sheet right

    wide : 0 < sheet.width
    wide = let w = (sizes_of_accepted sheet accepted).0.low in omega arith

    long : 0 < sheet.length
    long = let l = (sizes_of_accepted sheet accepted).1.low in omega arith

    told_wrong : (at : ℕ) → wrong_at kind sheet bytes ≡ Some at → Told
    told_wrong at e =
        told_refused (WrongFile at) (omega arith) (filing_wrong kind sheet bytes out accepted at e)
        (record { turn = 2; line = line_16 ((wrong_exactly_when kind sheet wide long bytes at).0 e); none_before = before })
      where
        before : (t n p : ℕ) → t < 2 → Holds t n p → ⊥
        before t n p l (line_5 x) = sizes_not_wrong sheet right x
        before t n p l (line_16 x) = omega arith
        before t n p l (line_8 x) = omega arith

    told_good : wrong_at kind sheet bytes ≡ None → Told
    told_good e = go (dec_lt (length out) (length bytes))
      where
        good : Good kind sheet bytes
        good = (good_exactly_when kind sheet wide long bytes).0 e

        before : (t n p : ℕ) → t < 3 → Holds t n p → ⊥
        before t n p l (line_5 x) = sizes_not_wrong sheet right x
        before t n p l (line_16 x) = good_not_wrong kind sheet good x
        before t n p l (line_8 x) = omega arith

        nowhere : length bytes ≤ length out → (t n p : ℕ) → Holds t n p → ⊥
        nowhere room t n p (line_5 x) = sizes_not_wrong sheet right x
        nowhere room t n p (line_16 x) = good_not_wrong kind sheet good x
        nowhere room t n p (line_8 x) = omega arith

        go : Dec (length out < length bytes) → Told
        go (yes l) =
            told_refused (Room (length bytes)) (omega arith) (filing_short kind sheet bytes out accepted e l)
            (record { turn = 3; line = line_8 l; none_before = before })
        go (no d) = told_done right good (filing_done kind sheet bytes out accepted e (omega arith)) (nowhere (omega arith))

  told : Told
  told = sizes (sheet_right sheet) refl
    where
      judging : sheet_right sheet ≡ true → (o : Option ℕ) → wrong_at kind sheet bytes ≡ o → Told
      judging right (Some at) e = told_wrong right at e
      judging right None e = told_good right e

      before : (t n p : ℕ) → t < 1 → Holds t n p → ⊥
      before t n p l (line_5 x) = omega arith
      before t n p l (line_16 x) = omega arith
      before t n p l (line_8 x) = omega arith

      sizes : (b : Bool) → sheet_right sheet ≡ b → Told
      sizes true e = judging e (wrong_at kind sheet bytes) refl
      sizes false e =
          told_refused Size (omega arith) (filing_refused kind sheet bytes out Size (sizes_refused sheet e))
          (record { turn = 1; line = line_5 (sizes_wrong sheet e); none_before = before })

  -- a line has one number and place
  one_line : OneLine Holds
  one_line t m p n q before (line_5 x) (line_5 y) = (refl, refl)
  one_line t m p n q before (line_16 x) (line_16 y) = (refl, one_place kind sheet x y)
  one_line t m p n q before (line_8 x) (line_8 y) = (refl, refl)

  abbrev Tells : Outcome → Type 0
  Tells o = First.Told Holds (number o.answer) (place o.answer)

  told_number : Tells outcome
  unfolding refused done
  told_number = go told
    where
      go : Told → Tells outcome
      go (told_refused r h e f) = subst Tells (sym e) (First.told_refused h f)
      go (told_done sizes good e no_line) = subst Tells (sym e) (First.told_done refl no_line)

  abbrev Answers : ℕ → ℕ → Type 0
  Answers n p = (number outcome.answer ≡ n) × (place outcome.answer ≡ p)

  -- each refusal is given exactly when its line holds and no earlier one does
  pub refused_exactly_when : (n p : ℕ) → 0 < n → Answers n p ↔ FirstLine Holds n p
  refused_exactly_when n p h = First.refused_exactly_when Holds one_line told_number n p h

  -- a call is done exactly when no line holds
  pub done_exactly_when : (number outcome.answer ≡ number_done) ↔ ((t n p : ℕ) → Holds t n p → ⊥)
  done_exactly_when = First.done_exactly_when Holds told_number

  -- a refused call leaves the output as lent
  pub refused_keeps_output : 0 < number outcome.answer → outcome.output ≡ out
  unfolding refused done
  refused_keeps_output h = go told
    where
      go : Told → outcome.output ≡ out
      go (told_refused r pos e f) = ap (λ (o : Outcome). o.output) e
      go (told_done sizes good e f) = let g = ap (λ (o : Outcome). number o.answer) e in absurd (omega arith)

  -- a done call writes the bytes of the other kind at the front, and leaves everything beyond them as lent
  pub done_writes : number outcome.answer ≡ number_done → outcome ≡ done out (turned_bytes kind bytes)
  unfolding refused done
  done_writes h = go told
    where
      go : Told → outcome ≡ done out (turned_bytes kind bytes)
      go (told_refused r pos e f) = let g = ap (λ (o : Outcome). number o.answer) e in absurd (omega arith)
      go (told_done sizes good e f) = e

  -- a call is done of good bytes alone, on a sheet within the limits
  pub done_good : number outcome.answer ≡ number_done → (sheet_right sheet ≡ true) × Good kind sheet bytes
  unfolding refused
  done_good h = go told
    where
      go : Told → (sheet_right sheet ≡ true) × Good kind sheet bytes
      go (told_refused r pos e f) = let g = ap (λ (o : Outcome). number o.answer) e in absurd (omega arith)
      go (told_done sizes good e f) = (sizes, good)

  -- and of all of these where there is room; where there isn't, 8 is the answer
  module _ (right : sheet_right sheet ≡ true) (good : Good kind sheet bytes) where
    not_wrong : wrong_at kind sheet bytes ≡ None
    not_wrong = (good_exactly_when kind sheet (wide right) (long right) bytes).1 good

    pub good_done : length bytes ≤ length out → outcome ≡ done out (turned_bytes kind bytes)
    good_done room = filing_done kind sheet bytes out (accepted right) not_wrong room

    pub good_short : length out < length bytes → outcome ≡ refused out (Room (length bytes))
    good_short short = filing_short kind sheet bytes out (accepted right) not_wrong short

  pub done_keeps_beyond : number outcome.answer ≡ number_done → drop (written outcome.answer) outcome.output ≡ drop (written outcome.answer) out
  unfolding done
  done_keeps_beyond h = rw (done_writes h) (drop-append_seam (turned_bytes kind bytes) (drop (length (turned_bytes kind bytes)) out))
