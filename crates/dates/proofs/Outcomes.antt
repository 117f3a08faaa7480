-- The two calls, case by case: what each check makes of the outcome.
use Prim.Native.Nat.{ℕ, ◌≤◌, ◌<◌}
use mathlib.Core.Bool.{true, false}
use mathlib.Core.List.{List, ◌++◌}
use mathlib.Core.Option.{none, some}
use mathlib.Core.Path.{◌≡◌, sym, ◌∙◌, ap}
use native.Mathlib.Nat.{zero-add}
use native.Mathlib.Omega.{arith}
use lib.ListN.{length, drop}
use lib.Seq.{sets, sets-eq}
use borrow.Author.Tests.{le-leb, lt-leb}
use Rattle.std.specs.Prelude.{Ok, Err}
use Rattle.table.specs.Sections.{is_dated, sections_of, offset}
use Rattle.table.specs.Verdict.{verdict_of}
use Rattle.table.specs.inside.Wrote.{Wrote}
use Rattle.table.specs.declared.Sections.{Sections}
use Rattle.table.specs.declared.Refusal.{Refusal}
use Rattle.table.specs.declared.Refusal.TheVariants.{Frame, Dated, Room}
use Rattle.dates.specs.Forms.{entries_of, dated_image, undated_image, first_dated_of, first_dated}
use Rattle.dates.specs.Moving.{Outcome, refused, done, roomed, dating, undating_always, undating}
use Rattle.dates.specs.Promises.{Ends}

-- ---- The room

pub roomed_done : (out bytes : List ℕ) → length bytes ≤ length out → roomed out bytes ≡ done out bytes
unfolding roomed
roomed_done out bytes l = rw (le-leb (length bytes) (length out) l, roomed)

pub roomed_refused : (out bytes : List ℕ) → length out < length bytes → roomed out bytes ≡ refused out (Room (length bytes))
unfolding roomed
roomed_refused out bytes l = rw (lt-leb (length bytes) (length out) l, roomed)

-- ---- Each call

module _ (image out : List ℕ) where
  pub date_other : is_dated image ≡ true → dating image out ≡ refused out Frame
  unfolding dating
  date_other e = rw (e, dating)

  pub date_refused : (r : Refusal) → is_dated image ≡ false → verdict_of image ≡ Err r → dating image out ≡ refused out r
  unfolding dating
  date_refused r e v = rw (e, v, dating)

  pub date_moves : is_dated image ≡ false → verdict_of image ≡ Ok tt → dating image out ≡ roomed out (dated_image image)
  unfolding dating
  date_moves e v = rw (e, v, dating)

  pub undate_other : is_dated image ≡ false → undating image out ≡ refused out Frame
  unfolding undating
  undate_other e = rw (e, undating)

  pub undate_refused : (r : Refusal) → is_dated image ≡ true → verdict_of image ≡ Err r → undating image out ≡ refused out r
  unfolding undating
  undate_refused r e v = rw (e, v, undating)

  undate_goes_on : is_dated image ≡ true → verdict_of image ≡ Ok tt → undating image out ≡ undating_always image out
  unfolding undating
  undate_goes_on e v = rw (e, v, undating)

  pub undate_dated : (k : ℕ) → is_dated image ≡ true → verdict_of image ≡ Ok tt → first_dated image ≡ some k
      → undating image out ≡ refused out (Dated (offset (entries_of image) k))
  unfolding undating_always
  undate_dated k e v f = undate_goes_on e v ∙ rw (f, undating_always)

  pub undate_moves : is_dated image ≡ true → verdict_of image ≡ Ok tt → first_dated image ≡ none → undating image out ≡ roomed out (undated_image image)
  unfolding undating_always
  undate_moves e v f = undate_goes_on e v ∙ rw (f, undating_always)

  -- by the sections as they were found
  pub undate_dated_by : (s : Sections) (k : ℕ) → s ≡ sections_of image → is_dated image ≡ true → verdict_of image ≡ Ok tt → first_dated_of image s.contractions ≡ some k
      → undating image out ≡ refused out (Dated (offset s.contractions k))
  undate_dated_by s k at e v f =
      undate_dated k e v (ap (λ (x : Sections). first_dated_of image x.contractions) (sym at) ∙ f)
      ∙ ap (λ (x : Sections). refused out (Dated (offset x.contractions k))) (sym at)

  pub undate_moves_by : (s : Sections) → s ≡ sections_of image → is_dated image ≡ true → verdict_of image ≡ Ok tt → first_dated_of image s.contractions ≡ none
      → undating image out ≡ roomed out (undated_image image)
  undate_moves_by s at e v f = undate_moves e v (ap (λ (x : Sections). first_dated_of image x.contractions) (sym at) ∙ f)

-- ---- What the code hands back

pub ends_refused : (o : Outcome) (out : List ℕ) (r : Refusal) → o ≡ refused out r → Ends o (Err r) out
unfolding refused
ends_refused o out r e = record { answers = sym (ap (λ (x : Outcome). x.answer) e); leaves = sym (ap (λ (x : Outcome). x.output) e) }

-- the bytes are written at the front
pub ends_done : (o : Outcome) (out bytes after : List ℕ) → o ≡ done out bytes → length bytes ≤ length out → Wrote out 0 bytes after
    → Ends o (Ok (length bytes)) after
unfolding done
ends_done o out bytes after e l w =
    let front : sets out 0 bytes ≡ bytes ++ drop (length bytes) out =
    sets-eq bytes out 0 (omega arith) ∙ ap (λ (n : ℕ). bytes ++ drop n out) (zero-add (length bytes)) in
    record {
      answers = sym (ap (λ (x : Outcome). x.answer) e);
      leaves = w.leaves ∙ front ∙ sym (ap (λ (x : Outcome). x.output) e);
    }
