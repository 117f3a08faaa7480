-- The verdict, check by check, as the code goes: what each of its answers makes of the verdict.
use Rattle.std.proofs.Common.{ℕ, List, Bool, true, false, Some, None, Ok, Err, ◌≡◌, ◌∙◌, refl, sym, ap}
use Rattle.std.proofs.Math.Option as maybe
use Rattle.table.specs.Numbers.{blank}
use Rattle.table.specs.Search.{member}
use Rattle.table.specs.Records.{symbols, first_wrong, Wrong}
use Rattle.table.specs.Verdict.{grouping_verdict, blank_verdict, records_verdict, verdict_of}
use Rattle.table.specs.Answers.{Verdict}
use Rattle.table.specs.declared.Sections.{Sections}
use Rattle.table.specs.declared.Refusal.TheVariants.{Frame}
use Rattle.table.proofs.Frame.{sections_framed}
use Rattle.framing.specs.Promises.{Framed}
use Rattle.framing.proofs.Frames.{framed_located, framed_right, framed_wrong}
use Rattle.records.specs.Judged.{Judged, blank_judged, records_judged}
use Rattle.records.specs.Promises.{RecordsJudged}
use Rattle.records.specs.declared.Fault.{Fault}
use Rattle.judge.specs.inside.Faults.{refusal_of}

module _ (image : List ℕ) where
  -- ---- The frame

  pub frame_refused : Framed image None → verdict_of image ≡ Err Frame
  unfolding verdict_of
  frame_refused f = rw (framed_wrong image f, verdict_of)

  -- ---- The records and the blank

  module _ (s : Sections) where
    -- what each answer about the records makes of the verdict
    verdict_by : Judged → Verdict
    verdict_by (Ok right) = grouping_verdict image s
    verdict_by (Err fault) = Err (refusal_of s fault)

    by_records : records_verdict image s ≡ verdict_by (records_judged image s)
    unfolding records_verdict blank_verdict records_judged blank_judged verdict_by
    by_records = go (first_wrong image s) refl
      where
        blanks : (b : Bool) → member blank (symbols image s) ≡ b → blank_verdict image s ≡ verdict_by (blank_judged image s)
        blanks true e = rw (e, blank_verdict, blank_judged)
        blanks false e = rw (e, blank_verdict, blank_judged)

        go : (o : maybe.Option Wrong) → first_wrong image s ≡ o → records_verdict image s ≡ verdict_by (records_judged image s)
        go maybe.none f = rw (f, records_verdict, records_judged) (blanks (member blank (symbols image s)) refl)
        go (maybe.some w) f = rw (f, records_verdict, records_judged)

    -- the verdict on an image whose frame is right goes by them
    framed_verdict : {j : Judged} → Framed image (Some s) → RecordsJudged image j → verdict_of image ≡ verdict_by j
    unfolding verdict_of
    framed_verdict f r =
        let right = framed_right image f in
        let located = (framed_located image f).is in
        rw (right, verdict_of)
        (ap (records_verdict image) (sym (located ∙ sections_framed image right)) ∙ by_records ∙ ap verdict_by (ap (records_judged image) located ∙ sym r.is))

    pub record_refused : (fault : Fault) → Framed image (Some s) → RecordsJudged image (Err fault) → verdict_of image ≡ Err (refusal_of s fault)
    unfolding verdict_by
    record_refused fault f r = framed_verdict f r

    pub records_passed : Framed image (Some s) → RecordsJudged image (Ok tt) → verdict_of image ≡ grouping_verdict image s
    unfolding verdict_by
    records_passed f r = framed_verdict f r
