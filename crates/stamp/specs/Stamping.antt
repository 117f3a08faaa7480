-- 'What comes back', of the stamp: the answer with its four values, and the call, from the image as lent to the answer.
use Rattle.std.specs.Prelude.{ℕ, List, Result, Ok, Err}
use Rattle.table.specs.Answers.{refusal_number, refusal_place, number_in, place_in}
use Rattle.table.specs.Verdict.{verdict_of}
use Rattle.table.specs.declared.Refusal.{Refusal}
use Rattle.stamp.specs.Numbers.{no_stamp}
use Rattle.stamp.specs.Sums.{sums_of}
use Rattle.stamp.specs.declared.Stamped.{Stamped}

-- what the stamping of an image answers
abbrev pub Answer : Type 0
Answer = Result Stamped Refusal

-- ---- The four values: a refused image has the stamp 0 and 0

abbrev pub number : Answer → ℕ
number = number_in refusal_number

abbrev pub place : Answer → ℕ
place = place_in refusal_place

abbrev pub first : Answer → ℕ
first (Ok stamp) = stamp.first
first (Err refusal) = no_stamp

abbrev pub second : Answer → ℕ
second (Ok stamp) = stamp.second
second (Err refusal) = no_stamp

-- ---- The call: the table checks, then the two sums

unfoldable pub stamping : List ℕ → Answer
stamping image =
    elim (verdict_of image) [ Err r ↦ Err r | Ok right ↦ Ok (record { first = (sums_of image).first; second = (sums_of image).second }) ]
