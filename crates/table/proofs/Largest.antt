-- No right image has more than 28,301 bytes, and none in the old form more than 23,505. The idea: a section has at most as many records as are allowed, each of
-- at most so many bytes, and the five sections and the trailer are all that there is. Limits.antt has an image of 28,301.
use Prim.Native.Nat.{ℕ, ◌+◌, ◌*◌, ◌≤◌, ◌<◌}
use mathlib.Core.Bool.{false}
use mathlib.Core.List.{List}
use mathlib.Core.Path.{◌≡◌, ◌∙◌, ap}
use native.Mathlib.Nat.{mul-le-mul}
use native.Mathlib.Omega.{arith}
use lib.ListN.{length}
use Rattle.table.specs.Numbers.{entry_size}
use Rattle.table.specs.Sections.{is_dated}
use Rattle.table.specs.Refusals.{WholeRecords, FrameRight, EntryForm, old_form, new_form}
use Rattle.table.specs.Verdict.{verdict_of}
use Rattle.std.specs.Prelude.{Ok}
use Rattle.table.proofs.Forms.{undated_size, form_size}
use Rattle.table.proofs.Refusals.{accepted}

-- a section of at most so many records, each of at most so many bytes
most_bytes : {size bytes least most : ℕ} (long many : ℕ) → size ≤ long → most ≤ many → WholeRecords size bytes least most → bytes ≤ long * many
most_bytes {size} long many l m w =
    let few : w.number ≤ many = let allowed = w.allowed in omega arith in
    let fits : size * w.number ≤ long * many = mul-le-mul l few in
    let whole = w.whole in
    omega arith

module _ (image : List ℕ) (f : FrameRight image) where
  -- all but the contractions have at most 1,923 bytes
  most_and_entries : length image ≤ 1923 + f.entry_size_lem * 1199
  most_and_entries =
      let alphabet = most_bytes 3 63 (omega arith) (omega arith) f.alphabet_whole in
      let contractions = most_bytes f.entry_size_lem 1199 (omega arith) (omega arith) f.contractions_whole in
      let contexts = most_bytes 4 5 (omega arith) (omega arith) f.contexts_whole in
      let transitions = most_bytes 40 15 f.classes_right.high f.variables_right f.transitions_whole in
      let decisions = most_bytes 55 20 (omega arith) (omega arith) f.decisions_whole in
      let falls = f.never_rise in
      omega (arith, falls 0 (omega arith), falls 1 (omega arith), falls 2 (omega arith), falls 3 (omega arith))

  pub largest_old : is_dated image ≡ false → length image ≤ 23505
  largest_old old =
      let most = most_and_entries in
      let size : f.entry_size_lem ≡ entry_size = form_size image f.form ∙ undated_size image old in
      let entries : f.entry_size_lem * 1199 ≡ 18 * 1199 = ap (λ (n : ℕ). n * 1199) size in
      omega arith

  pub largest : length image ≤ 28301
  largest = let most = most_and_entries in let entries = by_form f.form in omega arith
    where
      by_form : {size : ℕ} → EntryForm image size → size * 1199 ≤ 26378
      by_form (old_form e) = omega arith
      by_form (new_form e) = omega arith

-- 'the first 32,768 of the table file, which no right image reaches'
pub accepted_fits : (image : List ℕ) → verdict_of image ≡ (Ok tt) → length image < 32768
accepted_fits image accepts = let most = largest image ((accepted image).0 accepts).0 in omega arith
