-- The frame of an image that was made is right, so whatever image `make` wrote is never refused with 1. The idea: each distance of the trailer is read as it was
-- written, and is the length of the sections from there on; the sections have as many records as there were lines.
use Prim.Native.Nat.{ℕ, zero, suc, ◌+◌, ◌/◌, ◌%◌, ◌≤◌, ◌<◌}
use mathlib.Core.Bool.{Bool, true, false, cond}
use mathlib.Core.List.{List, ◌++◌}
use mathlib.Core.Path.{◌≡◌, refl, sym, ◌∙◌, ap, subst}
use native.Mathlib.Nat.{mod-add-div}
use native.Mathlib.Omega.{arith}
use lib.Dec.{leb}
use lib.ListN.{length, get_or, take, drop, length-append}
use lib.Seq.{get_or-append-add, take_at}
use Rattle.table.specs.Numbers.{trailer_size, classes_byte, variables_byte, first_mark_byte, second_mark_byte, first_mark, second_mark, dated_mark, entry_size, dated_entry_size}
use Rattle.table.specs.Sections.{byte_at, number_at, trailer_at, distance, classes_in, variables_in, frame_right}
use Rattle.table.specs.Refusals.{EntryForm, old_form, new_form, FrameRight, Refusal1, Line, line_1, line_2, line_11, line_12, line_13, line_14, line_3, line_4}
use Rattle.table.specs.Verdict.{verdict_of}
use Rattle.table.specs.declared.Refusal.TheVariants.{Frame, Room}
use Rattle.std.specs.Prelude.{Ok, Err}
use Rattle.table.proofs.Frame.{frame_right_lem}
use Rattle.table.proofs.Refusals.{VerdictTold, table_refused, verdict_told}
use Rattle.form.specs.Fields.{number_bytes}
use Rattle.form.specs.Reading.{Reading, good, bad, reading, entry_size_for, decisions_for, transitions_for, contexts_for, entries_for, letters_for, trailer_for, image_of}
use Rattle.form.specs.Calls.{refused, done, roomed, unlike, making}
use Rattle.form.specs.Promises.{Ends}
use Rattle.form.specs.declared.Draft.{Draft}
use Rattle.form.specs.declared.Undrawn.TheVariants.{Refused}
use Rattle.tables.proofs.Drafts.{Comes, reading_good}

-- ---- The trailer, read back

pub trailer_long : (d : Draft) → length (trailer_for d) ≡ trailer_size
unfolding trailer_for number_bytes
trailer_long d = refl

pub image_long : (d : Draft) (body : List ℕ) → length (image_of d body) ≡ length body + trailer_size
unfolding image_of
image_long d body = length-append body (trailer_for d) ∙ ap (λ (n : ℕ). length body + n) (trailer_long d)

module _ (d : Draft) (body : List ℕ) where
  abbrev image : List ℕ
  image = image_of d body

  pub trailer_starts : trailer_at (image_of d body) ≡ length body
  unfolding trailer_at
  trailer_starts = omega (arith, image_long d body)

  pub trailer_byte : (i : ℕ) → byte_at (image_of d body) (trailer_at (image_of d body) + i) ≡ get_or (trailer_for d) i 0
  unfolding byte_at image_of
  trailer_byte i =
      ap (λ (n : ℕ). get_or (body ++ trailer_for d) (n + i) 0) trailer_starts ∙ get_or-append-add body (trailer_for d) i 0

  number_read : (at n : ℕ) → get_or (trailer_for d) at 0 ≡ n % 256 → get_or (trailer_for d) (at + 1) 0 ≡ n / 256 → number_at image (trailer_at image + at) ≡ n
  unfolding number_at
  number_read at n is_low is_high =
      let low = trailer_byte at in
      let high = trailer_byte (at + 1) in
      let whole = mod-add-div n 256 in
      let same : byte_at image (trailer_at image + at + 1) ≡ byte_at image (trailer_at image + (at + 1)) = ap (byte_at image) (omega arith) in
      omega arith

  pub letters_distance : distance (image_of d body) 0 ≡ letters_for d
  unfolding distance trailer_for number_bytes
  letters_distance = number_read 0 (letters_for d) refl refl

  pub entries_distance : distance (image_of d body) 1 ≡ entries_for d
  unfolding distance trailer_for number_bytes
  entries_distance = number_read 2 (entries_for d) refl refl

  pub contexts_distance : distance (image_of d body) 2 ≡ contexts_for d
  unfolding distance trailer_for number_bytes
  contexts_distance = number_read 4 (contexts_for d) refl refl

  pub transitions_distance : distance (image_of d body) 3 ≡ transitions_for d
  unfolding distance trailer_for number_bytes
  transitions_distance = number_read 6 (transitions_for d) refl refl

  pub decisions_distance : distance (image_of d body) 4 ≡ decisions_for d
  unfolding distance trailer_for number_bytes
  decisions_distance = number_read 8 (decisions_for d) refl refl

  pub classes_read : classes_in (image_of d body) ≡ d.classes
  unfolding classes_in trailer_for number_bytes
  classes_read = trailer_byte classes_byte

  pub variables_read : variables_in (image_of d body) ≡ d.variables
  unfolding variables_in trailer_for number_bytes
  variables_read = trailer_byte variables_byte

  first_mark_read : byte_at image (trailer_at image + first_mark_byte) ≡ first_mark
  unfolding trailer_for number_bytes
  first_mark_read = trailer_byte first_mark_byte

  pub mark_read : byte_at (image_of d body) (trailer_at (image_of d body) + second_mark_byte) ≡ cond d.dated dated_mark second_mark
  unfolding trailer_for number_bytes
  mark_read = trailer_byte second_mark_byte

  form : EntryForm image (entry_size_for d)
  unfolding entry_size_for
  form = go d.dated mark_read
    where
      go : (t : Bool) → byte_at image (trailer_at image + second_mark_byte) ≡ cond t dated_mark second_mark → EntryForm image (cond t dated_entry_size entry_size)
      go true e = new_form e
      go false e = old_form e

  -- ---- The frame

  never_rise : (k : ℕ) → k < 4 → distance image (k + 1) ≤ distance image k
  unfolding letters_for entries_for contexts_for transitions_for
  never_rise zero l = omega (arith, letters_distance, entries_distance)
  never_rise (suc zero) l = omega (arith, entries_distance, contexts_distance)
  never_rise (suc (suc zero)) l = omega (arith, contexts_distance, transitions_distance)
  never_rise (suc (suc (suc zero))) l = omega (arith, transitions_distance, decisions_distance)
  never_rise (suc (suc (suc (suc k)))) l = absurd (omega arith)

  pub comes_framed : Comes d body → FrameRight (image_of d body)
  unfolding letters_for entries_for contexts_for transitions_for decisions_for
  comes_framed c =
      record {
        trailer_there = omega (arith, image_long d body);
        first_mark_lem = first_mark_read;
        entry_size_lem = entry_size_for d;
        form = form;
        classes_right = rw classes_read (record { low = c.classes; high = c.modest.classes });
        variables_right = rw variables_read c.modest.variables;
        first_distance = omega (arith, letters_distance, image_long d body, c.size);
        never_rise = never_rise;
        alphabet_whole =
            record {
              number = d.letters;
              whole = omega (arith, letters_distance, entries_distance);
              allowed = record { low = c.letters; high = c.modest.letters };
            };
        contractions_whole =
            record {
              number = d.entries;
              whole = omega (arith, entries_distance, contexts_distance);
              allowed = record { low = omega arith; high = c.modest.entries };
            };
        contexts_whole =
            record {
              number = d.contexts;
              whole = omega (arith, contexts_distance, transitions_distance);
              allowed = record { low = omega arith; high = c.modest.contexts };
            };
        transitions_whole =
            rw (classes_read, variables_read)
            (record {
              number = d.transitions;
              whole = omega (arith, transitions_distance, decisions_distance);
              allowed = record { low = omega (arith, c.transitions); high = omega (arith, c.transitions) };
            });
        decisions_whole =
            rw (classes_read, variables_read)
            (record { number = d.decisions; whole = sym decisions_distance; allowed = record { low = omega arith; high = c.modest.decisions } });
      }

pub made_frame : (text : List ℕ) (d : Draft) (body : List ℕ) → reading text ≡ good d body → frame_right (image_of d body) ≡ true
made_frame text d body e = (frame_right_lem (image_of d body)).1 (comes_framed d body (reading_good text d body e))

-- ---- The calls

-- what `make` wrote, where it is done
pub record Made (text : List ℕ) (w : ℕ) (after : List ℕ) : Type 0 where
  pub draft : Draft
  pub body : List ℕ
  pub reads : reading text ≡ good draft body
  pub writes : take w after ≡ image_of draft body

pub make_made : (text before : List ℕ) (w : ℕ) (after : List ℕ) → Ends (making text before) (Ok w) after → Made text w after
unfolding making roomed done refused unlike
make_made text before w after ends = go (reading text) refl ends
  where
    roomy : (d : Draft) (body : List ℕ) (t : Bool) → reading text ≡ good d body
        → Ends (elim t [ true ↦ done before (image_of d body) | false ↦ refused before (Err (Refused (Room (length (image_of d body))))) ]) (Ok w) after → Made text w after
    roomy d body true e ends =
        let answers = ends.answers in
        let long : w ≡ length (image_of d body) = cc in
        record {
          draft = d;
          body = body;
          reads = e;
          writes = ap (λ (xs : List ℕ). take w xs) ends.leaves ∙ take_at (image_of d body) (drop (length (image_of d body)) before) w (sym long);
        }
    roomy d body false e ends = let answers = ends.answers in let z : ◌≡◌ {A = ℕ} 0 1 = cc in absurd (omega arith)

    go : (r : Reading) → reading text ≡ r
        → Ends (elim r [ bad e at ↦ refused before (unlike text e at) | good d body ↦ roomed before (image_of d body) ]) (Ok w) after → Made text w after
    go (bad x at) e ends = let answers = ends.answers in let z : ◌≡◌ {A = ℕ} 0 1 = cc in absurd (omega arith)
    go (good d body) e ends = roomy d body (leb (length (image_of d body)) (length before)) e ends

-- a verdict of 1 says that the frame is wrong
frame_line : (image : List ℕ) {t n p : ℕ} → Line image t n p → n ≡ 1 → Refusal1 image
frame_line image (line_1 x) e = x
frame_line image (line_2 x) e = absurd (omega arith)
frame_line image (line_11 x) e = absurd (omega arith)
frame_line image (line_12 x) e = absurd (omega arith)
frame_line image (line_13 x) e = absurd (omega arith)
frame_line image (line_14 x) e = absurd (omega arith)
frame_line image (line_3 x) e = absurd (omega arith)
frame_line image (line_4 x) e = absurd (omega arith)

pub framed_never_1 : (image : List ℕ) → frame_right image ≡ true → verdict_of image ≡ Err Frame → ⊥
framed_never_1 image framed e = go (subst (VerdictTold image) e (verdict_told image))
  where
    go : VerdictTold image (Err Frame) → ⊥
    go (table_refused h f) = frame_line image f.line refl ((frame_right_lem image).0 framed)

-- whatever image `make` wrote is never refused with 1
pub made_never_1 : (text before : List ℕ) (w : ℕ) (after : List ℕ) → Ends (making text before) (Ok w) after
    → verdict_of (take w after) ≡ Err Frame → ⊥
made_never_1 text before w after ends e =
    let m = make_made text before w after ends in
    framed_never_1 (take w after) (rw m.writes (made_frame text m.draft m.body m.reads)) e
