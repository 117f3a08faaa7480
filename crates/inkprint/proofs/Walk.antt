-- Laws of the walk over a text: a mark has four bytes at most, what is marked so far grows by one character's bytes at a time, and a byte's source is found on
-- the way.
use Prim.Native.Nat.{ℕ, zero, suc, ◌+◌, ◌-◌, ◌*◌, ◌≤◌, ◌<◌}
use mathlib.Core.Bool.{Bool, true, false, false≢true, cond, not, ◌&&◌}
use mathlib.Core.List.{List, [], ◌∷◌, ◌++◌}
use mathlib.Core.Path.{◌≡◌, refl, sym, ◌∙◌, ap}
use native.Mathlib.Omega.{arith}
use lib.Dec.{eqb}
use lib.ListN.{length, take, set, get_or, drop, length-append}
use lib.Seq.{length-take-le, sets}
use borrow.Author.Tests.{lt-ltb, le-ltb, eqb-false}
use Rattle.std.specs.Prelude.{Ok}
use Rattle.table.specs.Search.{within}
use Rattle.table.specs.inside.Wrote.{Wrote}
use Rattle.table.proofs.Tests.{tells_within}
use Rattle.table.proofs.Wrote.{put_then, run_more}
use Rattle.inkprint.specs.Numbers.{code_sign, quote_code, right_code, paragraph_code, line_feed, blank, apostrophe}
use Rattle.inkprint.specs.Characters.{next_of, characters_from, characters_of}
use Rattle.inkprint.specs.Glyphs.{is_own_sign, is_gap, ascii_sign, glyph_of, is_marked}
use Rattle.inkprint.specs.Marks.{bytes_of, signs, is_filled, stays_blank, starts_letter, is_blank, word_of, capital_signs, letter_mark, letter_step, sign_step, close_step, gap_step, feed_step, step_of, state, start, step, Marking, marked, unmarked, mark_from, marking, source_from, source_of}
use Rattle.inkprint.specs.inside.Steps.{walked_to, Begins, Ends, Small, Puts}
use Rattle.inkprint.specs.declared.Character.{Character}
use Rattle.inkprint.specs.declared.Glyph.{Glyph}
use Rattle.inkprint.specs.declared.Glyph.TheVariants.{Letter, Plain, Literal, Gap, Nothing, Feed, Page, LongDash, Dots, Opens, Closes, Unmarked}
use Rattle.inkprint.specs.declared.Line.TheVariants.{Starts, Blank, Filled}
use Rattle.inkprint.specs.declared.Signs.{Signs}
use Rattle.inkprint.specs.declared.State.{State}
use Rattle.inkprint.specs.declared.Step.{Step}
use Rattle.inkprint.specs.declared.Word.TheVariants.{Outside}

-- ---- A mark has four bytes at most

pub bytes_length : {m : Signs} → Small m → length (bytes_of m) ≡ m.count
unfolding bytes_of
bytes_length {m} small = let most = small.count in let room = small.room in length-take-le m.count m.bytes (omega arith)

cond_small : (b : Bool) {m n : Signs} → Small m → Small n → Small (cond b m n)
cond_small true p q = p
cond_small false p q = q

cond_step : (b : Bool) (x y : Step) → Small x.mark → Small y.mark → Small (cond b x y).mark
cond_step true x y p q = p
cond_step false x y p q = q

letter_small : (signs : ℕ) (accented : Bool) (letter : ℕ) → Small (letter_mark signs accented letter)
unfolding letter_mark
letter_small signs accented letter =
    cond_small accented
    (cond_small (eqb signs 0) (record { count = omega arith; room = refl }) (cond_small (eqb signs 1) (record { count = omega arith; room = refl }) (record { count = omega arith; room = refl })))
    (cond_small (eqb signs 0) (record { count = omega arith; room = refl }) (cond_small (eqb signs 1) (record { count = omega arith; room = refl }) (record { count = omega arith; room = refl })))

sign_small : (s : State) (sign : ℕ) (rest : List Character) → Small (sign_step s sign rest).mark
unfolding sign_step
sign_small s sign rest = record { count = omega arith; room = refl }

gap_small : (s : State) (rest : List Character) → Small (gap_step s rest).mark
unfolding gap_step
gap_small s rest =
    cond_step (stays_blank s.line (is_blank rest)) (step (signs []) (state Blank Outside s.single)) (step (signs (blank ∷ [])) (state Filled Outside s.single))
    (record { count = omega arith; room = refl })
    (record { count = omega arith; room = refl })

feed_small : (s : State) → Small (feed_step s).mark
unfolding feed_step
feed_small s =
    cond_step (is_filled s.line) (step (signs (line_feed ∷ [])) (state Starts Outside s.single)) (step (signs (code_sign ∷ paragraph_code ∷ [])) start) (record { count = omega arith; room = refl })
    (record { count = omega arith; room = refl })

close_small : (s : State) (rest : List Character) → Small (close_step s rest).mark
unfolding close_step
close_small s rest =
    cond_step (s.single && not (starts_letter rest)) (step (signs (code_sign ∷ quote_code ∷ right_code ∷ [])) (state Filled Outside false)) (sign_step s apostrophe rest)
    (record { count = omega arith; room = refl })
    (sign_small s apostrophe rest)

pub step_small : (s : State) (g : Glyph) (rest : List Character) → Small (step_of s g rest).mark
unfolding letter_step
step_small s (Letter l c a) rest = letter_small (capital_signs s c (word_of s c rest)) a l
step_small s (Plain c) rest = sign_small s c rest
step_small s (Literal c) rest = record { count = omega arith; room = refl }
step_small s Gap rest = gap_small s rest
step_small s Nothing rest = record { count = omega arith; room = refl }
step_small s Feed rest = feed_small s
step_small s Page rest = record { count = omega arith; room = refl }
step_small s LongDash rest = record { count = omega arith; room = refl }
step_small s Dots rest = record { count = omega arith; room = refl }
step_small s Opens rest = record { count = omega arith; room = refl }
step_small s Closes rest = close_small s rest
step_small s Unmarked rest = record { count = omega arith; room = refl }

-- up to four bytes, over as many of the four zeros
pub signs_over : (bytes : List ℕ) → length bytes ≤ 4
    → ◌≡◌ {A = Signs} (record { count = length bytes; bytes = bytes ++ drop (length bytes) (0 ∷ 0 ∷ 0 ∷ 0 ∷ []) }) (signs bytes)
signs_over [] few = refl
signs_over (a ∷ []) few = refl
signs_over (a ∷ b ∷ []) few = refl
signs_over (a ∷ b ∷ c ∷ []) few = refl
signs_over (a ∷ b ∷ c ∷ d ∷ []) few = refl
signs_over (a ∷ b ∷ c ∷ d ∷ e ∷ more) few = absurd (omega arith)

-- ---- A mark is put

module _ (m : Signs) (before : List ℕ) (at : ℕ) (small : Small m) where
  pub puts_short : length before < at + m.count → Puts before at (bytes_of m) before
  puts_short short = let n = bytes_length small in record { writes = λ fits. absurd (omega arith) }

  pub puts_none : m.count ≡ 0 → Puts before at (bytes_of m) before
  unfolding bytes_of
  puts_none e = record { writes = λ _. record { leaves = rw e } }

  puts_counted : {after : List ℕ} (n : ℕ) → after ≡ sets before at (take n m.bytes) → m.count ≡ n → Puts before at (bytes_of m) after
  unfolding bytes_of
  puts_counted n is e = record { writes = λ _. record { leaves = rw e is } }

  stored_one : set before at (get_or m.bytes 0 0) ≡ sets before at (take 1 m.bytes)
  stored_one =
      let room = small.room in
      let here : at + 0 ≡ at = omega arith in
      rw here at (run_more before at m.bytes 0 (omega arith))

  stored_two : set (set before at (get_or m.bytes 0 0)) (at + 1) (get_or m.bytes 1 0) ≡ sets before at (take 2 m.bytes)
  stored_two = let room = small.room in rw stored_one (run_more before at m.bytes 1 (omega arith))

  stored_three : set (set (set before at (get_or m.bytes 0 0)) (at + 1) (get_or m.bytes 1 0)) (at + 2) (get_or m.bytes 2 0) ≡ sets before at (take 3 m.bytes)
  stored_three = let room = small.room in rw stored_two (run_more before at m.bytes 2 (omega arith))

  pub puts_one : m.count ≡ 1 → Puts before at (bytes_of m) (set before at (get_or m.bytes 0 0))
  puts_one e = puts_counted 1 stored_one e

  pub puts_two : m.count ≡ 2 → Puts before at (bytes_of m) (set (set before at (get_or m.bytes 0 0)) (at + 1) (get_or m.bytes 1 0))
  puts_two e = puts_counted 2 stored_two e

  pub puts_three : m.count ≡ 3
      → Puts before at (bytes_of m) (set (set (set before at (get_or m.bytes 0 0)) (at + 1) (get_or m.bytes 1 0)) (at + 2) (get_or m.bytes 2 0))
  puts_three e = puts_counted 3 stored_three e

  pub puts_four : m.count ≡ 4
      → Puts before at (bytes_of m)
      (set (set (set (set before at (get_or m.bytes 0 0)) (at + 1) (get_or m.bytes 1 0)) (at + 2) (get_or m.bytes 2 0)) (at + 3) (get_or m.bytes 3 0))
  puts_four e = let room = small.room in puts_counted 4 (rw stored_three (run_more before at m.bytes 3 (omega arith))) e

-- ---- One character more of the marking

-- what a walk has come to: `sofar` is marked, and what is left of the text goes on from here
pub record Walks (text : List ℕ) (s : State) (left : List ℕ) (to : ℕ) (before after : List ℕ) : Type 0 where
  pub within : length left ≤ length text
  pub most : to + 4 * length left ≤ 4 * length text
  pub sofar : List ℕ
  pub long : length sofar ≡ to
  pub goes : marking text ≡ mark_from s (length text - length left) sofar (characters_of left)
  pub put : to ≤ length before → Wrote before 0 sofar after

pub walk_starts : (text before : List ℕ) → Walks text start text 0 before before
unfolding marking
walk_starts text before =
    let here : length text - length text ≡ 0 = omega arith in
    record { within = omega arith; most = omega arith; sofar = []; long = refl; goes = rw here; put = λ _. record { leaves = refl } }

module _ (text left : List ℕ) {rest : List ℕ} {c : Character} (begins : Begins left c rest) (within : length left ≤ length text) where
  place_on : length text - length left + c.size ≡ length text - length rest
  place_on = let long = begins.long in omega arith

  module _ (s : State) (sofar : List ℕ) where
    mark_goes : is_marked (glyph_of c.code) ≡ true
        → (let stepped = step_of s (glyph_of c.code) (characters_of rest) in
        mark_from s (length text - length left) sofar (characters_of left)
        ≡ mark_from stepped.next (length text - length rest) (sofar ++ bytes_of stepped.mark) (characters_of rest))
    unfolding mark_from
    mark_goes e = rw (begins.first, e, mark_from, place_on)

    mark_stops : is_marked (glyph_of c.code) ≡ false → mark_from s (length text - length left) sofar (characters_of left) ≡ unmarked (length text - length left)
    unfolding mark_from
    mark_stops e = rw (begins.first, e, mark_from)

-- by the values that the code has
pub walk_on : {text before after then left rest : List ℕ} {s : State} {to : ℕ} {c : Character} {g : Glyph} {stepped : Step}
    → Begins left c rest
    → g ≡ glyph_of c.code
    → is_marked g ≡ true
    → stepped ≡ step_of s g (characters_of rest)
    → length after ≡ length before
    → Puts after to (bytes_of stepped.mark) then
    → Walks text s left to before after
    → Walks text stepped.next rest (to + stepped.mark.count) before then
walk_on {text} {before} {after} {then} {left} {rest} {s} {to} {c} {g} {stepped} begins is_g there is_step same puts w =
    let small : Small stepped.mark = rw is_step (step_small s g (characters_of rest)) in
    let n = bytes_length small in
    let four = small.count in
    let both = length-append w.sofar (bytes_of stepped.mark) in
    let long = w.long in
    let within = w.within in
    let most = w.most in
    let some = begins.some in
    let size = begins.long in
    record {
      within = omega arith;
      most = omega arith;
      sofar = w.sofar ++ bytes_of stepped.mark;
      long = omega arith;
      goes = w.goes ∙ rw (is_step, is_g) (mark_goes text left begins w.within s w.sofar (rw is_g at there));
      put = λ room. record { leaves = put_then before after then 0 w.sofar (bytes_of stepped.mark) (w.put (omega arith)).leaves (puts.writes (omega arith)).leaves (omega arith) };
    }

pub walk_stops : {text before after left rest : List ℕ} {s : State} {to : ℕ} {c : Character} {g : Glyph}
    → Begins left c rest → g ≡ glyph_of c.code → is_marked g ≡ false → Walks text s left to before after → marking text ≡ unmarked (length text - length left)
walk_stops {text = text} {left = left} {s = s} begins is_g not_there w = w.goes ∙ mark_stops text left begins w.within s w.sofar (rw is_g at not_there)

-- a text that has a character with no mark has no marked text
pub never_marked : (text : List ℕ) {bytes : List ℕ} {at : ℕ} → marking text ≡ unmarked at → marking text ≡ marked bytes → ⊥
never_marked text p q = cc

walk_ends : {text before after left : List ℕ} {s : State} {to : ℕ} → Ends left → (w : Walks text s left to before after) → marking text ≡ marked w.sofar
unfolding mark_from
walk_ends ends w = w.goes ∙ rw (ends.none, mark_from)

pub walk_comes : {text before after left : List ℕ} {s : State} {to : ℕ} → Ends left → Walks text s left to before after → Ok to ≡ walked_to (marking text)
walk_comes ends w = rw w.long at (sym (ap walked_to (walk_ends ends w)))

pub walk_wrote : {text before after bytes left : List ℕ} {s : State} {to : ℕ} → Ends left → (w : Walks text s left to before after)
    → marking text ≡ marked bytes → length bytes ≤ length before → Wrote before 0 bytes after
walk_wrote {text} {before} {after} {bytes} ends w is fits =
    let all = walk_ends ends w in
    let same : w.sofar ≡ bytes = cc in
    let long = w.long in
    let also = ap length same in
    record { leaves = rw same at (w.put (omega arith)).leaves }

-- ---- The judging: some state and some marked text lead to the rest

pub record Judges (text left : List ℕ) : Type 0 where
  pub within : length left ≤ length text
  pub s : State
  pub sofar : List ℕ
  pub goes : marking text ≡ mark_from s (length text - length left) sofar (characters_of left)

pub judge_starts : (text : List ℕ) → Judges text text
unfolding marking
judge_starts text = let here : length text - length text ≡ 0 = omega arith in record { within = omega arith; s = start; sofar = []; goes = rw here }

pub judge_on : {text left rest : List ℕ} {c : Character} → Begins left c rest → is_marked (glyph_of c.code) ≡ true → Judges text left → Judges text rest
judge_on {text = text} {left = left} {rest = rest} {c = c} begins there j =
    let stepped = step_of j.s (glyph_of c.code) (characters_of rest) in
    let within = j.within in
    let size = begins.long in
    record {
      within = omega arith;
      s = stepped.next;
      sofar = j.sofar ++ bytes_of stepped.mark;
      goes = j.goes ∙ mark_goes text left begins j.within j.s j.sofar there;
    }

pub judge_stops : {text left rest : List ℕ} {c : Character} → Begins left c rest → is_marked (glyph_of c.code) ≡ false → Judges text left
    → marking text ≡ unmarked (length text - length left)
judge_stops {text = text} {left = left} begins not_there j = j.goes ∙ mark_stops text left begins j.within j.s j.sofar not_there

pub judge_ends : {text left : List ℕ} → Ends left → (j : Judges text left) → marking text ≡ marked j.sofar
unfolding mark_from
judge_ends ends j = j.goes ∙ rw (ends.none, mark_from)

-- each character of ASCII from the blank to the tilde has a mark

record HasMark (g : Glyph) : Type 0 where
  has : is_marked g ≡ true

if_marked : (t : Bool) {g h : Glyph} → (t ≡ true → HasMark g) → (t ≡ false → HasMark h) → HasMark (cond t g h)
if_marked true p q = p refl
if_marked false p q = q refl

sign_marked : (b : ℕ) → HasMark (ascii_sign b)
unfolding ascii_sign
sign_marked b =
    if_marked (is_own_sign b) (λ _. record { has = refl })
    (λ _. if_marked (eqb b 91) (λ _. record { has = refl }) (λ _. if_marked (eqb b 93) (λ _. record { has = refl }) (λ _. record { has = refl })))

-- what is neither the blank nor of 33 to 126 isn't there
past_gap : (b : ℕ) → 32 ≤ b → b ≤ 126 → is_gap b ≡ false → within 33 126 b ≡ false → ⊥
unfolding is_gap
past_gap b low high n o = go (eqb b 32) refl
  where
    go : (t : Bool) → eqb b 32 ≡ t → ⊥
    go true h = false≢true (sym (rw h at n))
    go false h =
        let other = eqb-false b 32 h in
        false≢true (sym o ∙ (tells_within 33 126 b).1 (omega arith))

pub ascii_marked : (b : ℕ) → 32 ≤ b → b ≤ 126 → is_marked (glyph_of b) ≡ true
unfolding glyph_of
ascii_marked b low high =
    (if_marked (within 97 122 b) (λ _. record { has = refl })
    (λ _. if_marked (within 65 90 b) (λ _. record { has = refl })
    (λ _. if_marked (is_gap b) (λ _. record { has = refl })
    (λ n. if_marked (within 33 126 b) (λ _. sign_marked b) (λ o. absurd (past_gap b low high n o)))))).has

-- ---- A marked text has at most four bytes for each of the text

characters_few : (n : ℕ) (text : List ℕ) → length (characters_from n text) ≤ n
unfolding characters_from
characters_few zero text = omega arith
characters_few (suc n) [] = omega arith
characters_few (suc n) (b ∷ bs) = let few = characters_few n (drop (next_of (b ∷ bs)).size (b ∷ bs)) in omega arith

marked_few : (cs : List Character) (s : State) (at : ℕ) (sofar bytes : List ℕ) → mark_from s at sofar cs ≡ marked bytes → length bytes ≤ length sofar + 4 * length cs
unfolding mark_from
marked_few [] s at sofar bytes e = let same : sofar ≡ bytes = cc in let also = ap length same in omega arith
marked_few (c ∷ cs) s at sofar bytes e = go (is_marked (glyph_of c.code)) refl (λ s at sofar e. marked_few cs s at sofar bytes e)
  where
    go : (t : Bool) → is_marked (glyph_of c.code) ≡ t
        → ((s : State) (at : ℕ) (sofar : List ℕ) → mark_from s at sofar cs ≡ marked bytes → length bytes ≤ length sofar + 4 * length cs)
        → length bytes ≤ length sofar + 4 * length (c ∷ cs)
    go true h rest =
        let stepped = step_of s (glyph_of c.code) cs in
        let small = step_small s (glyph_of c.code) cs in
        let long = bytes_length small in
        let both = length-append sofar (bytes_of stepped.mark) in
        let count = small.count in
        let later = rest stepped.next (at + c.size) (sofar ++ bytes_of stepped.mark) (rw (h, mark_from) at e) in
        omega arith
    go false h rest = let never : unmarked at ≡ marked bytes = rw (h, mark_from) at e in cc

pub four_each : (text bytes : List ℕ) → marking text ≡ marked bytes → length bytes ≤ 4 * length text
unfolding marking characters_of
four_each text bytes e =
    let few = characters_few (length text) text in
    let most = marked_few (characters_of text) start 0 [] bytes e in
    omega arith

-- ---- What a marking comes to

-- the marked text has so many bytes
pub record Comes (m : Marking) (n : ℕ) : Type 0 where
  pub bytes : List ℕ
  pub is : m ≡ marked bytes
  pub long : length bytes ≡ n

pub same_bytes : {xs ys : List ℕ} → marked xs ≡ marked ys → xs ≡ ys
same_bytes e = cc

-- ---- One character more of the sources

-- what is left to look for: the source of the byte is that of byte `n` of what is marked from here on
pub record Seeks (text : List ℕ) (byte : ℕ) (s : State) (left : List ℕ) (n : ℕ) : Type 0 where
  pub within : length left ≤ length text
  pub goes : source_of text byte ≡ source_from s (length text - length left) n (characters_of left)

pub source_starts : (text : List ℕ) (n : ℕ) → Seeks text n start text n
unfolding source_of
source_starts text n = let here : length text - length text ≡ 0 = omega arith in record { within = omega arith; goes = rw here }

pub source_ends : {text left : List ℕ} {byte n : ℕ} {s : State} → Ends left → Seeks text byte s left n → source_of text byte ≡ length text - length left
unfolding source_from
source_ends ends k = k.goes ∙ rw (ends.none, source_from)

-- by the values that the code has
module _ {text left rest : List ℕ} {byte n : ℕ} {s : State} {c : Character} {g : Glyph} {stepped : Step} (begins : Begins left c rest) (is_g : g ≡ glyph_of c.code)
    (is_step : stepped ≡ step_of s g (characters_of rest)) (k : Seeks text byte s left n) where
  pub source_found : n < stepped.mark.count → source_of text byte ≡ length text - length left
  unfolding source_from
  source_found l = k.goes ∙ rw (begins.first, rw (is_step, is_g) at (lt-ltb n stepped.mark.count l), source_from)

  pub source_more : stepped.mark.count ≤ n → Seeks text byte stepped.next rest (n - stepped.mark.count)
  unfolding source_from
  source_more l =
      let within = k.within in
      let size = begins.long in
      record {
        within = omega arith;
        goes = k.goes ∙ rw (begins.first, rw (is_step, is_g) at (le-ltb n stepped.mark.count l), source_from, place_on text left begins k.within, is_step, is_g);
      }
