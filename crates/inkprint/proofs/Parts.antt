-- A text may be marked in pieces, cut after blank lines: no rule looks past a line's end, and after a blank line all begins anew. By induction on the characters
-- before a line feed; a line feed belongs to no other character, so the characters before it and after it are those of the bytes before it and after it.
use Prim.Native.Nat.{ℕ, zero, suc, ◌+◌, ◌≤◌, ◌<◌}
use mathlib.Core.Bool.{Bool, true, false, false≢true, cond, ◌&&◌, and-false}
use mathlib.Core.List.{List, [], ◌∷◌, ◌++◌, append_assoc, append-nil}
use mathlib.Core.Logic.{◌⊎◌, inl, inr}
use mathlib.Core.Path.{◌≡◌, refl, sym, ◌∙◌, ap}
use native.Mathlib.Omega.{arith}
use lib.Dec.{ltb}
use lib.ListN.{length, get_or, drop, length-drop}
use lib.Seq.{drop-append-le}
use Rattle.table.specs.Lists.{All, empty, ◌and◌}
use Rattle.inkprint.specs.Numbers.{broken, line_feed, code_sign, paragraph_code}
use Rattle.inkprint.specs.Characters.{character, goes_on, of_four, of_three, of_two, of_bytes, next_of, characters_from, characters_of}
use Rattle.inkprint.specs.Glyphs.{is_gap, other_glyph, glyph_of, is_marked, is_letter, is_capital, is_apostrophe}
use Rattle.inkprint.specs.Marks.{bytes_of, signs, is_filled, starts_letter, starts_capital, capital_next, capitals_on, all_capitals, is_blank, state, start, step, word_of, letter_step, sign_step, close_step, gap_step, feed_step, step_of, Marking, marked, unmarked, mark_from, marking}
use Rattle.inkprint.specs.Kept.{is_empty, LineStarts, first, after, EndsBlank, Pieces, last, before}
use Rattle.inkprint.specs.declared.Character.{Character}
use Rattle.inkprint.specs.declared.Glyph.{Glyph}
use Rattle.inkprint.specs.declared.Glyph.TheVariants.{Letter, Plain, Literal, Gap, Nothing, Feed, Page, LongDash, Dots, Opens, Closes, Unmarked}
use Rattle.inkprint.specs.declared.Line.TheVariants.{Starts, Blank}
use Rattle.inkprint.specs.declared.State.{State}
use Rattle.inkprint.specs.declared.Word.TheVariants.{Outside}
use Rattle.inkprint.proofs.Characters.{next_size, next_within, characters_more}
use Rattle.inkprint.proofs.Kept.{mark_step}

-- ---- A line feed goes on with no character

four_stop : (a b c d : ℕ) → goes_on d ≡ false → of_four a b c d ≡ character broken 1
unfolding of_four
four_stop a b c d h = simp (h, and-false)

three_stop : (a b c d : ℕ) → goes_on c ≡ false → of_three a b c d ≡ character broken 1
unfolding of_three of_four
three_stop a b c d h = simp (h, and-false)

two_stop : (a b c d : ℕ) → goes_on b ≡ false → of_two a b c d ≡ character broken 1
unfolding of_two of_three of_four
two_stop a b c d h = simp (h, and-false)

next_feed : (a : ℕ) (x y : List ℕ) → next_of ((a ∷ x) ++ line_feed ∷ y) ≡ next_of (a ∷ x)
unfolding next_of of_bytes of_two of_three
next_feed a [] y = ap (cond (ltb a 128) (character a 1)) (two_stop a 10 (get_or y 0 0) (get_or y 1 0) refl ∙ sym (two_stop a 0 0 0 refl))
next_feed a (b ∷ []) y = rw (three_stop a b 10 (get_or y 0 0) refl, three_stop a b 0 0 refl)
next_feed a (b ∷ c ∷ []) y = rw (four_stop a b c 10 refl, four_stop a b c 0 refl)
next_feed a (b ∷ c ∷ d ∷ x) y = refl

abbrev feed : Character
feed = character line_feed 1

feed_first : (y : List ℕ) → characters_of (line_feed ∷ y) ≡ characters_of [] ++ feed ∷ characters_of y
unfolding characters_of characters_from next_of of_bytes
feed_first y = refl

characters_first : (text : List ℕ) → 0 < length text → characters_of text ≡ next_of text ∷ characters_of (drop (next_of text).size text)
characters_first text l =
    let e : 0 + (next_of text).size ≡ (next_of text).size = omega arith in
    characters_more text 0 l ∙ ap (λ (n : ℕ). next_of text ∷ characters_of (drop n text)) e

characters_feed_in : (n : ℕ) (x y : List ℕ) → length x ≤ n → characters_of (x ++ line_feed ∷ y) ≡ characters_of x ++ feed ∷ characters_of y
characters_feed_in zero [] y l = feed_first y
characters_feed_in zero (a ∷ x) y l = absurd (omega arith)
characters_feed_in (suc n) [] y l = feed_first y
characters_feed_in (suc n) (a ∷ x) y l =
    let size = (next_of (a ∷ x)).size in
    let some = next_size (a ∷ x) in
    let within = next_within (a ∷ x) (omega arith) in
    characters_first ((a ∷ x) ++ line_feed ∷ y) (omega arith)
    ∙ (rw (next_feed a x y)
    (ap (λ (cs : List Character). next_of (a ∷ x) ∷ cs)
    (rw (drop-append-le size (a ∷ x) (line_feed ∷ y) within)
    (characters_feed_in n (drop size (a ∷ x)) y (omega (arith, length-drop size (a ∷ x)))))
    ∙ ap (λ (cs : List Character). cs ++ feed ∷ characters_of y) (sym (characters_first (a ∷ x) (omega arith)))))

characters_feed : (x y : List ℕ) → characters_of (x ++ line_feed ∷ y) ≡ characters_of x ++ feed ∷ characters_of y
characters_feed x y = characters_feed_in (length x) x y (omega arith)

feed_glyph : glyph_of line_feed ≡ Feed
unfolding glyph_of is_gap other_glyph
feed_glyph = refl

-- ---- No rule looks past a line feed

letter_same : (cs ds : List Character) → starts_letter (cs ++ feed ∷ ds) ≡ starts_letter (cs ++ feed ∷ [])
unfolding starts_letter
letter_same [] ds = refl
letter_same (c ∷ cs) ds = refl

capital_same : (cs ds : List Character) → starts_capital (cs ++ feed ∷ ds) ≡ starts_capital (cs ++ feed ∷ [])
unfolding starts_capital
capital_same [] ds = refl
capital_same (c ∷ cs) ds = refl

next_same : (cs ds : List Character) → capital_next (cs ++ feed ∷ ds) ≡ capital_next (cs ++ feed ∷ [])
unfolding capital_next
next_same [] ds = rw feed_glyph
next_same (c ∷ cs) ds = rw (capital_same cs ds)

abbrev pick : Bool → Bool → Bool → Bool → Bool
pick letter capital joins more = elim letter [ true ↦ elim capital [ true ↦ more | false ↦ false ] | false ↦ elim joins [ true ↦ more | false ↦ true ] ]

pick_same : (letter capital joins : Bool) {s t m n : Bool} → s ≡ t → m ≡ n → pick letter capital (joins && s) m ≡ pick letter capital (joins && t) n
pick_same letter capital joins {s} {t} {m} {n} e h = ap (λ (s : Bool). pick letter capital (joins && s) m) e ∙ ap (λ (m : Bool). pick letter capital (joins && t) m) h

feed_on : (ds : List Character) → capitals_on (feed ∷ ds) ≡ true
unfolding capitals_on glyph_of is_gap other_glyph
feed_on ds = refl

on_same : (cs ds : List Character) → capitals_on (cs ++ feed ∷ ds) ≡ capitals_on (cs ++ feed ∷ [])
unfolding capitals_on
on_same [] ds = feed_on ds ∙ sym (feed_on [])
on_same (c ∷ cs) ds =
    pick_same (is_letter (glyph_of c.code)) (is_capital (glyph_of c.code)) (is_apostrophe (glyph_of c.code)) (capital_same cs ds) (on_same cs ds)

abbrev blank_by : Glyph → Bool → Bool
blank_by g more =
    elim g [
      | Letter l k a ↦ false
      | Plain s ↦ false
      | Literal s ↦ false
      | Gap ↦ more
      | Nothing ↦ more
      | Feed ↦ true
      | Page ↦ false
      | LongDash ↦ false
      | Dots ↦ false
      | Opens ↦ false
      | Closes ↦ false
      | Unmarked ↦ false
    ]

blank_same : (cs ds : List Character) → is_blank (cs ++ feed ∷ ds) ≡ is_blank (cs ++ feed ∷ [])
unfolding is_blank
blank_same [] ds = rw (feed_glyph, is_blank)
blank_same (c ∷ cs) ds = ap (blank_by (glyph_of c.code)) (blank_same cs ds)

step_same : (s : State) (g : Glyph) (cs ds : List Character) → step_of s g (cs ++ feed ∷ ds) ≡ step_of s g (cs ++ feed ∷ [])
unfolding letter_step sign_step close_step gap_step word_of all_capitals
step_same s (Letter l c a) cs ds = rw (next_same cs ds, on_same cs ds)
step_same s (Plain c) cs ds = rw (capital_same cs ds)
step_same s (Literal c) cs ds = refl
step_same s Gap cs ds = rw (blank_same cs ds)
step_same s Nothing cs ds = refl
step_same s Feed cs ds = refl
step_same s Page cs ds = refl
step_same s LongDash cs ds = refl
step_same s Dots cs ds = refl
step_same s Opens cs ds = refl
step_same s Closes cs ds = rw (letter_same cs ds, capital_same cs ds)
step_same s Unmarked cs ds = refl

-- ---- What is marked up to a line feed, whatever comes after it

data Through (from : List Character → Marking) (reaches : State → Type 0) : Type 0 where
  wrong : (p : ℕ) → ((ds : List Character) → from ds ≡ unmarked p) → Through from reaches
  through : (s : State) (at : ℕ) (sofar : List ℕ) → reaches s → ((ds : List Character) → from ds ≡ mark_from s at sofar ds) → Through from reaches

abbrev LineZero : State → Type 0
LineZero s = s.line ≡ Starts

feed_zero : (s : State) → LineZero (feed_step s).next
unfolding feed_step
feed_zero s = go (is_filled s.line)
  where
    go : (t : Bool) → LineZero (cond t (step (signs (line_feed ∷ [])) (state Starts Outside s.single)) (step (signs (code_sign ∷ paragraph_code ∷ [])) start)).next
    go true = refl
    go false = refl

feed_mark : (s : State) (at : ℕ) (sofar : List ℕ) (ds : List Character)
    → mark_from s at sofar (feed ∷ ds) ≡ mark_from (feed_step s).next (at + 1) (sofar ++ bytes_of (feed_step s).mark) ds
unfolding mark_from glyph_of is_gap other_glyph
feed_mark s at sofar ds = refl

through_feed : (s : State) (at : ℕ) (sofar : List ℕ) (cs : List Character) → Through (λ (ds : List Character). mark_from s at sofar (cs ++ feed ∷ ds)) LineZero
unfolding mark_from
through_feed s at sofar [] =
    through (feed_step s).next (at + 1) (sofar ++ bytes_of (feed_step s).mark) (feed_zero s) (feed_mark s at sofar)
through_feed s at sofar (c ∷ cs) =
    go (is_marked (glyph_of c.code)) refl
    (through_feed (step_of s (glyph_of c.code) (cs ++ feed ∷ [])).next (at + c.size) (sofar ++ bytes_of (step_of s (glyph_of c.code) (cs ++ feed ∷ [])).mark) cs)
  where
    go : (t : Bool) → is_marked (glyph_of c.code) ≡ t
        → Through (λ (ds : List Character). mark_from (step_of s (glyph_of c.code) (cs ++ feed ∷ [])).next (at + c.size) (sofar ++ bytes_of (step_of s (glyph_of c.code) (cs ++ feed ∷ [])).mark) (cs ++ feed ∷ ds)) LineZero
        → Through (λ (ds : List Character). mark_from s at sofar (c ∷ cs ++ feed ∷ ds)) LineZero
    go true m (wrong p h) = wrong p (λ ds. rw (m, mark_from, step_same s (glyph_of c.code) cs ds) (h ds))
    go true m (through t at so z h) = through t at so z (λ ds. rw (m, mark_from, step_same s (glyph_of c.code) cs ds) (h ds))
    go false m later = wrong at (λ ds. rw (m, mark_from))

-- ---- A blank line

abbrev Empties : List Character → Type 0
Empties cs = All (λ (c : Character). is_empty (glyph_of c.code) ≡ true) cs

empties_blank : {gs : List Character} (ds : List Character) → Empties gs → is_blank (gs ++ feed ∷ ds) ≡ true
unfolding is_blank
empties_blank ds empty = rw (feed_glyph, is_blank)
empties_blank ds (◌and◌ {x = c} {xs = gs} e es) = go (glyph_of c.code) e (empties_blank ds es)
  where
    go : (g : Glyph) → is_empty g ≡ true → is_blank (gs ++ feed ∷ ds) ≡ true → blank_by g (is_blank (gs ++ feed ∷ ds)) ≡ true
    go (Letter l c a) e h = absurd (false≢true e)
    go (Plain c) e h = absurd (false≢true e)
    go (Literal c) e h = absurd (false≢true e)
    go Gap e h = h
    go Nothing e h = h
    go Feed e h = refl
    go Page e h = absurd (false≢true e)
    go LongDash e h = absurd (false≢true e)
    go Dots e h = absurd (false≢true e)
    go Opens e h = absurd (false≢true e)
    go Closes e h = absurd (false≢true e)
    go Unmarked e h = absurd (false≢true e)

-- nothing has been marked in the line so far
abbrev LineOpen : State → Type 0
LineOpen s = (s.line ≡ Starts) ⊎ (s.line ≡ Blank)

gap_blank : (s : State) (rest : List Character) → LineOpen s → is_blank rest ≡ true → gap_step s rest ≡ step (signs []) (state Blank Outside s.single)
unfolding gap_step
gap_blank s rest (inl z) b = rw (z, b)
gap_blank s rest (inr z) b = rw z

feed_blank : (s : State) → LineOpen s → feed_step s ≡ step (signs (code_sign ∷ paragraph_code ∷ [])) start
unfolding feed_step
feed_blank s (inl z) = rw z
feed_blank s (inr z) = rw z

-- after it all begins anew
record BlankLine (sofar : List ℕ) (from : List Character → Marking) : Type 0 where
  at : ℕ
  is : (ds : List Character) → from ds ≡ mark_from start at (sofar ++ (code_sign ∷ paragraph_code ∷ [])) ds

through_blank : (s : State) (at : ℕ) (sofar : List ℕ) {gs : List Character} → Empties gs → LineOpen s
    → BlankLine sofar (λ (ds : List Character). mark_from s at sofar (gs ++ feed ∷ ds))
unfolding mark_from bytes_of
through_blank s at sofar empty z = record { at = at + 1; is = λ ds. feed_mark s at sofar ds ∙ rw (feed_blank s z) }
through_blank s at sofar (◌and◌ {x = c} {xs = gs} e es) z =
    go (glyph_of c.code) refl e (through_blank (state Blank Outside s.single) (at + c.size) sofar es (inr refl)) (through_blank (state s.line Outside s.single) (at + c.size) sofar es z)
  where
    go : (g : Glyph) → glyph_of c.code ≡ g → is_empty g ≡ true
        → BlankLine sofar (λ (ds : List Character). mark_from (state Blank Outside s.single) (at + c.size) sofar (gs ++ feed ∷ ds))
        → BlankLine sofar (λ (ds : List Character). mark_from (state s.line Outside s.single) (at + c.size) sofar (gs ++ feed ∷ ds))
        → BlankLine sofar (λ (ds : List Character). mark_from s at sofar (c ∷ gs ++ feed ∷ ds))
    go Gap g e known later = record {
      at = known.at;
      is = λ ds.
          mark_step s at sofar c (gs ++ feed ∷ ds) (rw g)
          ∙ rw (ap (λ (g : Glyph). step_of s g (gs ++ feed ∷ ds)) g ∙ gap_blank s (gs ++ feed ∷ ds) z (empties_blank ds es), append-nil sofar) (known.is ds);
    }
    go Nothing g e known later = record {
      at = later.at;
      is = λ ds.
          mark_step s at sofar c (gs ++ feed ∷ ds) (rw g)
          ∙ rw (ap (λ (g : Glyph). step_of s g (gs ++ feed ∷ ds)) g, append-nil sofar) (later.is ds);
    }
    go (Letter l c a) g e known later = absurd (false≢true e)
    go (Plain c) g e known later = absurd (false≢true e)
    go (Literal c) g e known later = absurd (false≢true e)
    go Feed g e known later = absurd (false≢true e)
    go Page g e known later = absurd (false≢true e)
    go LongDash g e known later = absurd (false≢true e)
    go Dots g e known later = absurd (false≢true e)
    go Opens g e known later = absurd (false≢true e)
    go Closes g e known later = absurd (false≢true e)
    go Unmarked g e known later = absurd (false≢true e)

-- ---- A piece

data Piece (text : List ℕ) : Type 0 where
  wrong : (p : ℕ) → ((more : List ℕ) → marking (text ++ more) ≡ unmarked p) → Piece text
  right : (at : ℕ) (bytes : List ℕ) → ((more : List ℕ) → marking (text ++ more) ≡ mark_from start at bytes (characters_of more)) → Piece text

blank_characters : (gaps more : List ℕ) → characters_of ((gaps ++ (line_feed ∷ [])) ++ more) ≡ characters_of gaps ++ feed ∷ characters_of more
blank_characters gaps more = ap characters_of (append_assoc gaps (line_feed ∷ []) more) ∙ characters_feed gaps more

piece_characters : (lines gaps more : List ℕ)
    → characters_of (((lines ++ (line_feed ∷ [])) ++ (gaps ++ (line_feed ∷ []))) ++ more)
    ≡ characters_of lines ++ feed ∷ (characters_of gaps ++ feed ∷ characters_of more)
piece_characters lines gaps more =
    ap characters_of (append_assoc (lines ++ (line_feed ∷ [])) (gaps ++ (line_feed ∷ [])) more ∙ append_assoc lines (line_feed ∷ []) (gaps ++ (line_feed ∷ []) ++ more))
    ∙ characters_feed lines (gaps ++ (line_feed ∷ []) ++ more)
    ∙ ap (λ (cs : List Character). characters_of lines ++ feed ∷ cs) (blank_characters gaps more)

piece_of : (front gaps : List ℕ) → LineStarts front → Empties (characters_of gaps) → Piece (front ++ (gaps ++ (line_feed ∷ [])))
unfolding marking
piece_of front gaps first es =
    let b = through_blank start 0 [] es (inl refl) in
    right b.at (code_sign ∷ paragraph_code ∷ []) (λ more. rw (blank_characters gaps more) (b.is (characters_of more)))
piece_of front gaps (after lines) es = go (through_feed start 0 [] (characters_of lines))
  where
    go : Through (λ (ds : List Character). mark_from start 0 [] (characters_of lines ++ feed ∷ ds)) LineZero → Piece ((lines ++ (line_feed ∷ [])) ++ (gaps ++ (line_feed ∷ [])))
    go (wrong p h) = wrong p (λ more. rw (piece_characters lines gaps more) (h (characters_of gaps ++ feed ∷ characters_of more)))
    go (through s at sofar z h) =
        let b = through_blank s at sofar es (inl z) in
        right b.at (sofar ++ (code_sign ∷ paragraph_code ∷ []))
        (λ more. rw (piece_characters lines gaps more) (h (characters_of gaps ++ feed ∷ characters_of more) ∙ b.is (characters_of more)))

-- what is marked so far, and where, doesn't matter
marked_more : (s : State) (at there : ℕ) (front sofar : List ℕ) (cs : List Character) (bytes : List ℕ)
    → mark_from s at sofar cs ≡ marked bytes → mark_from s there (front ++ sofar) cs ≡ marked (front ++ bytes)
unfolding mark_from
marked_more s at there front sofar [] bytes e = let h : sofar ≡ bytes = cc in rw h
marked_more s at there front sofar (c ∷ cs) bytes e =
    go (is_marked (glyph_of c.code)) e
    (marked_more (step_of s (glyph_of c.code) cs).next (at + c.size) (there + c.size) front (sofar ++ bytes_of (step_of s (glyph_of c.code) cs).mark) cs bytes)
  where
    next : State
    next = (step_of s (glyph_of c.code) cs).next

    mark : List ℕ
    mark = bytes_of (step_of s (glyph_of c.code) cs).mark

    go : (t : Bool) → elim t [ true ↦ mark_from next (at + c.size) (sofar ++ mark) cs | false ↦ unmarked at ] ≡ marked bytes
        → (mark_from next (at + c.size) (sofar ++ mark) cs ≡ marked bytes → mark_from next (there + c.size) (front ++ (sofar ++ mark)) cs ≡ marked (front ++ bytes))
        → elim t [ true ↦ mark_from next (there + c.size) (front ++ sofar ++ mark) cs | false ↦ unmarked there ] ≡ marked (front ++ bytes)
    go true e later = rw (append_assoc front sofar mark) (later e)
    go false e later = cc

-- ---- In two pieces, and in any number

pub marked_in_parts : (text rest bytes more : List ℕ) → EndsBlank text → marking text ≡ marked bytes → marking rest ≡ marked more
    → marking (text ++ rest) ≡ marked (bytes ++ more)
unfolding marking mark_from characters_of characters_from
marked_in_parts text rest bytes more ends m n = rw ends.is (go (piece_of ends.front ends.gaps ends.starts ends.empties) (rw ends.is at m))
  where
    go : {piece : List ℕ} → Piece piece → marking piece ≡ marked bytes → marking (piece ++ rest) ≡ marked (bytes ++ more)
    go {piece} (wrong p h) m =
        absurd (let e : marking (piece ++ []) ≡ unmarked p = h [] in let f = append-nil piece in cc)
    go {piece} (right at sofar h) m =
        let e : marking (piece ++ []) ≡ marked sofar = h [] in
        let f = append-nil piece in
        let same : sofar ≡ bytes = cc in
        h rest ∙ (rw (append-nil sofar) at (marked_more start 0 at sofar [] (characters_of rest) more n)) ∙ ap (λ (front : List ℕ). marked (front ++ more)) same

pub marked_in_pieces : {text bytes : List ℕ} → Pieces text bytes → marking text ≡ marked bytes
marked_in_pieces (last e) = e
marked_in_pieces (before {text} {rest} {bytes} {more} ends e pieces) = marked_in_parts text rest bytes more ends e (marked_in_pieces pieces)
