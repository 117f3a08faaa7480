-- Nothing is lost: the mark of each character is what it adds and then what the character keeps of itself, and without what is added the letters and digits of
-- the marked text are those of the ink text, folded to capitals. By induction on the characters.
use Prim.Native.Nat.{ℕ, zero, suc, ◌+◌, ◌-◌, ◌≤◌}
use mathlib.Core.Bool.{Bool, true, false, false≢true, cond, not, ◌&&◌, ◌||◌}
use mathlib.Core.List.{List, [], ◌∷◌, ◌++◌, append_assoc, append-nil, Memᴰ}
use mathlib.Core.Logic.{◌⊎◌, inl, inr}
use mathlib.Core.Path.{◌≡◌, refl, sym, ◌∙◌}
use native.Mathlib.Omega.{arith}
use lib.Dec.{leb, eqb}
use lib.ListN.{get_or}
use borrow.Author.Tests.{leb-true, leb-false, le-leb, eqb-false}
use Rattle.table.specs.Refusals.{Between}
use Rattle.table.specs.Search.{within}
use Rattle.table.proofs.Tests.{Tells, tells_or, tells_eq, tells_within, both}
use Rattle.inkprint.specs.Characters.{characters_of}
use Rattle.inkprint.specs.Glyphs.{latin_letters, is_own_sign, literal_of, latin_glyph, is_gap, is_nothing, is_dash, is_long_dash, typographic, ascii_sign, other_glyph, glyph_of, is_marked}
use Rattle.inkprint.specs.Numbers.{code_sign, paragraph_code, quote_code, right_code, line_feed, blank, apostrophe}
use Rattle.inkprint.specs.Marks.{bytes_of, signs, starts_letter, is_blank, state, step, is_filled, stays_blank, word_of, capital_signs, letter_mark, letter_step, sign_step, close_step, gap_step, feed_step, step_of, start, marked, unmarked, mark_from, marking}
use Rattle.inkprint.specs.Kept.{is_letter_or_digit, letters_and_digits, folded_of, folded_from, folded, own_of, may_add, Part, Parts, none, ◌then◌, joined, owned, NothingLost}
use Rattle.inkprint.specs.declared.Character.{Character}
use Rattle.inkprint.specs.declared.Glyph.{Glyph}
use Rattle.inkprint.specs.declared.Glyph.TheVariants.{Letter, Plain, Literal, Gap, Nothing, Feed, Page, LongDash, Dots, Opens, Closes, Unmarked}
use Rattle.inkprint.specs.declared.Line.TheVariants.{Starts, Blank, Filled}
use Rattle.inkprint.specs.declared.State.{State}
use Rattle.inkprint.specs.declared.Step.{Step}
use Rattle.inkprint.specs.declared.Word.{Word}
use Rattle.inkprint.specs.declared.Word.TheVariants.{Outside}

-- ---- What a glyph holds: a letter a capital, a sign a sign

abbrev pub Right : Glyph → Type 0
Right (Letter l c a) = Between 65 90 l
Right (Plain c) = Between 33 126 c × (within 65 90 c ≡ false)
Right (Literal c) = Between 33 126 c
Right Gap = Unit {0}
Right Nothing = Unit {0}
Right Feed = Unit {0}
Right Page = Unit {0}
Right LongDash = Unit {0}
Right Dots = Unit {0}
Right Opens = Unit {0}
Right Closes = Unit {0}
Right Unmarked = Unit {0}

record Fine (g : Glyph) : Type 0 where
  is : Right g

if_fine : (t : Bool) {x y : Glyph} → (t ≡ true → Fine x) → (t ≡ false → Fine y) → Fine (cond t x y)
if_fine true f g = f refl
if_fine false f g = g refl

-- a letter of the table of accented ones
is_latin : ℕ → Bool
is_latin l = eqb l 0 || (within 65 90 l || within 97 122 l)

latin_tells : (l : ℕ) → Tells (is_latin l) ((l ≡ 0) ⊎ (Between 65 90 l ⊎ Between 97 122 l))
unfolding is_latin
latin_tells l = tells_or (tells_eq l 0) (tells_or (tells_within 65 90 l) (tells_within 97 122 l))

are_latin : List ℕ → Bool
are_latin [] = true
are_latin (l ∷ ls) = is_latin l && are_latin ls

latin_at : (ls : List ℕ) (i : ℕ) → are_latin ls ≡ true → is_latin (get_or ls i 0) ≡ true
unfolding is_latin are_latin
latin_at [] i e = refl
latin_at (l ∷ ls) zero e = (both (is_latin l) (are_latin ls) e).0
latin_at (l ∷ ls) (suc i) e = latin_at ls i (both (is_latin l) (are_latin ls) e).1

all_latin : are_latin latin_letters ≡ true
unfolding is_latin are_latin
all_latin = refl

latin_right : (l : ℕ) → is_latin l ≡ true → Fine (latin_glyph l)
unfolding latin_glyph
latin_right l e =
    if_fine (eqb l 0) (λ _. record { is = tt }) (λ n.
    if_fine (leb l 90)
    (λ low. record { is = go (eqb-false l 0 n) (leb-true l 90 low) ((latin_tells l).0 e) })
    (λ high. record { is = more (leb-false l 90 high) ((latin_tells l).0 e) }))
  where
    go : (l ≡ 0 → ⊥) → l ≤ 90 → (l ≡ 0) ⊎ (Between 65 90 l ⊎ Between 97 122 l) → Between 65 90 l
    go n low (inl z) = absurd (n z)
    go n low (inr (inl b)) = b
    go n low (inr (inr b)) = absurd (omega arith)

    more : 91 ≤ l → (l ≡ 0) ⊎ (Between 65 90 l ⊎ Between 97 122 l) → Between 65 90 (l - 32)
    more high (inl z) = absurd (omega arith)
    more high (inr (inl b)) = absurd (omega arith)
    more high (inr (inr b)) = omega arith

literal_between : (c : ℕ) → Between 33 126 c → Between 33 126 (literal_of c)
unfolding literal_of
literal_between c b = go (eqb c 124)
  where
    go : (t : Bool) → Between 33 126 (cond t 73 c)
    go true = omega arith
    go false = b

ascii_right : (c : ℕ) → Between 33 126 c → within 65 90 c ≡ false → Fine (ascii_sign c)
unfolding ascii_sign
ascii_right c b n =
    if_fine (is_own_sign c) (λ _. record { is = literal_between c b })
    (λ _. if_fine (eqb c 91) (λ _. record { is = (omega arith, refl) }) (λ _. if_fine (eqb c 93) (λ _. record { is = (omega arith, refl) }) (λ _. record { is = (b, n) })))

typographic_right : (c : ℕ) → Fine (typographic c)
unfolding typographic
typographic_right c =
    if_fine (is_dash c) (λ _. record { is = (omega arith, refl) })
    (λ _. if_fine (is_long_dash c) (λ _. record { is = tt })
    (λ _. if_fine (eqb c 8230) (λ _. record { is = tt })
    (λ _. if_fine (eqb c 8220 || eqb c 8221) (λ _. record { is = (omega arith, refl) })
    (λ _. if_fine (eqb c 8216) (λ _. record { is = tt }) (λ _. if_fine (eqb c 8217) (λ _. record { is = tt }) (λ _. record { is = tt }))))))

other_right : (c : ℕ) → Fine (other_glyph c)
unfolding other_glyph
other_right c =
    if_fine (eqb c 10) (λ _. record { is = tt })
    (λ _. if_fine (eqb c 12) (λ _. record { is = tt })
    (λ _. if_fine (is_nothing c) (λ _. record { is = tt })
    (λ _. if_fine (within 192 383 c) (λ _. latin_right (get_or latin_letters (c - 192) 0) (latin_at latin_letters (c - 192) all_latin)) (λ _. typographic_right c))))

glyph_fine : (c : ℕ) → Fine (glyph_of c)
unfolding glyph_of
glyph_fine c =
    if_fine (within 97 122 c) (λ e. let b = (tells_within 97 122 c).0 e in record { is = omega arith })
    (λ _. if_fine (within 65 90 c) (λ e. record { is = (tells_within 65 90 c).0 e })
    (λ n. if_fine (is_gap c) (λ _. record { is = tt })
    (λ _. if_fine (within 33 126 c) (λ e. ascii_right c ((tells_within 33 126 c).0 e) n) (λ _. other_right c))))

pub glyph_right : (c : ℕ) → Right (glyph_of c)
glyph_right c = (glyph_fine c).is

-- ---- The mark of a character is a part

pub record MarkOf (g : Glyph) (bytes : List ℕ) : Type 0 where
  pub added : List ℕ
  pub adds : Memᴰ added (may_add g)
  pub is : bytes ≡ added ++ own_of g

if_mark : {g : Glyph} (t : Bool) (x y : Step) → MarkOf g (bytes_of x.mark) → MarkOf g (bytes_of y.mark) → MarkOf g (bytes_of (cond t x y).mark)
if_mark true x y p q = p
if_mark false x y p q = q

first_added : {g : Glyph} {bytes added : List ℕ} {more : List (List ℕ)} → may_add g ≡ added ∷ more → bytes ≡ added ++ own_of g → MarkOf g bytes
first_added {added = added} may is = record { added = added; adds = rw may (Memᴰ.head refl); is = is }

second_added : {g : Glyph} {bytes one added : List ℕ} {more : List (List ℕ)} → may_add g ≡ one ∷ added ∷ more → bytes ≡ added ++ own_of g → MarkOf g bytes
second_added {added = added} may is = record { added = added; adds = rw may (Memᴰ.tail (Memᴰ.head refl)); is = is }

third_added : {g : Glyph} {bytes one two added : List ℕ} {more : List (List ℕ)} → may_add g ≡ one ∷ two ∷ added ∷ more → bytes ≡ added ++ own_of g → MarkOf g bytes
third_added {added = added} may is = record { added = added; adds = rw may (Memᴰ.tail (Memᴰ.tail (Memᴰ.head refl))); is = is }

letter_part : (l : ℕ) (c a : Bool) (capitals : ℕ) → (c ≡ false → capitals ≡ 0) → MarkOf (Letter l c a) (bytes_of (letter_mark capitals a l))
unfolding letter_mark bytes_of
letter_part l false false capitals h = rw (h refl) (first_added refl refl)
letter_part l false true capitals h = rw (h refl) (first_added refl refl)
letter_part l true false capitals h = go (eqb capitals 0) (eqb capitals 1)
  where
    go : (none one : Bool) → MarkOf (Letter l true false) (bytes_of (cond none (signs (l ∷ [])) (cond one (signs (61 ∷ l ∷ [])) (signs (61 ∷ 61 ∷ l ∷ [])))))
    go true one = first_added refl refl
    go false true = second_added refl refl
    go false false = third_added refl refl
letter_part l true true capitals h = go (eqb capitals 0) (eqb capitals 1)
  where
    go : (none one : Bool) → MarkOf (Letter l true true) (bytes_of (cond none (signs (37 ∷ l ∷ [])) (cond one (signs (61 ∷ 37 ∷ l ∷ [])) (signs (61 ∷ 61 ∷ 37 ∷ l ∷ [])))))
    go true one = first_added refl refl
    go false true = second_added refl refl
    go false false = third_added refl refl

no_signs : (s : State) (c : Bool) (word : Word) → c ≡ false → capital_signs s c word ≡ 0
unfolding capital_signs
no_signs s c word e = rw e

pub step_part : (s : State) (g : Glyph) (rest : List Character) → is_marked g ≡ true → MarkOf g (bytes_of (step_of s g rest).mark)
unfolding bytes_of letter_step sign_step close_step gap_step feed_step
step_part s (Letter l c a) rest e = letter_part l c a (capital_signs s c (word_of s c rest)) (no_signs s c (word_of s c rest))
step_part s (Plain c) rest e = first_added refl refl
step_part s (Literal c) rest e = first_added refl refl
step_part s Gap rest e =
    if_mark (stays_blank s.line (is_blank rest)) (step (signs []) (state Blank Outside s.single)) (step (signs (blank ∷ [])) (state Filled Outside s.single)) (first_added refl refl) (second_added refl refl)
step_part s Nothing rest e = first_added refl refl
step_part s Feed rest e =
    if_mark (is_filled s.line) (step (signs (line_feed ∷ [])) (state Starts Outside s.single)) (step (signs (code_sign ∷ paragraph_code ∷ [])) start) (first_added refl refl) (second_added refl refl)
step_part s Page rest e = first_added refl refl
step_part s LongDash rest e = first_added refl refl
step_part s Dots rest e = first_added refl refl
step_part s Opens rest e = first_added refl refl
step_part s Closes rest e =
    if_mark (s.single && not (starts_letter rest)) (step (signs (code_sign ∷ quote_code ∷ right_code ∷ [])) (state Filled Outside false)) (sign_step s apostrophe rest) (second_added refl refl) (first_added refl refl)
step_part s Unmarked rest e = absurd (false≢true e)

-- ---- The marked text is made of the parts

pub mark_step : (s : State) (at : ℕ) (sofar : List ℕ) (c : Character) (cs : List Character) → is_marked (glyph_of c.code) ≡ true
    → mark_from s at sofar (c ∷ cs)
    ≡ mark_from (step_of s (glyph_of c.code) cs).next (at + c.size) (sofar ++ bytes_of (step_of s (glyph_of c.code) cs).mark) cs
unfolding mark_from
mark_step s at sofar c cs e = rw (e, mark_from)

pub record PartsOf (cs : List Character) (sofar bytes : List ℕ) : Type 0 where
  pub parts : List Part
  pub each : Parts cs parts
  pub joins : sofar ++ joined parts ≡ bytes

pub marked_parts : (s : State) (at : ℕ) (sofar : List ℕ) (cs : List Character) (bytes : List ℕ) → mark_from s at sofar cs ≡ marked bytes → PartsOf cs sofar bytes
unfolding mark_from joined
marked_parts s at sofar [] bytes e = record { parts = []; each = none; joins = rw append-nil (cc) }
marked_parts s at sofar (c ∷ cs) bytes e =
    go (is_marked (glyph_of c.code)) refl e
    (marked_parts (step_of s (glyph_of c.code) cs).next (at + c.size) (sofar ++ bytes_of (step_of s (glyph_of c.code) cs).mark) cs bytes)
  where
    go : (t : Bool) → is_marked (glyph_of c.code) ≡ t
        → elim t [ true ↦ mark_from (step_of s (glyph_of c.code) cs).next (at + c.size) (sofar ++ bytes_of (step_of s (glyph_of c.code) cs).mark) cs | false ↦ unmarked at ] ≡ marked bytes
        → (mark_from (step_of s (glyph_of c.code) cs).next (at + c.size) (sofar ++ bytes_of (step_of s (glyph_of c.code) cs).mark) cs ≡ marked bytes
        → PartsOf cs (sofar ++ bytes_of (step_of s (glyph_of c.code) cs).mark) bytes)
        → PartsOf (c ∷ cs) sofar bytes
    go true m e later =
        let part = step_part s (glyph_of c.code) cs m in
        let rest = later e in
        record {
          parts = record { added = part.added; own = own_of (glyph_of c.code) } ∷ rest.parts;
          each = record { adds = part.adds; keeps = refl } then rest.each;
          joins = sym (append_assoc sofar (part.added ++ own_of (glyph_of c.code)) (joined rest.parts)) ∙ (rw part.is at rest.joins);
        }
    go false m e later = cc

-- ---- The letters and digits that are kept

own_kept : (g : Glyph) (rest : List ℕ) → Right g → letters_and_digits (own_of g ++ rest) ≡ folded_of g ++ letters_and_digits rest
unfolding letters_and_digits is_letter_or_digit
own_kept (Letter l c a) rest right = rw (le-leb 65 l right.low, le-leb l 90 right.high, letters_and_digits)
own_kept (Plain c) rest right = go (within 48 57 c) refl
  where
    go : (t : Bool) → within 48 57 c ≡ t → letters_and_digits (c ∷ rest) ≡ cond t (c ∷ []) [] ++ letters_and_digits rest
    go true e = rw (right.1, e, letters_and_digits)
    go false e = rw (right.1, e, letters_and_digits)
own_kept (Literal c) rest right = refl
own_kept Gap rest right = refl
own_kept Nothing rest right = refl
own_kept Feed rest right = refl
own_kept Page rest right = refl
own_kept LongDash rest right = refl
own_kept Dots rest right = refl
own_kept Opens rest right = refl
own_kept Closes rest right = refl
own_kept Unmarked rest right = refl

pub parts_kept : {cs : List Character} {ps : List Part} → Parts cs ps → letters_and_digits (owned ps) ≡ folded_from cs
unfolding owned folded_from letters_and_digits
parts_kept none = refl
parts_kept (◌then◌ {c} {cs} {p} {ps} part rest) =
    rw (part.keeps, own_kept (glyph_of c.code) (owned ps) (glyph_right c.code), parts_kept rest)

-- ---- Nothing is lost

pub nothing_lost : (text bytes : List ℕ) → marking text ≡ marked bytes → NothingLost text bytes
unfolding marking folded
nothing_lost text bytes e =
    let p = marked_parts start 0 [] (characters_of text) bytes e in
    record { parts = p.parts; each = p.each; joins = p.joins; keeps = parts_kept p.each }
