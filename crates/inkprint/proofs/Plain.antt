-- Two things that are plain to see in a marked text: each byte of it is a symbol or a line feed, and a text of capitals and digits alone is marked, and stays as it
-- was but for the signs of its capitals. Both by induction on the characters.
use Prim.Native.Nat.{ℕ, ◌+◌, ◌<◌}
use mathlib.Core.Bool.{Bool, true, false}
use mathlib.Core.List.{List, [], ◌∷◌, ◌++◌, append_assoc, append-nil, Memᴰ}
use mathlib.Core.Logic.{◌⊎◌, inl, inr}
use mathlib.Core.Path.{◌≡◌, refl, sym, ◌∙◌, ap}
use native.Mathlib.Omega.{arith}
use lib.Dec.{eqb}
use lib.ListN.{length, drop}
use borrow.Author.Tests.{le-leb, lt-leb, lt-ltb, ne_eqb}
use Rattle.table.specs.Lists.{All, empty, ◌and◌}
use Rattle.table.specs.Refusals.{Between}
use Rattle.table.proofs.Lists.{all_append}
use Rattle.table.proofs.Tests.{tells_or, tells_within}
use Rattle.inkprint.specs.Numbers.{capital_sign}
use Rattle.inkprint.specs.Characters.{character, of_bytes, next_of, characters_from, characters_of}
use Rattle.inkprint.specs.Glyphs.{is_own_sign, is_gap, ascii_sign, glyph_of, is_marked}
use Rattle.inkprint.specs.Marks.{bytes_of, sign_step, step_of, start, marked, mark_from, marking}
use Rattle.inkprint.specs.Kept.{is_letter_or_digit, own_of, may_add, Part, Parts, none, ◌then◌, joined, without_signs, StaysPlain, is_symbol}
use Rattle.inkprint.specs.declared.Character.{Character}
use Rattle.inkprint.specs.declared.Glyph.{Glyph}
use Rattle.inkprint.specs.declared.Glyph.TheVariants.{Letter, Plain, Literal, Gap, Nothing, Feed, Page, LongDash, Dots, Opens, Closes, Unmarked}
use Rattle.inkprint.specs.declared.State.{State}
use Rattle.inkprint.proofs.Kept.{Right, glyph_right, step_part, mark_step, marked_parts}

-- what all members of a list have, each has
all_member : {A : Type 0} {holds : A → Type 0} {xs : List A} {x : A} → All holds xs → Memᴰ x xs → holds x
all_member {A = A} {holds = holds} empty m = elim m [ ]
all_member (h and hs) (Memᴰ.head e) = rw e h
all_member (h and hs) (Memᴰ.tail m) = all_member hs m

-- ---- Each byte is a symbol or a line feed

abbrev Symbols : List ℕ → Type 0
Symbols bytes = All (λ (b : ℕ). is_symbol b ≡ true) bytes

sign_symbol : (b : ℕ) → Between 33 126 b → is_symbol b ≡ true
unfolding is_symbol
sign_symbol b h = rw (le-leb 32 b (omega arith), le-leb b 126 h.high)

before_symbols : (l : ℕ) (c a : Bool) → All Symbols (may_add (Letter l c a))
unfolding is_symbol
before_symbols l false false = empty and empty
before_symbols l false true = (refl and empty) and empty
before_symbols l true false = empty and (refl and empty) and (refl and refl and empty) and empty
before_symbols l true true = (refl and empty) and (refl and refl and empty) and (refl and refl and refl and empty) and empty

added_symbols : (g : Glyph) → Right g → All Symbols (may_add g)
unfolding is_symbol
added_symbols (Letter l c a) right = before_symbols l c a
added_symbols (Plain c) right = empty and empty
added_symbols (Literal c) right = (refl and refl and sign_symbol c right and empty) and empty
added_symbols Gap right = empty and (refl and empty) and empty
added_symbols Nothing right = empty and empty
added_symbols Feed right = (refl and empty) and (refl and refl and empty) and empty
added_symbols Page right = (refl and refl and empty) and empty
added_symbols LongDash right = (refl and refl and empty) and empty
added_symbols Dots right = (refl and refl and refl and empty) and empty
added_symbols Opens right = (refl and refl and empty) and empty
added_symbols Closes right = (refl and empty) and (refl and refl and refl and empty) and empty
added_symbols Unmarked right = empty

own_symbols : (g : Glyph) → Right g → Symbols (own_of g)
own_symbols (Letter l c a) right = sign_symbol l (record { low = omega arith; high = omega arith }) and empty
own_symbols (Plain c) right = sign_symbol c right.0 and empty
own_symbols (Literal c) right = empty
own_symbols Gap right = empty
own_symbols Nothing right = empty
own_symbols Feed right = empty
own_symbols Page right = empty
own_symbols LongDash right = empty
own_symbols Dots right = empty
own_symbols Opens right = empty
own_symbols Closes right = empty
own_symbols Unmarked right = empty

parts_symbols : {cs : List Character} {ps : List Part} → Parts cs ps → Symbols (joined ps)
unfolding joined
parts_symbols none = empty
parts_symbols (◌then◌ {c} {cs} {p} {ps} part rest) =
    let right = glyph_right c.code in
    all_append (all_append (all_member (added_symbols (glyph_of c.code) right) part.adds) (rw part.keeps (own_symbols (glyph_of c.code) right))) (parts_symbols rest)

pub marked_symbols : (text bytes : List ℕ) → marking text ≡ marked bytes → All (λ (b : ℕ). is_symbol b ≡ true) bytes
unfolding marking
marked_symbols text bytes e =
    let p = marked_parts start 0 [] (characters_of text) bytes e in
    rw p.joins at (parts_symbols p.each)

-- ---- A text of capitals and digits alone

without_append : (a b : List ℕ) → without_signs (a ++ b) ≡ without_signs a ++ without_signs b
unfolding without_signs
without_append [] b = refl
without_append (x ∷ a) b = go (eqb x capital_sign) (without_append a b)
  where
    go : (t : Bool) → without_signs (a ++ b) ≡ without_signs a ++ without_signs b
        → elim t [ true ↦ without_signs (a ++ b) | false ↦ x ∷ without_signs (a ++ b) ] ≡ elim t [ true ↦ without_signs a | false ↦ x ∷ without_signs a ] ++ without_signs b
    go true h = h
    go false h = ap (λ (l : List ℕ). x ∷ l) h

without_one : (b : ℕ) → b < 61 ⊎ 61 < b → without_signs (b ∷ []) ≡ b ∷ []
unfolding without_signs
without_one b (inl l) = rw (ne_eqb b 61 (λ e. omega arith), without_signs)
without_one b (inr l) = rw (ne_eqb b 61 (λ e. omega arith), without_signs)

capital_glyph : (b : ℕ) → Between 65 90 b → glyph_of b ≡ Letter b true false
unfolding glyph_of
capital_glyph b h = rw (lt-leb 97 b (omega arith), le-leb 65 b (omega arith), le-leb b 90 (omega arith))

digit_glyph : (b : ℕ) → Between 48 57 b → glyph_of b ≡ Plain b
unfolding glyph_of is_gap ascii_sign is_own_sign
digit_glyph b h =
    rw (
      lt-leb 97 b (omega arith),
      lt-leb 65 b (omega arith),
      ne_eqb b 32 (λ e. omega arith),
      ne_eqb b 9 (λ e. omega arith),
      ne_eqb b 160 (λ e. omega arith),
      lt-leb 8192 b (omega arith),
      ne_eqb b 8239 (λ e. omega arith),
      le-leb 33 b (omega arith),
      le-leb b 126 (omega arith),
      ne_eqb b 36 (λ e. omega arith),
      ne_eqb b 37 (λ e. omega arith),
      ne_eqb b 43 (λ e. omega arith),
      ne_eqb b 60 (λ e. omega arith),
      ne_eqb b 61 (λ e. omega arith),
      ne_eqb b 62 (λ e. omega arith),
      ne_eqb b 95 (λ e. omega arith),
      ne_eqb b 124 (λ e. omega arith),
      ne_eqb b 91 (λ e. omega arith),
      ne_eqb b 93 (λ e. omega arith),
    )

-- its mark, without the signs, is itself
record PlainMark (s : State) (b : ℕ) (rest : List Character) : Type 0 where
  low : b < 128
  has : is_marked (glyph_of b) ≡ true
  same : without_signs (bytes_of (step_of s (glyph_of b) rest).mark) ≡ b ∷ []

added_signs : (b : ℕ) {a : List ℕ} → without_signs (b ∷ []) ≡ b ∷ [] → Memᴰ a (may_add (Letter b true false)) → without_signs (a ++ (b ∷ [])) ≡ b ∷ []
unfolding without_signs
added_signs b one m = all_member {holds = λ (a : List ℕ). without_signs (a ++ (b ∷ [])) ≡ b ∷ []} (one and one and one and empty) m

plain_mark : (s : State) (b : ℕ) (rest : List Character) → Between 65 90 b ⊎ Between 48 57 b → PlainMark s b rest
unfolding sign_step bytes_of
plain_mark s b rest (inl h) =
    let part = step_part s (Letter b true false) rest refl in
    let one = without_one b (inr (omega arith)) in
    record {
      low = omega arith;
      has = rw (capital_glyph b h);
      same = rw (capital_glyph b h, part.is) (added_signs b one part.adds);
    }
plain_mark s b rest (inr h) = record { low = omega arith; has = rw (digit_glyph b h); same = rw (digit_glyph b h) (without_one b (inl (omega arith))) }

ascii_next : (b : ℕ) (bs : List ℕ) → b < 128 → next_of (b ∷ bs) ≡ character b 1
unfolding next_of of_bytes
ascii_next b bs l = rw (lt-ltb b 128 l)

ascii_first : (b : ℕ) (bs : List ℕ) → b < 128 → characters_from (length (b ∷ bs)) (b ∷ bs) ≡ character b 1 ∷ characters_from (length bs) bs
unfolding characters_from
ascii_first b bs l = ap (λ (c : Character). c ∷ characters_from (length bs) (drop c.size (b ∷ bs))) (ascii_next b bs l)

record PlainFrom (s : State) (at : ℕ) (sofar text : List ℕ) : Type 0 where
  bytes : List ℕ
  marks : mark_from s at sofar (characters_from (length text) text) ≡ marked bytes
  same : without_signs bytes ≡ without_signs sofar ++ text

plain_from : (s : State) (at : ℕ) (sofar : List ℕ) {text : List ℕ} → All (λ (b : ℕ). is_letter_or_digit b ≡ true) text → PlainFrom s at sofar text
unfolding mark_from characters_from is_letter_or_digit
plain_from s at sofar empty = record { bytes = sofar; marks = refl; same = sym (append-nil (without_signs sofar)) }
plain_from s at sofar (◌and◌ {x = b} {xs = bs} h hs) =
    let cs = characters_from (length bs) bs in
    let p = plain_mark s b cs ((tells_or (tells_within 65 90 b) (tells_within 48 57 b)).0 h) in
    let mark = bytes_of (step_of s (glyph_of b) cs).mark in
    let rest = plain_from (step_of s (glyph_of b) cs).next (at + 1) (sofar ++ mark) hs in
    record {
      bytes = rest.bytes;
      marks = ap (mark_from s at sofar) (ascii_first b bs p.low) ∙ mark_step s at sofar (character b 1) cs p.has ∙ rest.marks;
      same = rest.same ∙ rw (without_append sofar mark, p.same) (append_assoc (without_signs sofar) (b ∷ []) bs);
    }

pub plain_text : (text : List ℕ) → All (λ (b : ℕ). is_letter_or_digit b ≡ true) text → StaysPlain text
unfolding marking characters_of without_signs
plain_text text h =
    let p = plain_from start 0 [] h in
    record { bytes = p.bytes; marks = p.marks; same = p.same }
