-- One character more of a text: its line and its column go by whether the character is a line feed. For the two functions that count them.
use Prim.Native.Nat.{ℕ, suc, ◌+◌, ◌≤◌, ◌<◌, min}
use mathlib.Core.Bool.{Bool, true, false}
use mathlib.Core.List.{List, [], ◌∷◌, ◌++◌}
use mathlib.Core.Logic.{◌⊎◌, inl, inr}
use mathlib.Core.Path.{◌≡◌, refl, sym, ◌∙◌, ap}
use Rattle.std.proofs.str.Laws.{order}
use native.Mathlib.Numerals.{add-one}
use native.Mathlib.Omega.{arith}
use lib.Dec.{eqb}
use lib.ListN.{length, get_or, take}
use lib.Seq.{take-suc, take_all, take-length}
use borrow.Author.Tests.{eq-eqb, ne_eqb}
use Rattle.table.specs.Search.{count}
use Rattle.form.specs.Numbers.{line_feed}
use Rattle.form.specs.Reading.{line_at, since_feed}

count_append : (c : ℕ) (xs ys : List ℕ) → count c (xs ++ ys) ≡ count c xs + count c ys
unfolding count
count_append c [] ys = omega arith
count_append c (x ∷ xs) ys = go (eqb x c) (count_append c xs ys)
  where
    go : (t : Bool) → count c (xs ++ ys) ≡ count c xs + count c ys
        → elim t [ true ↦ suc (count c (xs ++ ys)) | false ↦ count c (xs ++ ys) ] ≡ elim t [ true ↦ suc (count c xs) | false ↦ count c xs ] + count c ys
    go true e = omega arith
    go false e = e

count_one : (c x : ℕ) {t : Bool} → eqb x c ≡ t → count c (x ∷ []) ≡ elim t [ true ↦ 1 | false ↦ 0 ]
unfolding count
count_one c x e = ap (λ (t : Bool). elim t [ true ↦ suc (count c []) | false ↦ count c [] ]) e

since_append : (n : ℕ) (xs ys : List ℕ) → since_feed n (xs ++ ys) ≡ since_feed (since_feed n xs) ys
unfolding since_feed
since_append n [] ys = refl
since_append n (x ∷ xs) ys = go (eqb x line_feed) (since_append 0 xs ys) (since_append (suc n) xs ys)
  where
    go : (t : Bool) → since_feed 0 (xs ++ ys) ≡ since_feed (since_feed 0 xs) ys → since_feed (suc n) (xs ++ ys) ≡ since_feed (since_feed (suc n) xs) ys
        → elim t [ true ↦ since_feed 0 (xs ++ ys) | false ↦ since_feed (suc n) (xs ++ ys) ]
        ≡ since_feed (elim t [ true ↦ since_feed 0 xs | false ↦ since_feed (suc n) xs ]) ys
    go true e f = e
    go false e f = f

since_one : (n x : ℕ) {t : Bool} → eqb x line_feed ≡ t → since_feed n (x ∷ []) ≡ elim t [ true ↦ 0 | false ↦ suc n ]
unfolding since_feed
since_one n x e = ap (λ (t : Bool). elim t [ true ↦ since_feed 0 [] | false ↦ since_feed (suc n) [] ]) e

-- the characters up to a place, or up to the text's end where it is past that
pub front : (text : List ℕ) (at end : ℕ) → end ≡ min at (length text) → take end text ≡ take at text
front text at end e = go (order at (length text))
  where
    go : (at < length text) ⊎ (length text ≤ at) → take end text ≡ take at text
    go (inl lt) = let same : end ≡ at = omega arith in ap (λ (k : ℕ). take k text) same
    go (inr le) = let same : end ≡ length text = omega arith in ap (λ (k : ℕ). take k text) same ∙ take-length text ∙ sym (take_all at text le)

pub line_first : (text : List ℕ) → line_at text 0 ≡ 1
unfolding line_at count
line_first text = refl

module _ (text : List ℕ) (i : ℕ) (inside : i < length text) where
  abbrev c : ℕ
  c = get_or text i 0

  one_more : take (i + 1) text ≡ take i text ++ get_or text i 0 ∷ []
  one_more = rw (add-one i) (take-suc text i 0 inside)

  pub line_feed_lem : get_or text i 0 ≡ line_feed → line_at text (i + 1) ≡ line_at text i + 1
  unfolding line_at
  line_feed_lem e =
      let last : count line_feed (c ∷ []) ≡ 1 = count_one line_feed c (eq-eqb c line_feed e) in
      rw one_more (omega (arith, count_append line_feed (take i text) (c ∷ [])))

  pub line_other : (get_or text i 0 ≡ line_feed → ⊥) → line_at text (i + 1) ≡ line_at text i
  unfolding line_at
  line_other d =
      let last : count line_feed (c ∷ []) ≡ 0 = count_one line_feed c (ne_eqb c line_feed d) in
      rw one_more (omega (arith, count_append line_feed (take i text) (c ∷ [])))

  pub since_feed_lem : get_or text i 0 ≡ line_feed → since_feed 0 (take (i + 1) text) ≡ 0
  since_feed_lem e = rw one_more (since_append 0 (take i text) (c ∷ []) ∙ since_one (since_feed 0 (take i text)) c (eq-eqb c line_feed e))

  pub since_other : (get_or text i 0 ≡ line_feed → ⊥) → since_feed 0 (take (i + 1) text) ≡ since_feed 0 (take i text) + 1
  since_other d =
      rw one_more
      (since_append 0 (take i text) (c ∷ []) ∙ since_one (since_feed 0 (take i text)) c (ne_eqb c line_feed d) ∙ sym (add-one (since_feed 0 (take i text))))
