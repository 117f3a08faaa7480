-- The parts of a word are what the request's words say, and only they are; how many cells each has, and that the parts of a word without their hyphens are
-- the word.
use Prim.Native.Nat.{ℕ, zero, suc, ◌-◌, ◌≤◌, ◌<◌}
use mathlib.Core.List.{List, [], ◌∷◌, ◌++◌, append-nil, flatten}
use mathlib.Core.Path.{◌≡◌, refl, sym, ◌∙◌, ap, subst}
use native.Mathlib.Decide.{dec_le}
use native.Mathlib.Omega.{arith}
use lib.ListN.{length, take, drop, length-append, length-drop, take-append-drop}
use lib.Seq.{length-take-le, take-append-le, drop-append-le, take_at, drop_at}
use borrow.Author.Tests.{le-leb, lt-leb}
use Rattle.pages.specs.Numbers.{hyphen}
use Rattle.pages.specs.Words.{part_of, cut_within, parts}
use Rattle.pages.specs.Parts.{Cuts, cut_off, whole, Sized, full, last, bare}

module _ (W : ℕ) (wide : 2 ≤ W) where
  -- ---- Cutting

  cut_short : (n : ℕ) (cells : List ℕ) → length cells ≤ W → cut_within (suc n) W cells ≡ cells ∷ []
  unfolding cut_within
  cut_short n cells h = rw (le-leb (length cells) W h, cut_within)

  cut_long : (n : ℕ) (cells : List ℕ) → W < length cells → cut_within (suc n) W cells ≡ part_of W cells ∷ cut_within n W (drop (W - 1) cells)
  unfolding cut_within
  cut_long n cells h = rw (lt-leb (length cells) W h, cut_within)

  -- as many cuts as there are cells are enough, and more change nothing
  cut_enough : (n m : ℕ) (cells : List ℕ) → length cells ≤ n → length cells ≤ m → cut_within n W cells ≡ cut_within m W cells
  cut_enough zero zero cells h k = refl
  cut_enough zero (suc m) cells h k = unfold cut_within in sym (cut_short m cells (omega arith))
  cut_enough (suc n) zero cells h k = unfold cut_within in cut_short n cells (omega arith)
  cut_enough (suc n) (suc m) cells h k = go (dec_le (length cells) W) (cut_enough n m (drop (W - 1) cells))
    where
      go : Dec (length cells ≤ W)
          → (length (drop (W - 1) cells) ≤ n → length (drop (W - 1) cells) ≤ m
          → cut_within n W (drop (W - 1) cells) ≡ cut_within m W (drop (W - 1) cells))
          → cut_within (suc n) W cells ≡ cut_within (suc m) W cells
      go (yes short) less = cut_short n cells short ∙ sym (cut_short m cells short)
      go (no d) less =
          let e = length-drop (W - 1) cells in
          let long : W < length cells = omega arith in
          cut_long n cells long ∙ ap (λ (r : List (List ℕ)). part_of W cells ∷ r) (less (omega arith) (omega arith)) ∙ sym (cut_long m cells long)

  -- a word of at most W cells is one part
  pub one_part : (cells : List ℕ) → length cells ≤ W → parts W cells ≡ cells ∷ []
  unfolding parts
  one_part cells h = cut_enough (length cells) (suc (length cells)) cells (omega arith) (omega arith) ∙ cut_short (length cells) cells h

  -- a wider one is its first part, and the parts of the others
  pub first_part : (cells : List ℕ) → W < length cells → parts W cells ≡ part_of W cells ∷ parts W (drop (W - 1) cells)
  unfolding parts
  first_part cells h =
      let n : ℕ = length cells in
      let e = length-drop (W - 1) cells in
      cut_enough n (suc n) cells (omega arith) (omega arith)
      ∙ cut_long n cells h
      ∙ ap (λ (r : List (List ℕ)). part_of W cells ∷ r)
      (cut_enough n (length (drop (W - 1) cells)) (drop (W - 1) cells) (omega arith) (omega arith))

  -- the first part of W cells is that of W cells and some more
  pub full_part : (cells more : List ℕ) → length cells ≡ W → 1 ≤ length more
      → parts W (cells ++ more) ≡ part_of W cells ∷ parts W (drop (W - 1) cells ++ more)
  full_part cells more e h =
      let l = length-append cells more in
      let t : take (W - 1) (cells ++ more) ≡ take (W - 1) cells = take-append-le (W - 1) cells more (omega arith) in
      let d : drop (W - 1) (cells ++ more) ≡ drop (W - 1) cells ++ more = drop-append-le (W - 1) cells more (omega arith) in
      rw (first_part (cells ++ more) (omega arith), t, d)

  -- ---- The parts are so

  cut_so : (n : ℕ) (cells : List ℕ) → 1 ≤ length cells → length cells ≤ n → Cuts W cells (cut_within n W cells)
  cut_so zero cells least enough = absurd (omega arith)
  cut_so (suc n) cells least enough = go (dec_le (length cells) W) (cut_so n (drop (W - 1) cells))
    where
      go : Dec (length cells ≤ W)
          → (1 ≤ length (drop (W - 1) cells) → length (drop (W - 1) cells) ≤ n → Cuts W (drop (W - 1) cells) (cut_within n W (drop (W - 1) cells)))
          → Cuts W cells (cut_within (suc n) W cells)
      go (yes short) later = rw (cut_short n cells short) (whole {cells = cells} (omega arith) short)
      go (no d) later =
          let long : W < length cells = omega arith in
          let t = length-take-le (W - 1) cells (omega arith) in
          let e = length-drop (W - 1) cells in
          rw (cut_long n cells long)
          (subst (λ (l : List ℕ). Cuts W l (part_of W cells ∷ cut_within n W (drop (W - 1) cells))) (take-append-drop (W - 1) cells)
          (cut_off (take (W - 1) cells) (drop (W - 1) cells) (omega arith) (omega arith) (later (omega arith) (omega arith))))

  -- a word is cut as the request says
  pub cut_as_written : (cells : List ℕ) → 1 ≤ length cells → Cuts W cells (parts W cells)
  unfolding parts
  cut_as_written cells least = cut_so (length cells) cells least (omega arith)

  -- ---- Nothing else is

  cut_is : {cells : List ℕ} {ps : List (List ℕ)} → Cuts W cells ps → parts W cells ≡ ps
  cut_is (whole {cells = cells} least most) = one_part cells most
  cut_is (cut_off front rest size long later) =
      let l = length-append front rest in
      let t : take (W - 1) (front ++ rest) ≡ front = take_at front rest (W - 1) (omega arith) in
      let d : drop (W - 1) (front ++ rest) ≡ rest = drop_at front rest (W - 1) (omega arith) in
      rw (first_part (front ++ rest) (omega arith), t, d, cut_is later)

  -- no word is cut in two ways
  pub cut_determined : {cells : List ℕ} {ps qs : List (List ℕ)} → Cuts W cells ps → Cuts W cells qs → ps ≡ qs
  cut_determined a b = sym (cut_is a) ∙ cut_is b

-- ---- How many cells

-- each part but the last has W cells, with its hyphen; the last has 1 to W
pub cuts_sized : {W : ℕ} {cells : List ℕ} {ps : List (List ℕ)} → Cuts W cells ps → Sized W ps
cuts_sized (cut_off front rest size long later) = full front (length-append front (hyphen ∷ []) ∙ size) (cuts_sized later)
cuts_sized (whole least most) = last least most

-- ---- Without their hyphens

bare_more : {W : ℕ} (part : List ℕ) {cells : List ℕ} {ps : List (List ℕ)} → Cuts W cells ps → bare (part ∷ ps) ≡ take (length part - 1) part ∷ bare ps
unfolding bare
bare_more part (cut_off front rest size long later) = refl
bare_more part (whole least most) = refl

-- joined, they are the word
pub bare_joined : {W : ℕ} {cells : List ℕ} {ps : List (List ℕ)} → Cuts W cells ps → flatten (bare ps) ≡ cells
unfolding flatten
bare_joined (whole {cells = cells} least most) = unfold bare in append-nil cells
bare_joined (cut_off front rest size long later) =
    let l = length-append front (hyphen ∷ []) in
    let t : take (length (front ++ hyphen ∷ []) - 1) (front ++ hyphen ∷ []) ≡ front = take_at front (hyphen ∷ []) (length (front ++ hyphen ∷ []) - 1) (omega arith) in
    rw (bare_more (front ++ hyphen ∷ []) later, t, bare_joined later)
