-- The number of a symbol's first alphabet record: how it moves on by one record, and what it tells: that a symbol is in the alphabet, and that it is not
-- that of an earlier record.
use Prim.Native.Nat.{ℕ, ◌+◌, ◌<◌}
use mathlib.Core.Bool.{Bool, true, false≢true, not, ◌&&◌}
use mathlib.Core.List.{List}
use mathlib.Core.Option.{Option, none, some}
use mathlib.Core.Path.{◌≡◌, refl, sym, ◌∙◌, ap, subst}
use native.Mathlib.Decide.{ℕ_discrete}
use native.Mathlib.Omega.{arith}
use lib.Dec.{eqb}
use lib.ListN.{get_or, set, take, length-set}
use lib.Seq.{get_or-set_same, get_or-set_other}
use borrow.Author.Tests.{eqb-true, eqb-false, eq-eqb, ne_eqb}
use Rattle.table.specs.Numbers.{symbol_byte}
use Rattle.table.specs.Search.{first, member}
use Rattle.table.specs.Sections.{record_byte}
use Rattle.table.specs.Records.{symbols, right_symbol, right_new_symbol}
use Rattle.table.specs.Refusals.{symbol_of, InAlphabet}
use Rattle.records.specs.inside.Judging.{number_of, letter_number, Gathered, LettersBySymbol}
use Rattle.table.specs.declared.Section.{Section}
use Rattle.table.specs.declared.Sections.{Sections}
use Rattle.table.proofs.Tests.{Tells, same_tests, tells_not}
use Rattle.table.proofs.RightRecords.{tells_in_alphabet, tells_earlier}
use Rattle.table.proofs.Search.{first_found, first_missing, first_is, first_kept, first_last, first_none_more}

module _ (image : List ℕ) (alphabet : Section) (c : ℕ) where
  abbrev has : ℕ → Bool
  has k = eqb (record_byte image alphabet k symbol_byte) c

  -- one record more: a number stays, and without one the record counts where it has the symbol
  number_kept : (n : ℕ) → (letter_number image alphabet c n ≡ 0 → ⊥) → letter_number image alphabet c (n + 1) ≡ letter_number image alphabet c n
  unfolding letter_number
  number_kept n Some-number = go (first has n) refl
    where
      go : (o : Option ℕ) → first has n ≡ o → number_of (first has (n + 1)) ≡ number_of (first has n)
      go none e = absurd (Some-number (ap number_of e))
      go (some k) e = rw (first_kept has n k e, e)

  number_new : (n : ℕ) → letter_number image alphabet c n ≡ 0 → record_byte image alphabet n symbol_byte ≡ c
      → letter_number image alphabet c (n + 1) ≡ n + 1
  unfolding letter_number
  number_new n no_number same = go (first has n) refl
    where
      go : (o : Option ℕ) → first has n ≡ o → number_of (first has (n + 1)) ≡ n + 1
      go none e = rw (first_last has n e (eq-eqb _ _ same))
      go (some k) e = let z : number_of (some k) ≡ 0 = sym (ap number_of e) ∙ no_number in absurd (omega arith)

  number_other : (n : ℕ) → (record_byte image alphabet n symbol_byte ≡ c → ⊥) → letter_number image alphabet c (n + 1) ≡ letter_number image alphabet c n
  unfolding letter_number
  number_other n other = go (first has n) refl
    where
      go : (o : Option ℕ) → first has n ≡ o → number_of (first has (n + 1)) ≡ number_of (first has n)
      go none e = rw (first_none_more has n e (ne_eqb _ _ other), e)
      go (some k) e = rw (first_kept has n k e, e)

-- ---- The numbers of all bytes, one record more: the one whose symbol is `b`

module _ (image : List ℕ) (alphabet : Section) (n : ℕ) (letters : List ℕ) (so_far : Gathered image alphabet n letters) (b : ℕ)
    (is_symbol : b ≡ record_byte image alphabet n symbol_byte) (byte : b < 256) where
  -- a symbol that has a number keeps it
  pub gathered_old : (get_or letters b 0 ≡ 0 → ⊥) → Gathered image alphabet (n + 1) letters
  gathered_old known = record { size = so_far.size; numbers = λ c l. so_far.numbers c l ∙ sym (go c (ℕ_discrete b c)) }
    where
      go : (c : ℕ) → Dec (b ≡ c) → letter_number image alphabet c (n + 1) ≡ letter_number image alphabet c n
      go c (yes e) =
          subst (λ (x : ℕ). letter_number image alphabet x (n + 1) ≡ letter_number image alphabet x n) e
          (number_kept image alphabet b n (λ z. known (so_far.numbers b byte ∙ z)))
      go c (no d) = number_other image alphabet c n (λ e. d (is_symbol ∙ e))

  -- a symbol that has none gets that of the record
  pub gathered_new : get_or letters b 0 ≡ 0 → Gathered image alphabet (n + 1) (set letters b (n + 1))
  gathered_new unknown =
      record { size = length-set letters b (n + 1) ∙ so_far.size; numbers = λ c l. go c (ℕ_discrete c b) (so_far.numbers c l) }
    where
      go : (c : ℕ) → Dec (c ≡ b) → get_or letters c 0 ≡ letter_number image alphabet c n
          → get_or (set letters b (n + 1)) c 0 ≡ letter_number image alphabet c (n + 1)
      go c (yes e) old =
          subst (λ (x : ℕ). get_or (set letters b (n + 1)) x 0 ≡ letter_number image alphabet x (n + 1)) (sym e)
          (get_or-set_same letters b (n + 1) 0 (rw so_far.size byte)
          ∙ sym (number_new image alphabet b n (sym (so_far.numbers b byte) ∙ unknown) (sym is_symbol)))
      go c (no d) old =
          get_or-set_other letters b c (n + 1) 0 d ∙ old ∙ sym (number_other image alphabet c n (λ e. d (sym e ∙ sym is_symbol)))

-- ---- What a number tells

module _ (image : List ℕ) (s : Sections) (c : ℕ) where
  -- a symbol with a number is in the alphabet
  pub number_in_alphabet : not (eqb (letter_number image s.alphabet c s.alphabet.records) 0) ≡ member c (symbols image s)
  unfolding letter_number
  number_in_alphabet = same_tests (go (first (has image s.alphabet c) s.alphabet.records) refl) (tells_in_alphabet image s c)
    where
      go : (o : Option ℕ) → first (has image s.alphabet c) s.alphabet.records ≡ o → Tells (not (eqb (number_of o) 0)) (InAlphabet image s c)
      go none e = (
        λ t. absurd (false≢true t),
        λ h.
            absurd
            (eqb-false _ _ (first_missing (has image s.alphabet c) 0 _ e h.letter (omega arith) (let l = h.there in omega arith)) h.symbol),
      )
      go (some k) e =
          let f = first_found (has image s.alphabet c) 0 _ k e in (
            λ _. record { letter = k; there = omega arith; symbol = eqb-true _ _ f.passes },
            λ _. rw (ne_eqb (k + 1) 0 (omega arith)),
          )

  -- the number of record `k`'s symbol is its own where no earlier record has the symbol
  pub number_first : (k : ℕ) → k < s.alphabet.records → symbol_of image s k ≡ c
      → eqb (letter_number image s.alphabet c s.alphabet.records) (k + 1) ≡ not (member c (take k (symbols image s)))
  unfolding letter_number
  number_first k l here = same_tests (first_only, only_first) (tells_not (tells_earlier image s k c l))
    where
      n : ℕ
      n = s.alphabet.records

      Earlier : Type 0
      Earlier = (j : ℕ) × (j < k) × (symbol_of image s j ≡ c)

      first_only : eqb (number_of (first (has image s.alphabet c) n)) (k + 1) ≡ true → Earlier → ⊥
      first_only t h = go (first (has image s.alphabet c) n) refl (eqb-true _ _ t)
        where
          go : (o : Option ℕ) → first (has image s.alphabet c) n ≡ o → number_of o ≡ k + 1 → ⊥
          go none e same = omega arith
          go (some i) e same =
              let f = first_found (has image s.alphabet c) 0 n i e in
              let u : h.0 < i = omega arith in
              eqb-false _ _ (f.earlier h.0 (omega arith) u) h.2

      only_first : (Earlier → ⊥) → eqb (number_of (first (has image s.alphabet c) n)) (k + 1) ≡ true
      only_first none_earlier =
          let e =
          first_is (has image s.alphabet c) 0 n k
          (record {
            low = omega arith;
            high = omega arith;
            passes = eq-eqb _ _ here;
            earlier = λ j l u. ne_eqb _ _ (λ same. none_earlier (j, u, same));
          }) in
          eq-eqb _ _ (ap number_of e)

  -- so the code finds a character in the alphabet by its number
  pub character_told : (letters : List ℕ) → LettersBySymbol image s.alphabet letters → c < 256 → member c (symbols image s) ≡ not (eqb (get_or letters c 0) 0)
  character_told letters gathered byte = sym (ap (λ (n : ℕ). not (eqb n 0)) (gathered.numbers c byte) ∙ number_in_alphabet)

-- and whether record `k`'s symbol is right and new
pub symbol_told : (image : List ℕ) (s : Sections) (k : ℕ) (letters : List ℕ) → LettersBySymbol image s.alphabet letters → k < s.alphabet.records
    → (symbol : ℕ) → symbol ≡ record_byte image s.alphabet k symbol_byte → symbol < 256
    → right_new_symbol (take k (symbols image s)) (record_byte image s.alphabet k symbol_byte) ≡ (right_symbol symbol && eqb (get_or letters symbol 0) (k + 1))
unfolding right_new_symbol
symbol_told image s k letters gathered there symbol is byte =
    rw (← is)
    (ap (λ b. right_symbol symbol && b)
    (sym (ap (λ (n : ℕ). eqb n (k + 1)) (gathered.numbers symbol byte) ∙ number_first image s symbol k there (sym is))))
