-- What the code that finds the first record to break the grouping goes by. Two strings agree in a further character or in no more. Where no record
-- before r breaks the grouping, the walk back from r may stop at the first record q that shares less with r than r - 1 does: if a record j before q
-- outdid r - 1, then j and r - 1 would agree in characters in which q, between them, doesn't, and r - 1 would break the grouping.
use Prim.Native.Nat.{ℕ, suc, pred, ◌+◌, ◌-◌, ◌≤◌, ◌<◌}
use mathlib.Core.Bool.{Bool, true, false}
use mathlib.Core.List.{List, [], ◌∷◌}
use mathlib.Core.Option.{Option, none, some}
use mathlib.Core.Path.{◌≡◌, refl, sym, ◌∙◌, ap, ap₂, subst}
use native.Mathlib.Decide.{dec_le, ℕ_discrete}
use native.Mathlib.Omega.{arith}
use lib.Dec.{ltb}
use lib.ListN.{length, get_or, take, drop, length-drop, length-map, get_or-map, drop_of_length-le}
use lib.Seq.{drop-cons, take_all}
use borrow.Author.Tests.{eq-eqb, ne_eqb, lt-ltb, le-ltb}
use Rattle.table.specs.Search.{first, is_there, list_of}
use Rattle.table.specs.Table.{Entry, entry_at, table_in}
use Rattle.table.specs.Grouping.{string_of, agreement, breaks_at}
use Rattle.table.specs.Grouped.{Agree, Breaks}
use Rattle.table.specs.Verdict.{strings}
use Rattle.table.specs.declared.Sections.{Sections}
use Rattle.table.proofs.Search.{first_missing, first_is_not}
use Rattle.table.proofs.Lists.{length_list_of, get_or_list_of}
use Rattle.table.proofs.Tests.{clash}
use Rattle.table.proofs.Grouping.{agree_within_agreement, agreement_of_agree, agree_sym, agree_trans, agreed, none_breaks}

-- ---- Agreement, character by character

same_heads : (x y : ℕ) (a b : List ℕ) → x ≡ y → agreement (x ∷ a) (y ∷ b) ≡ suc (agreement a b)
unfolding agreement
same_heads x y a b e = rw (agreement, eq-eqb x y e)

other_heads : (x y : ℕ) (a b : List ℕ) → (x ≡ y → ⊥) → agreement (x ∷ a) (y ∷ b) ≡ 0
unfolding agreement
other_heads x y a b d = rw (agreement, ne_eqb x y d)

module _ (a b : List ℕ) (i : ℕ) where
  pub agreement_on : i < length a → i < length b → get_or a i 0 ≡ get_or b i 0
      → agreement (drop i a) (drop i b) ≡ suc (agreement (drop (suc i) a) (drop (suc i) b))
  agreement_on u v e = rw (drop-cons a i 0 u, drop-cons b i 0 v) (same_heads _ _ _ _ e)

  pub agreement_off : i < length a → i < length b → (get_or a i 0 ≡ get_or b i 0 → ⊥) → agreement (drop i a) (drop i b) ≡ 0
  agreement_off u v d = rw (drop-cons a i 0 u, drop-cons b i 0 v) (other_heads _ _ _ _ d)

  pub agreement_left_ends : length a ≤ i → agreement (drop i a) (drop i b) ≡ 0
  unfolding agreement
  agreement_left_ends l = rw (drop_of_length-le a l)

  pub agreement_right_ends : length b ≤ i → agreement (drop i a) (drop i b) ≡ 0
  unfolding agreement
  agreement_right_ends l = rw (drop_of_length-le b l) (with_none (drop i a))
    where
      with_none : (x : List ℕ) → agreement x [] ≡ 0
      with_none [] = refl
      with_none (y ∷ x) = refl

-- ---- The walk back

module _ (strings : List (List ℕ)) (r : ℕ) where
  abbrev shared : ℕ → ℕ
  shared q = agreed strings q r

  abbrev outdoes : ℕ → Bool
  outdoes q = ltb (shared (pred r)) (shared q)

  -- an earlier record outdoes the one just before r
  pub breaks_by : (q : ℕ) → q < r → shared (pred r) < shared q → breaks_at strings r ≡ true
  unfolding breaks_at
  breaks_by q l more = go (first outdoes r) refl
    where
      go : (o : Option ℕ) → first outdoes r ≡ o → is_there o ≡ true
      go none e = absurd (clash (lt-ltb _ _ more) (first_missing outdoes 0 r e q (omega arith) (omega arith)))
      go (some k) e = refl

  -- none does
  pub keeps_by : ((q : ℕ) → q < r → shared q ≤ shared (pred r)) → breaks_at strings r ≡ false
  unfolding breaks_at
  keeps_by quiet = rw (first_is_not outdoes 0 r (λ q _ l. le-ltb _ _ (quiet q (omega arith))))

  -- the record just before r agrees with the whole of it
  pub keeps_whole : length (string_of strings r) ≤ shared (pred r) → breaks_at strings r ≡ false
  keeps_whole whole =
      keeps_by λ q l.
      let h = agree_within_agreement (shared q) (string_of strings q) (string_of strings r) (omega arith) in
      omega arith

  -- none from q on does, q shares less with r than the one just before r, and no record before r breaks the grouping
  pub keeps_from : (q : ℕ) → q < r → shared q < shared (pred r) → ((k : ℕ) → k < r → breaks_at strings k ≡ false)
      → ((j : ℕ) → q ≤ j → j < r → shared j ≤ shared (pred r)) → breaks_at strings r ≡ false
  keeps_from q l less unbroken quiet = keeps_by λ j u. go j u (dec_le q j) (dec_le (shared j) (shared (pred r)))
    where
      agree_near : (k : ℕ) → shared (pred r) ≤ shared k → Agree (shared (pred r)) (string_of strings k) (string_of strings r)
      agree_near k = agree_within_agreement (shared (pred r)) (string_of strings k) (string_of strings r)

      -- q isn't the record just before r
      apart : Dec (q ≡ pred r) → q < pred r
      apart (yes e) = let f : shared q ≡ shared (pred r) = ap shared e in absurd (omega arith)
      apart (no d) = omega arith

      -- a record before q that outdoes the one just before r
      violation : (j : ℕ) → j < q → shared (pred r) < shared j → Breaks strings (pred r)
      violation j u more =
          record {
            earlier = j;
            violated =
                record {
                  p = shared (pred r);
                  m = q;
                  after = u;
                  before = apart (ℕ_discrete q (pred r));
                  agree = agree_trans (agree_near j (omega arith)) (agree_sym (agree_near (pred r) (omega arith)));
                  differ =
                      λ h.
                      let n =
                      agreement_of_agree (shared (pred r)) (string_of strings q) (string_of strings r)
                      (agree_trans (agree_sym h) (agree_near j (omega arith)))
                      in
                      omega arith;
                };
          }

      go : (j : ℕ) → j < r → Dec (q ≤ j) → Dec (shared j ≤ shared (pred r)) → shared j ≤ shared (pred r)
      go j u (yes v) d = quiet j v u
      go j u (no v) (yes h) = h
      go j u (no v) (no h) = absurd (none_breaks strings r unbroken (pred r) (omega arith) (violation j (omega arith) (omega arith)))

-- what holds from q to r - 1, and of the record before q, holds from that one on
pub one_more_back : (P : ℕ → Type 0) (q r : ℕ) → ((j : ℕ) → q ≤ j → j < r → P j) → P (q - 1)
    → (j : ℕ) → q - 1 ≤ j → j < r → P j
one_more_back P q r later here j l u = go (ℕ_discrete (q - 1) j)
  where
    go : Dec (q - 1 ≡ j) → P j
    go (yes e) = subst P e here
    go (no d) = later j (omega arith) u

-- ---- The strings of an image

-- where the list ends, it doesn't matter how many more are asked for
pub take_past : (l : List ℕ) (i m n : ℕ) → length l ≤ i + m → length l ≤ i + n → take m (drop i l) ≡ take n (drop i l)
take_past l i m n h k = all m h ∙ sym (all n k)
  where
    all : (m : ℕ) → length l ≤ i + m → take m (drop i l) ≡ drop i l
    all m h = take_all m (drop i l) (simp length-drop (omega arith))

module _ (image : List ℕ) (s : Sections) where
  abbrev records : ℕ
  records = s.contractions.records

  pub strings_length : length (strings (table_in image s)) ≡ records
  unfolding strings table_in
  strings_length = simp (length-map, length_list_of)

  pub strings_at : (k : ℕ) → k < records → string_of (strings (table_in image s)) k ≡ (entry_at image s k).string
  unfolding strings table_in
  strings_at k l =
      get_or-map (λ (e : Entry). e.string) (list_of (entry_at image s) records) k nothing
      ∙ ap (λ (e : Entry). e.string) (get_or_list_of (entry_at image s) records k nothing l)
    where
      nothing : Entry
      nothing = record { string = []; context = 0; class = 0; shift = 0; signs = []; first = 0; last = 0 }

  pub agreed_at : (q r : ℕ) {a b : List ℕ} → q < records → r < records → a ≡ (entry_at image s q).string → b ≡ (entry_at image s r).string
      → agreement a b ≡ agreed (strings (table_in image s)) q r
  agreed_at q r u v e f = ap₂ agreement (e ∙ sym (strings_at q u)) (f ∙ sym (strings_at r v))
