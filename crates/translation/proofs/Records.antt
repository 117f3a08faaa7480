-- The letters and the columns of a table, searched for and read in its image: so what the code reads is what the definitions say of the table's lists.
use Prim.Native.Nat.{ℕ, ◌+◌, ◌≤◌, ◌<◌}
use mathlib.Core.List.{List, [], ◌∷◌}
use mathlib.Core.Option.{Option, none, some}
use mathlib.Core.Path.{◌≡◌, ◌∙◌, ap}
use native.Mathlib.Numerals.{add-one}
use native.Mathlib.Omega.{arith}
use lib.Dec.{eqb}
use lib.ListN.{length, drop, drop_of_length-le}
use lib.Seq.{drop-cons}
use Rattle.table.specs.Numbers.{symbol_byte}
use Rattle.table.specs.Sections.{record_byte}
use Rattle.table.specs.Table.{Letter, table_in, letter_at, column_at}
use Rattle.table.specs.declared.Sections.{Sections}
use Rattle.table.proofs.Search.{first_found}
use Rattle.table.proofs.Reading.{letters_long, letter_at_lem, columns_long, column_at_lem}
use Rattle.translation.specs.Letters.{no_letter, letter, letter_of, letter_for}

abbrev letter_or_none : List Letter → Option ℕ → Letter
letter_or_none letters o = elim o [ none ↦ no_letter | some k ↦ letter letters k ]

module _ (image : List ℕ) (s : Sections) where
  -- ---- The alphabet

  -- a record has the symbol, read in the image
  pub symbol_read : (c k : ℕ) → k < s.alphabet.records
      → eqb (letter (table_in image s).letters k).symbol c ≡ eqb (record_byte image s.alphabet k symbol_byte) c
  unfolding letter_at
  symbol_read c k l = ap (λ (x : Letter). eqb x.symbol c) (letter_at_lem image s k no_letter l)

  pub letter_for_found : (c k : ℕ) → letter_of (table_in image s).letters c ≡ some k → letter_for (table_in image s).letters c ≡ letter_at image s k
  unfolding letter_for letter_of
  letter_for_found c k e =
      let f = first_found (λ k. eqb (letter (table_in image s).letters k).symbol c) 0 (length (table_in image s).letters) k e in
      let l : k < s.alphabet.records = omega (arith, letters_long image s) in
      ap (letter_or_none (table_in image s).letters) e ∙ letter_at_lem image s k no_letter l

  pub letter_for_missing : (c : ℕ) → letter_of (table_in image s).letters c ≡ none → letter_for (table_in image s).letters c ≡ no_letter
  unfolding letter_for
  letter_for_missing c e = ap (letter_or_none (table_in image s).letters) e

  -- ---- The decisions

  pub columns_from : (k : ℕ) → k < s.decisions.records
      → drop k (table_in image s).decisions ≡ column_at image s k ∷ drop (k + 1) (table_in image s).decisions
  columns_from k l =
      drop-cons (table_in image s).decisions k (column_at image s k) (rw (columns_long image s) l)
      ∙ rw (add-one, column_at_lem image s k (column_at image s k) l)

  pub columns_end : (k : ℕ) → s.decisions.records ≤ k → drop k (table_in image s).decisions ≡ []
  columns_end k l = drop_of_length-le (table_in image s).decisions {i = k} (rw (columns_long image s) l)
