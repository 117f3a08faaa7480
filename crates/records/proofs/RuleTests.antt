-- The first wrong byte of a rule, as the code finds it: a test that fails is the first, and past those that pass it is the first of the rest. And the two
-- tests that the code makes by a letter's number are in LetterNumbers.
use Prim.Native.Nat.{ℕ, zero, suc, ◌+◌, ◌-◌, ◌<◌, ◌≤◌}
use mathlib.Core.Bool.{Bool, true, false, not}
use mathlib.Core.List.{List, [], ◌∷◌, ◌++◌}
use mathlib.Core.Option.{Option, none, some}
use mathlib.Core.Path.{◌≡◌, refl, sym, ◌∙◌, ap}
use native.Mathlib.Omega.{arith}
use lib.Dec.{leb, ltb}
use lib.ListN.{length, get_or, take, length-append, get_or-append}
use Rattle.std.proofs.lemmas.Bool.{ltb-true, ltb-false}
use Rattle.std.proofs.lemmas.List.{get_or-append_right}
use Rattle.table.specs.Numbers.{symbol_byte, letter_class_byte, letter_sign_byte, length_byte, string_byte, context_byte, entry_class_byte, shift_byte, signs_byte, first_year_byte, entry_signs, least_length, most_length, least_shift, context_size}
use Rattle.table.specs.Search.{within, first_from, first, list_from, list_of}
use Rattle.table.specs.Sections.{record_byte, first_year, last_year}
use Rattle.table.specs.Records.{right_class, right_letter_sign, right_new_symbol, letter_rule, right_entry_sign, right_sign_after, right_transition, right_condition, right_decision, symbols, right_string_byte, right_context_byte, entry_rule, context_rule, transition_rule, decision_rule, wrong_byte}
use Rattle.records.specs.inside.Judging.{sign_before}
use Rattle.table.specs.declared.Sections.{Sections}
use Rattle.table.proofs.Search.{first_same}
use Rattle.table.proofs.Lists.{length_list_of, get_or_list_of}

-- ---- Past tests that pass

-- so many bytes on
abbrev pub past : ℕ → Option ℕ → Option ℕ
past n none = none
past n (some j) = some (n + j)

first_past : (test : ℕ → Bool) (i n : ℕ) → first_from test (suc i) n ≡ past 1 (first_from (λ j. test (suc j)) i n)
unfolding first_from
first_past test i zero = refl
first_past test i (suc n) = go (test (suc i)) refl (first_past test (suc i) n)
  where
    go : (b : Bool) → test (suc i) ≡ b → first_from test (suc (suc i)) n ≡ past 1 (first_from (λ j. test (suc j)) (suc i) n)
        → first_from test (suc i) (suc n) ≡ past 1 (first_from (λ j. test (suc j)) i (suc n))
    go true e h = rw (e, first_from) (ap some (omega arith))
    go false e h = rw (e, first_from) h

-- an empty rule has none
none_wrong : wrong_byte [] ≡ none
unfolding wrong_byte first_from
none_wrong = refl

-- a test that fails is the first
wrong_first : (rule : List Bool) → wrong_byte (false ∷ rule) ≡ some 0
unfolding wrong_byte first_from
wrong_first rule = refl

-- past one that passes
wrong_past : (rule : List Bool) → wrong_byte (true ∷ rule) ≡ past 1 (wrong_byte rule)
unfolding wrong_byte first_from
wrong_past rule = first_past (λ j. not (get_or (true ∷ rule) j true)) 0 (length rule)

-- among the first tests
wrong_among : (xs ys : List Bool) (j : ℕ) → wrong_byte xs ≡ some j → wrong_byte (xs ++ ys) ≡ some j
wrong_among [] ys j e = let z : ◌≡◌ {A = ℕ} 0 1 = cc (none_wrong, e) in absurd (omega arith)
wrong_among (false ∷ xs) ys j e = wrong_first (xs ++ ys) ∙ sym (wrong_first xs) ∙ e
wrong_among (true ∷ xs) ys j e = go (wrong_byte xs) refl (sym (wrong_past xs) ∙ e) (λ i f. wrong_among xs ys i f)
  where
    go : (o : Option ℕ) → wrong_byte xs ≡ o → past 1 (wrong_byte xs) ≡ some j → ((i : ℕ) → wrong_byte xs ≡ some i → wrong_byte (xs ++ ys) ≡ some i)
        → wrong_byte (true ∷ xs ++ ys) ≡ some j
    go none f h later = let z : ◌≡◌ {A = ℕ} 0 1 = cc in absurd (omega arith)
    go (some i) f h later = wrong_past (xs ++ ys) ∙ ap (past 1) (later i f ∙ sym f) ∙ h

-- past the first tests, where all of them pass
wrong_beyond : (xs ys : List Bool) → wrong_byte xs ≡ none → wrong_byte (xs ++ ys) ≡ past (length xs) (wrong_byte ys)
wrong_beyond [] ys e = go (wrong_byte ys) refl
  where
    go : (o : Option ℕ) → wrong_byte ys ≡ o → wrong_byte ys ≡ past 0 (wrong_byte ys)
    go none f = rw f
    go (some j) f = rw f (ap some (omega arith))
wrong_beyond (false ∷ xs) ys e = let z : ◌≡◌ {A = ℕ} 0 1 = cc (wrong_first xs, e) in absurd (omega arith)
wrong_beyond (true ∷ xs) ys e = go (wrong_byte xs) refl (sym (wrong_past xs) ∙ e) (λ f. wrong_beyond xs ys f)
  where
    more : (o : Option ℕ) → past 1 (past (length xs) o) ≡ past (suc (length xs)) o
    more none = refl
    more (some j) = ap some (omega arith)

    go : (o : Option ℕ) → wrong_byte xs ≡ o → past 1 (wrong_byte xs) ≡ none
        → (wrong_byte xs ≡ none → wrong_byte (xs ++ ys) ≡ past (length xs) (wrong_byte ys)) → wrong_byte (true ∷ xs ++ ys) ≡ past (suc (length xs)) (wrong_byte ys)
    go none f h later = wrong_past (xs ++ ys) ∙ ap (past 1) (later f) ∙ more (wrong_byte ys)
    go (some i) f h later = let z : ◌≡◌ {A = ℕ} 0 1 = cc in absurd (omega arith)

-- a list of tests by places
wrong_of_places : (f : ℕ → Bool) (n : ℕ) → wrong_byte (list_of f n) ≡ first (λ j. not (f j)) n
unfolding wrong_byte
wrong_of_places f n =
    ap (first (λ j. not (get_or (list_of f n) j true))) (length_list_of f n)
    ∙ first_same (λ j. not (get_or (list_of f n) j true)) (λ j. not (f j)) n (λ j l. ap not (get_or_list_of f n j true l))

-- ---- The rule of each section

module _ (image : List ℕ) (s : Sections) (k : ℕ) where
  pub context_wrong : wrong_byte (context_rule image s k) ≡ first (λ j. not (right_class s (record_byte image s.contexts k j))) context_size
  unfolding context_rule
  context_wrong = wrong_of_places _ context_size

  pub transition_wrong : wrong_byte (transition_rule image s k) ≡ first (λ j. not (right_transition (record_byte image s.transitions k j))) s.classes
  unfolding transition_rule
  transition_wrong = wrong_of_places _ s.classes

  -- of an alphabet record: the symbol, the class, the sign
  abbrev pub symbol_test : Bool
  symbol_test = right_new_symbol (take k (symbols image s)) (record_byte image s.alphabet k symbol_byte)

  abbrev pub letter_class_test : Bool
  letter_class_test = right_class s (record_byte image s.alphabet k letter_class_byte)

  abbrev pub letter_sign_test : Bool
  letter_sign_test = right_letter_sign (record_byte image s.alphabet k letter_sign_byte)

  pub symbol_wrong : symbol_test ≡ false → wrong_byte (letter_rule image s k) ≡ some symbol_byte
  unfolding letter_rule
  symbol_wrong e = rw e (wrong_first (letter_class_test ∷ letter_sign_test ∷ []))

  pub letter_class_wrong : symbol_test ≡ true → letter_class_test ≡ false → wrong_byte (letter_rule image s k) ≡ some letter_class_byte
  unfolding letter_rule
  letter_class_wrong e f = rw (e, f) (wrong_past (false ∷ letter_sign_test ∷ []) ∙ ap (past 1) (wrong_first (letter_sign_test ∷ [])))

  pub letter_sign_wrong : symbol_test ≡ true → letter_class_test ≡ true → letter_sign_test ≡ false → wrong_byte (letter_rule image s k) ≡ some letter_sign_byte
  unfolding letter_rule
  letter_sign_wrong e f g = rw (e, f, g) (wrong_past (true ∷ false ∷ []) ∙ ap (past 1) (wrong_past (false ∷ []) ∙ ap (past 1) (wrong_first [])))

  pub letter_passes : symbol_test ≡ true → letter_class_test ≡ true → letter_sign_test ≡ true → wrong_byte (letter_rule image s k) ≡ none
  unfolding letter_rule
  letter_passes e f g =
      rw (e, f, g) (wrong_past (true ∷ true ∷ []) ∙ ap (past 1) (wrong_past (true ∷ []) ∙ ap (past 1) (wrong_past [] ∙ ap (past 1) none_wrong)))

  -- of a decision column: a byte of a class, or past them a condition
  abbrev pub column_test : ℕ → Bool
  column_test j =
      elim (ltb j s.classes) [ true ↦ right_decision (record_byte image s.decisions k j) | false ↦ right_condition (record_byte image s.decisions k j) ]

  pub decision_wrong : wrong_byte (decision_rule image s k) ≡ first (λ j. not (column_test j)) (s.classes + s.variables)
  unfolding wrong_byte decision_rule
  decision_wrong =
      ap (first (λ j. not (get_or (of_classes ++ of_variables) j true)))
      (length-append of_classes of_variables ∙ ap (λ n. n + length of_variables) (length_list_of _ s.classes) ∙ ap (λ n. s.classes + n) (length_list_of _ s.variables))
      ∙ first_same _ (λ j. not (column_test j)) (s.classes + s.variables) (λ j l. ap not (go j (ltb j s.classes) refl l))
    where
      of_classes : List Bool
      of_classes = list_of (λ j. right_decision (record_byte image s.decisions k j)) s.classes

      of_variables : List Bool
      of_variables = list_of (λ v. right_condition (record_byte image s.decisions k (s.classes + v))) s.variables

      go : (j : ℕ) (b : Bool) → ltb j s.classes ≡ b → j < s.classes + s.variables
          → get_or (of_classes ++ of_variables) j true
          ≡ elim b [ true ↦ right_decision (record_byte image s.decisions k j) | false ↦ right_condition (record_byte image s.decisions k j) ]
      go j true e l =
          let within : j < s.classes = ltb-true j s.classes e in
          let there : j < length of_classes = rw length_list_of within in
          get_or-append of_classes of_variables true j there ∙ get_or_list_of _ s.classes j true within
      go j false e l =
          let past : s.classes ≤ j = ltb-false j s.classes e in
          let same : s.classes + (j - s.classes) ≡ j = omega arith in
          get_or-append_right of_classes of_variables s.classes j true (length_list_of _ s.classes) past
          ∙ get_or_list_of _ s.variables (j - s.classes) true (omega arith)
          ∙ ap (λ n. right_condition (record_byte image s.decisions k n)) same

  abbrev byte : ℕ → ℕ
  byte = record_byte image s.contractions k

  abbrev pub length_test : Bool
  length_test = within least_length most_length (byte length_byte)

  abbrev pub string_wrong : Option ℕ
  string_wrong = first (λ i. not (right_string_byte (symbols image s) (byte length_byte) i (byte (string_byte + i)))) most_length

  abbrev pub context_test : Bool
  context_test = right_context_byte s (byte length_byte) (byte context_byte)

  abbrev pub class_test : Bool
  class_test = right_class s (byte entry_class_byte)

  abbrev pub shift_test : Bool
  shift_test = within least_shift (byte length_byte) (byte shift_byte)

  abbrev pub signs_wrong : Option ℕ
  signs_wrong = first (λ i. not (right_sign_after (sign_before image s.contractions k i) (byte (signs_byte + i)))) entry_signs

  abbrev pub years_test : Bool
  years_test = leb (first_year image s.contractions k) (last_year image s.contractions k)

  signs_rule : List Bool
  signs_rule =
      right_entry_sign (byte signs_byte) ∷ list_of (λ i. right_sign_after (byte (signs_byte + i)) (byte (signs_byte + 1 + i))) (entry_signs - 1)

  -- each sign by the one before it
  signs_by_places : signs_rule ≡ list_of (λ i. right_sign_after (sign_before image s.contractions k i) (byte (signs_byte + i))) entry_signs
  unfolding signs_rule list_from right_sign_after
  signs_by_places = refl

  -- the length and the string, what follows the string, and the years
  up_to_string : List Bool
  up_to_string = length_test ∷ list_of (λ i. right_string_byte (symbols image s) (byte length_byte) i (byte (string_byte + i))) most_length

  after_string : List Bool
  after_string = context_test ∷ class_test ∷ shift_test ∷ signs_rule

  abbrev before_years : List Bool
  before_years = up_to_string ++ after_string

  abbrev years : List Bool
  years = years_test ∷ []

  in_parts : entry_rule image s k ≡ before_years ++ years
  unfolding entry_rule up_to_string after_string signs_rule
  in_parts = refl

  before_years_lem : (j : ℕ) → wrong_byte before_years ≡ some j → wrong_byte (entry_rule image s k) ≡ some j
  before_years_lem j e = ap wrong_byte in_parts ∙ wrong_among before_years years j e

  -- of a contraction record: the length
  pub length_wrong : length_test ≡ false → wrong_byte (entry_rule image s k) ≡ some 0
  unfolding up_to_string
  length_wrong e = let here : wrong_byte before_years ≡ some 0 = rw e (wrong_first _) in before_years_lem 0 here

  string_told : length_test ≡ true → wrong_byte up_to_string ≡ past string_byte string_wrong
  unfolding up_to_string
  string_told e = rw e (wrong_past (list_of _ most_length) ∙ ap (past 1) (wrong_of_places _ most_length))

  -- the string
  pub string_wrong_lem : (i : ℕ) → length_test ≡ true → string_wrong ≡ some i → wrong_byte (entry_rule image s k) ≡ some (string_byte + i)
  string_wrong_lem i e f =
      before_years_lem (string_byte + i) (wrong_among up_to_string after_string (string_byte + i) (string_told e ∙ ap (past string_byte) f))

  -- all bytes are right up to the last of the string, and up to the shift
  pub record StringRight : Type 0 where
    pub length_passes : length_test ≡ true
    pub string_passes : string_wrong ≡ none

  pub record ShiftRight : Type 0 where
    pub string_right : StringRight
    pub context_passes : context_test ≡ true
    pub class_passes : class_test ≡ true
    pub shift_passes : shift_test ≡ true

  after_string_lem : StringRight → wrong_byte before_years ≡ past context_byte (wrong_byte after_string)
  unfolding up_to_string
  after_string_lem r =
      wrong_beyond up_to_string after_string (string_told r.length_passes ∙ ap (past string_byte) r.string_passes)
      ∙ ap (λ (n : ℕ). past (suc n) (wrong_byte after_string)) (length_list_of _ most_length)

  pub context_byte_wrong : StringRight → context_test ≡ false → wrong_byte (entry_rule image s k) ≡ some context_byte
  unfolding after_string
  context_byte_wrong r c =
      let here : wrong_byte after_string ≡ some 0 = rw c (wrong_first (class_test ∷ shift_test ∷ signs_rule)) in
      before_years_lem context_byte (after_string_lem r ∙ ap (past context_byte) here)

  pub class_byte_wrong : StringRight → context_test ≡ true → class_test ≡ false → wrong_byte (entry_rule image s k) ≡ some entry_class_byte
  unfolding after_string
  class_byte_wrong r c d =
      let here : wrong_byte after_string ≡ some 1 = rw (c, d) (wrong_past (false ∷ shift_test ∷ signs_rule) ∙ ap (past 1) (wrong_first (shift_test ∷ signs_rule))) in
      before_years_lem entry_class_byte (after_string_lem r ∙ ap (past context_byte) here)

  pub shift_byte_wrong : StringRight → context_test ≡ true → class_test ≡ true → shift_test ≡ false → wrong_byte (entry_rule image s k) ≡ some shift_byte
  unfolding after_string
  shift_byte_wrong r c d g =
      let here : wrong_byte after_string ≡ some 2 =
      rw (c, d, g) (wrong_past (true ∷ false ∷ signs_rule) ∙ ap (past 1) (wrong_past (false ∷ signs_rule) ∙ ap (past 1) (wrong_first signs_rule))) in
      before_years_lem shift_byte (after_string_lem r ∙ ap (past context_byte) here)

  -- the signs
  signs_beyond : ShiftRight → wrong_byte before_years ≡ past signs_byte signs_wrong
  unfolding after_string
  signs_beyond r =
      let there : wrong_byte after_string ≡ past 1 (past 1 (past 1 signs_wrong)) =
      rw (r.context_passes, r.class_passes, r.shift_passes)
      (wrong_past (true ∷ true ∷ signs_rule) ∙ ap (past 1) (wrong_past (true ∷ signs_rule) ∙ ap (past 1) (wrong_past signs_rule ∙ ap (past 1) last))) in
      after_string_lem r.string_right ∙ ap (past context_byte) there ∙ far signs_wrong
    where
      last : wrong_byte signs_rule ≡ signs_wrong
      last = ap wrong_byte signs_by_places ∙ wrong_of_places _ entry_signs

      far : (o : Option ℕ) → past context_byte (past 1 (past 1 (past 1 o))) ≡ past signs_byte o
      far none = refl
      far (some j) = ap some (omega arith)

  pub sign_byte_wrong : (i : ℕ) → ShiftRight → signs_wrong ≡ some i → wrong_byte (entry_rule image s k) ≡ some (signs_byte + i)
  sign_byte_wrong i r e = before_years_lem (signs_byte + i) (signs_beyond r ∙ ap (past signs_byte) e)

  -- the years
  years_next : length before_years ≡ first_year_byte
  unfolding up_to_string after_string signs_rule list_from
  years_next = refl

  years_beyond : ShiftRight → signs_wrong ≡ none → wrong_byte (entry_rule image s k) ≡ past first_year_byte (wrong_byte years)
  years_beyond r e =
      ap wrong_byte in_parts
      ∙ wrong_beyond before_years years (signs_beyond r ∙ ap (past signs_byte) e)
      ∙ ap (λ (n : ℕ). past n (wrong_byte years)) years_next

  pub years_wrong : ShiftRight → signs_wrong ≡ none → years_test ≡ false → wrong_byte (entry_rule image s k) ≡ some first_year_byte
  years_wrong r e y =
      let here : wrong_byte years ≡ some 0 = rw y (wrong_first []) in
      years_beyond r e ∙ ap (past first_year_byte) here

  pub entry_passes : ShiftRight → signs_wrong ≡ none → years_test ≡ true → wrong_byte (entry_rule image s k) ≡ none
  entry_passes r e y =
      let here : wrong_byte years ≡ none = rw y (wrong_past [] ∙ ap (past 1) none_wrong) in
      years_beyond r e ∙ ap (past first_year_byte) here
