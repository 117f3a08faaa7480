-- The rule of each kind of record, a list of tests, passes just where the record is right in the paper's words, and each of its tests just where its byte
-- is. The idea: a rule is put together from single tests and lists of tests, and what it tells is put together from what they tell.
use Prim.Native.Nat.{ℕ, zero, suc, pred, ◌+◌, ◌-◌, ◌≤◌, ◌<◌}
use mathlib.Core.Bool.{Bool, true}
use mathlib.Core.List.{List, [], ◌∷◌, ◌++◌}
use mathlib.Core.Logic.Iff
use mathlib.Core.Logic.{◌↔◌, ◌⊎◌, inl, inr, ⊎_elim}
use mathlib.Core.Path.{◌≡◌, refl, sym, ◌∙◌, ap, subst}
use native.Mathlib.Decide.{dec_lt, ℕ_discrete}
use native.Mathlib.Omega.{arith}
use lib.ListN.{length, get_or, take, length-append, get_or-append, get_or-eq_default}
use lib.Seq.{length-take-le, get_or-take, get_or-append-add}
use Rattle.table.specs.Numbers.{no_cell, least_symbol, most_symbol, bar, length_byte, string_byte, context_byte, signs_byte, entry_signs, least_length, most_length, padding, no_context, context_size}
use Rattle.table.specs.Search.{list_from, list_of, member}
use Rattle.table.specs.Sections.{record_byte}
use Rattle.table.specs.Records.{right_symbol, right_class, right_letter_sign, right_entry_sign, right_sign_after, right_transition, right_condition, right_decision, symbols, right_new_symbol, letter_rule, right_string_byte, right_context_byte, entry_rule, context_rule, transition_rule, decision_rule, wrong_byte, right_record, SectionName, alphabet, contractions, contexts, transitions, decisions, section_named, rule_of}
use Rattle.table.specs.Refusals.{Between, IsClass, IsLetterSign, IsEntrySign, IsTransition, IsDecision, IsCondition, ContextExists, symbol_of, InAlphabet, RightLetter, entry_byte, RightEntry, RightContext, RightTransition, RightDecision, RightRecord, There, IsStringByte, IsSignAfter, bytes_of, RightByte}
use Rattle.table.specs.declared.Sections.{Sections}
use Rattle.table.proofs.Lists.{length_list_of, get_or_list_of, member_law}
use Rattle.table.proofs.Tests.{Tells, tells_and, tells_or, tells_not, tells_cond, tells_le, tells_lt, tells_eq, tells_within, every_law}

-- ---- Rules: lists of tests

-- every test of the rule passes
abbrev pub Passes : List Bool → Type 0
Passes rule = (j : ℕ) → j < length rule → get_or rule j true ≡ true

pub right_record_law : (rule : List Bool) → (right_record rule ≡ true) ↔ Passes rule
unfolding right_record wrong_byte
right_record_law rule = every_law (λ j. get_or rule j true) (length rule)

-- the rule passes just where the fact holds
record RuleTells (rule : List Bool) (Fact : Type 0) : Type 0 where
  holds : Passes rule → Fact
  passes : Fact → Passes rule

rule_nil : RuleTells [] (Unit {0})
rule_nil = record { holds = λ _. tt; passes = λ _ j l. absurd (omega arith) }

rule_cons : {b : Bool} {rule : List Bool} {P Q : Type 0} → Tells b P → RuleTells rule Q → RuleTells (b ∷ rule) (P × Q)
rule_cons {b} {rule} p q =
    record {
      holds = λ h. (p.0 (h 0 (omega arith)), q.holds (λ j l. h (suc j) (omega arith)));
      passes = λ h. each (p.1 h.0) (q.passes h.1);
    }
  where
    each : b ≡ true → Passes rule → Passes (b ∷ rule)
    each e h zero l = e
    each e h (suc j) l = h j (omega arith)

rule_append : {xs ys : List Bool} {P Q : Type 0} → RuleTells xs P → RuleTells ys Q → RuleTells (xs ++ ys) (P × Q)
rule_append {xs} {ys} p q =
    record {
      holds =
          λ h. (
            p.holds (λ j l. sym (get_or-append xs ys true j l) ∙ h j (simp length-append (omega arith))),
            q.holds (λ j l. sym (get_or-append-add xs ys j true) ∙ h (length xs + j) (simp length-append (omega arith))),
          );
      passes = λ h j l. each (p.passes h.0) (q.passes h.1) j (simp length-append at l) (dec_lt j (length xs));
    }
  where
    each : Passes xs → Passes ys → (j : ℕ) → j < length xs + length ys → Dec (j < length xs) → get_or (xs ++ ys) j true ≡ true
    each p q j l (yes u) = get_or-append xs ys true j u ∙ p j u
    each p q j l (no d) =
        ap (λ (k : ℕ). get_or (xs ++ ys) k true) (omega arith) ∙ get_or-append-add xs ys (j - length xs) true ∙ q (j - length xs) (omega arith)

rule_list_of : {P : ℕ → Type 0} (f : ℕ → Bool) (n : ℕ) → ((k : ℕ) → k < n → Tells (f k) (P k)) → RuleTells (list_of f n) ((k : ℕ) → k < n → P k)
rule_list_of f n tells =
    record {
      holds = λ h k l. (tells k l).0 (sym (get_or_list_of f n k true l) ∙ h k (rw length_list_of l));
      passes = λ h k l. let u : k < n = rw (length_list_of f n) at l in get_or_list_of f n k true u ∙ (tells k u).1 (h k u);
    }

tells_rule : {rule : List Bool} {P Q : Type 0} → RuleTells rule P → P ↔ Q → Tells (right_record rule) Q
tells_rule {rule} p e = Iff.trans (right_record_law rule) (λ h. e.0 (p.holds h), λ h. p.passes (e.1 h))

-- ---- Rules, byte by byte: each test tells what its byte is to be

data Bytewise : List Bool → List (Type 0) → Type 1 where
  no_byte : Bytewise [] []
  next_byte : {b : Bool} {P : Type 0} {rule : List Bool} {facts : List (Type 0)} → Tells b P → Bytewise rule facts → Bytewise (b ∷ rule) (P ∷ facts)

at_byte : {rule : List Bool} {facts : List (Type 0)} → Bytewise rule facts → (j : ℕ) → Tells (get_or rule j true) (get_or facts j (Unit {0}))
at_byte no_byte j = (λ _. tt, λ _. refl)
at_byte (next_byte t r) zero = t
at_byte (next_byte t r) (suc j) = at_byte r j

bytewise_append : {xs ys : List Bool} {ps qs : List (Type 0)} → Bytewise xs ps → Bytewise ys qs → Bytewise (xs ++ ys) (ps ++ qs)
bytewise_append no_byte r = r
bytewise_append (next_byte t l) r = next_byte t (bytewise_append l r)

bytewise_from : (f : ℕ → Bool) (P : ℕ → Type 0) (i n : ℕ) → ((k : ℕ) → Tells (f k) (P k)) → Bytewise (list_from f i n) (list_from P i n)
unfolding list_from
bytewise_from f P i zero tells = no_byte
bytewise_from f P i (suc n) tells = next_byte (tells i) (bytewise_from f P (suc i) n tells)

-- ---- What a byte may be

regrouped : {P Q R : Type 0} → ((P ⊎ Q) ⊎ R) ↔ (P ⊎ Q ⊎ R)
regrouped = (⊎_elim (⊎_elim inl (λ q. inr (inl q))) (λ r. inr (inr r)), ⊎_elim (λ p. inl (inl p)) (⊎_elim (λ q. inl (inr q)) inr))

tells_class : (s : Sections) (c : ℕ) → Tells (right_class s c) (IsClass s c)
unfolding right_class
tells_class s c = tells_within _ _ c

tells_letter_sign : (g : ℕ) → Tells (right_letter_sign g) (IsLetterSign g)
unfolding right_letter_sign
tells_letter_sign g = tells_or (tells_le g _) (tells_eq g _)

tells_entry_sign : (g : ℕ) → Tells (right_entry_sign g) (IsEntrySign g)
unfolding right_entry_sign
tells_entry_sign g =
    Iff.trans (tells_or (tells_letter_sign g) (tells_within _ _ g))
    (⊎_elim (⊎_elim inl (λ h. inr (inr h))) (λ h. inr (inl h)), ⊎_elim (λ h. inl (inl h)) (⊎_elim inr (λ h. inl (inr h))))

tells_transition : (b : ℕ) → Tells (right_transition b) (IsTransition b)
unfolding right_transition
tells_transition b =
    Iff.trans (tells_or (tells_or (tells_or (tells_eq b _) (tells_eq b _)) (tells_eq b _)) (tells_eq b _)) (Iff.trans regrouped regrouped)

tells_condition : (b : ℕ) → Tells (right_condition b) (IsCondition b)
unfolding right_condition
tells_condition b = Iff.trans (tells_or (tells_or (tells_eq b _) (tells_eq b _)) (tells_eq b _)) regrouped

tells_decision : (b : ℕ) → Tells (right_decision b) (IsDecision b)
unfolding right_decision
tells_decision b = Iff.trans (tells_or (tells_or (tells_eq b _) (tells_eq b _)) (tells_condition b)) regrouped

-- ---- The signs of an entry: each against the one before it, and all of them

-- a sign is right where this one stands before it
abbrev RightAfter : ℕ → ℕ → Type 0
RightAfter before g = (before ≡ no_cell → g ≡ no_cell) × ((before ≡ no_cell → ⊥) → IsEntrySign g)

tells_sign_after : (before g : ℕ) → Tells (right_sign_after before g) (RightAfter before g)
unfolding right_sign_after
tells_sign_after before g = tells_cond (tells_eq before _) (tells_eq g _) (tells_entry_sign g)

tells_is_sign_after : (before g : ℕ) → Tells (right_sign_after before g) (IsSignAfter before g)
tells_is_sign_after before g =
    Iff.trans (tells_sign_after before g) (
      λ h. (go h (ℕ_discrete before no_cell), h.0),
      λ h. (h.1, λ _. h.0),
    )
  where
    go : RightAfter before g → Dec (before ≡ no_cell) → IsEntrySign g
    go h (yes e) = inr (inr (h.0 e))
    go h (no d) = h.1 d

module _ (sign : ℕ → ℕ) (n : ℕ) where
  abbrev Steps : Type 0
  Steps = (i : ℕ) → i < n → RightAfter (sign i) (sign (suc i))

  abbrev AllSigns : Type 0
  AllSigns = (i : ℕ) → i < suc n → IsEntrySign (sign i)

  abbrev NothingAfter : Type 0
  NothingAfter = (i j : ℕ) → i < j → j < suc n → sign i ≡ no_cell → sign j ≡ no_cell

  signs_of_steps : IsEntrySign (sign 0) → Steps → AllSigns
  signs_of_steps front steps zero l = front
  signs_of_steps front steps (suc i) l = go (ℕ_discrete (sign i) no_cell)
    where
      go : Dec (sign i ≡ no_cell) → IsEntrySign (sign (suc i))
      go (yes e) = inr (inr ((steps i (omega arith)).0 e))
      go (no d) = (steps i (omega arith)).1 d

  nothing_after_of_steps : Steps → NothingAfter
  nothing_after_of_steps steps i zero below l e = absurd (omega arith)
  nothing_after_of_steps steps i (suc j) below l e =
      (steps j (omega arith)).0 (go (dec_lt i j) (λ u. nothing_after_of_steps steps i j u (omega arith) e))
    where
      go : Dec (i < j) → (i < j → sign j ≡ no_cell) → sign j ≡ no_cell
      go (yes u) earlier = earlier u
      go (no d) earlier = ap sign (omega arith) ∙ e

  signs_by_steps : (IsEntrySign (sign 0) × Steps) ↔ (AllSigns × NothingAfter)
  signs_by_steps = (
    λ h. (signs_of_steps h.0 h.1, nothing_after_of_steps h.1),
    λ h. (h.0 0 (omega arith), λ i l. (λ e. h.1 i (suc i) (omega arith) (omega arith) e, λ _. h.0 (suc i) (omega arith))),
  )

-- ---- The rule of each section

module _ (image : List ℕ) (s : Sections) where
  length_symbols : length (symbols image s) ≡ s.alphabet.records
  unfolding symbols
  length_symbols = length_list_of (symbol_of image s) s.alphabet.records

  symbols_at : (j : ℕ) → j < s.alphabet.records → get_or (symbols image s) j 0 ≡ symbol_of image s j
  unfolding symbols
  symbols_at j l = get_or_list_of (symbol_of image s) s.alphabet.records j 0 l

  pub tells_in_alphabet : (c : ℕ) → Tells (member c (symbols image s)) (InAlphabet image s c)
  tells_in_alphabet c =
      Iff.trans (member_law c (symbols image s)) (
        λ h.
            let l : h.at < s.alphabet.records = rw length_symbols at h.there in
            record { letter = h.at; there = l; symbol = sym (symbols_at h.at l) ∙ h.same },
        λ h. record { at = h.letter; there = rw length_symbols h.there; same = symbols_at h.letter h.there ∙ h.symbol },
      )

  pub tells_earlier : (k c : ℕ) → k < s.alphabet.records
      → Tells (member c (take k (symbols image s))) ((j : ℕ) × (j < k) × (symbol_of image s j ≡ c))
  tells_earlier k c l =
      Iff.trans (member_law c (take k (symbols image s))) (
        λ h.
            let u : h.at < k = rw long at h.there in
            (h.at, u, sym (at h.at u) ∙ h.same),
        λ h. record { at = h.0; there = rw long h.1; same = at h.0 h.1 ∙ h.2 },
      )
    where
      long : length (take k (symbols image s)) ≡ k
      long = length-take-le k (symbols image s) (rw length_symbols (omega arith))

      at : (j : ℕ) → j < k → get_or (take k (symbols image s)) j 0 ≡ symbol_of image s j
      at j u = get_or-take k (symbols image s) j 0 u ∙ symbols_at j (omega arith)

  tells_new_symbol : (k : ℕ) → k < s.alphabet.records
      → Tells (right_new_symbol (take k (symbols image s)) (symbol_of image s k))
      ((Between least_symbol most_symbol (symbol_of image s k) × (symbol_of image s k ≡ bar → ⊥))
      × ((j : ℕ) × (j < k) × (symbol_of image s j ≡ symbol_of image s k) → ⊥))
  unfolding right_new_symbol right_symbol
  tells_new_symbol k l =
      tells_and (tells_and (tells_within _ _ (symbol_of image s k)) (tells_not (tells_eq _ _))) (tells_not (tells_earlier k (symbol_of image s k) l))

  letter_right : (k : ℕ) → k < s.alphabet.records → Tells (right_record (letter_rule image s k)) (RightLetter image s k)
  unfolding letter_rule
  letter_right k l =
      tells_rule (rule_cons (tells_new_symbol k l) (rule_cons (tells_class s _) (rule_cons (tells_letter_sign _) rule_nil))) (
        λ h.
            record {
              symbol_right = h.0.0.0;
              no_bar = h.0.0.1;
              new = λ j u e. h.0.1 (j, u, e);
              class_right = h.1.0;
              sign_right = h.1.1.0;
            },
        λ r. (((r.symbol_right, r.no_bar), λ e. r.new e.0 e.1 e.2), (r.class_right, (r.sign_right, tt))),
      )

  tells_string_byte : (len i c : ℕ)
      → Tells (right_string_byte (symbols image s) len i c) ((i < len → InAlphabet image s c) × ((i < len → ⊥) → c ≡ padding))
  unfolding right_string_byte
  tells_string_byte len i c = tells_cond (tells_lt i len) (tells_in_alphabet c) (tells_eq c _)

  tells_context_byte : (len c : ℕ) → Tells (right_context_byte s len c) (ContextExists s c × (len ≡ most_length → c ≡ no_context))
  unfolding right_context_byte
  tells_context_byte len c =
      Iff.trans (tells_and (tells_le c _) (tells_or (tells_eq c _) (tells_not (tells_eq len _)))) (
        λ h. (exists h.0 (ℕ_discrete c no_context), λ e. ⊎_elim (λ z. z) (λ n. absurd (n e)) h.1),
        λ h. (counted h.0, either h.1 (ℕ_discrete len most_length)),
      )
    where
      exists : c ≤ s.contexts.records → Dec (c ≡ no_context) → ContextExists s c
      exists l (yes e) = inl e
      exists l (no d) = inr (pred c, omega arith, omega arith)

      counted : ContextExists s c → c ≤ s.contexts.records
      counted (inl e) = omega arith
      counted (inr h) = omega arith

      either : (len ≡ most_length → c ≡ no_context) → Dec (len ≡ most_length) → (c ≡ no_context) ⊎ (len ≡ most_length → ⊥)
      either h (yes e) = inl (h e)
      either h (no d) = inr d

  entry_right : (k : ℕ) → Tells (right_record (entry_rule image s k)) (RightEntry image s k)
  unfolding entry_rule
  entry_right k =
      tells_rule
      (rule_append
      (rule_append (rule_cons (tells_within _ _ len) (rule_list_of _ most_length (λ i l. tells_string_byte len i (byte (string_byte + i)))))
      (rule_cons (tells_context_byte len (byte context_byte))
      (rule_cons (tells_class s _) (rule_cons (tells_within _ len _) (rule_cons (tells_entry_sign _) (rule_list_of _ (entry_signs - 1) steps))))))
      (rule_cons (tells_le _ _) rule_nil)) (
        λ h.
            let l : Between least_length most_length len = h.0.0.0 in
            let after = h.0.1 in
            let signs = (signs_by_steps sign (entry_signs - 1)).0 after.1.1.1 in
            record {
              length_right = l;
              characters_known = λ i u. (h.0.0.1 i (omega arith)).0 u;
              past_length = λ i u v. (h.0.0.1 i v).1 (omega arith);
              context_exists = after.0.0;
              ten_alone = after.0.1;
              class_right = after.1.0;
              shift_right = after.1.1.0;
              signs_right = signs.0;
              nothing_after = signs.1;
              years_right = h.1.0;
            },
        λ r. (
          (
            (r.length_right, λ i l. (r.characters_known i, λ d. r.past_length i (omega arith) l)),
            (
              (r.context_exists, r.ten_alone),
              (r.class_right, (r.shift_right, (signs_by_steps sign (entry_signs - 1)).1 (r.signs_right, r.nothing_after))),
            ),
          ),
          (r.years_right, tt),
        ),
      )
    where
      byte : ℕ → ℕ
      byte j = entry_byte image s k j

      len : ℕ
      len = byte length_byte

      sign : ℕ → ℕ
      sign i = byte (signs_byte + i)

      steps : (i : ℕ) → i < entry_signs - 1
          → Tells (right_sign_after (sign i) (byte (signs_byte + 1 + i))) (RightAfter (sign i) (sign (suc i)))
      steps i l =
          subst (λ (j : ℕ). Tells (right_sign_after (sign i) (byte (signs_byte + 1 + i))) (RightAfter (sign i) (byte j)))
          (omega arith) (tells_sign_after (sign i) (byte (signs_byte + 1 + i)))

  context_right : (k : ℕ) → Tells (right_record (context_rule image s k)) (RightContext image s k)
  unfolding context_rule
  context_right k =
      tells_rule (rule_list_of _ context_size (λ j l. tells_class s (record_byte image s.contexts k j)))
      (λ h. record { classes_right = h }, λ r. r.classes_right)

  transition_right : (k : ℕ) → Tells (right_record (transition_rule image s k)) (RightTransition image s k)
  unfolding transition_rule
  transition_right k =
      tells_rule (rule_list_of _ s.classes (λ j l. tells_transition (record_byte image s.transitions k j)))
      (λ h. record { bytes_right = h }, λ r. r.bytes_right)

  decision_right : (k : ℕ) → Tells (right_record (decision_rule image s k)) (RightDecision image s k)
  unfolding decision_rule
  decision_right k =
      tells_rule
      (rule_append (rule_list_of _ s.classes (λ j l. tells_decision (record_byte image s.decisions k j)))
      (rule_list_of _ s.variables (λ v l. tells_condition (record_byte image s.decisions k (s.classes + v)))))
      (λ h. record { bytes_right = h.0; conditions_right = h.1 }, λ r. (r.bytes_right, r.conditions_right))

  -- the rule of a record that is there passes just where the record is right
  pub record_right : (name : SectionName) (k : ℕ) → There s name k → (right_record (rule_of image s name k) ≡ true) ↔ RightRecord image s name k
  unfolding rule_of section_named
  record_right alphabet k l = letter_right k l
  record_right contractions k l = entry_right k
  record_right contexts k l = context_right k
  record_right transitions k l = transition_right k
  record_right decisions k l = decision_right k

  -- ---- Byte by byte

  rule_bytes : (name : SectionName) (k : ℕ) → There s name k → Bytewise (rule_of image s name k) (bytes_of image s name k)
  unfolding rule_of letter_rule entry_rule context_rule transition_rule decision_rule section_named
  rule_bytes alphabet k l =
      next_byte
      {P = Between least_symbol most_symbol (symbol_of image s k) × (symbol_of image s k ≡ bar → ⊥) × ((j : ℕ) → j < k → symbol_of image s j ≡ symbol_of image s k → ⊥)}
      (Iff.trans (tells_new_symbol k l) (λ h. (h.0.0, h.0.1, λ j u e. h.1 (j, u, e)), λ h. ((h.0, h.1), λ e. h.2 e.0 e.1 e.2)))
      (next_byte (tells_class s _) (next_byte (tells_letter_sign _) no_byte))
  rule_bytes contractions k l =
      let len : ℕ = entry_byte image s k length_byte in
      bytewise_append
      (bytewise_append
      (next_byte (tells_within _ _ len)
      (bytewise_from _ (λ i. IsStringByte image s len i (entry_byte image s k (string_byte + i))) 0 most_length
      (λ i.
      Iff.trans (tells_string_byte len i (entry_byte image s k (string_byte + i))) (λ h. (h.0, λ u. h.1 (λ v. omega arith)), λ h. (h.0, λ d. h.1 (omega arith))))))
      (next_byte (tells_context_byte len (entry_byte image s k context_byte))
      (next_byte (tells_class s _)
      (next_byte (tells_within _ len _)
      (next_byte (tells_entry_sign _)
      (bytewise_from _ (λ i. IsSignAfter (entry_byte image s k (signs_byte + i)) (entry_byte image s k (signs_byte + 1 + i))) 0 (entry_signs - 1)
      (λ i. tells_is_sign_after (entry_byte image s k (signs_byte + i)) (entry_byte image s k (signs_byte + 1 + i)))))))))
      (next_byte (tells_le _ _) no_byte)
  rule_bytes contexts k l = bytewise_from _ _ 0 context_size (λ j. tells_class s (record_byte image s.contexts k j))
  rule_bytes transitions k l = bytewise_from _ _ 0 s.classes (λ j. tells_transition (record_byte image s.transitions k j))
  rule_bytes decisions k l =
      bytewise_append (bytewise_from _ _ 0 s.classes (λ j. tells_decision (record_byte image s.decisions k j)))
      (bytewise_from _ _ 0 s.variables (λ v. tells_condition (record_byte image s.decisions k (s.classes + v))))

  -- each test of the rule passes just where its byte is right
  pub byte_right : (name : SectionName) (k : ℕ) → There s name k → (j : ℕ) → Tells (get_or (rule_of image s name k) j true) (RightByte image s name k j)
  byte_right name k l j = at_byte (rule_bytes name k l) j

  -- a record is right exactly where each of its bytes is
  pub right_by_bytes : (name : SectionName) (k : ℕ) → There s name k → RightRecord image s name k ↔ ((j : ℕ) → RightByte image s name k j)
  right_by_bytes name k l = (
    λ h j. (byte_right name k l j).0 (everywhere ((right_record_law (rule_of image s name k)).0 ((record_right name k l).1 h)) j (dec_lt j (length (rule_of image s name k)))),
    λ h. (record_right name k l).0 ((right_record_law (rule_of image s name k)).1 (λ j u. (byte_right name k l j).1 (h j))),
  )
    where
      everywhere : Passes (rule_of image s name k) → (j : ℕ) → Dec (j < length (rule_of image s name k)) → get_or (rule_of image s name k) j true ≡ true
      everywhere p j (yes u) = p j u
      everywhere p j (no d) = get_or-eq_default (rule_of image s name k) true (omega arith)
