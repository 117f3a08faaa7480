-- Two images whose records are the same, byte by byte, whatever else they hold: where the records of one are right so are those of the other, and both have one
-- table. The idea: what a right record is, and what an element of the table is, is said of the bytes of records alone.
use Prim.Native.Nat.{ℕ, zero, suc, ◌+◌, ◌≤◌, ◌<◌}
use mathlib.Core.List.{List}
use mathlib.Core.Logic.{inl, inr}
use mathlib.Core.Path.{◌≡◌, refl, sym, ◌∙◌, ap, subst}
use native.Mathlib.Omega.{arith}
use lib.ListN.{length}
use lib.Seq.{ext_get_or}
use Rattle.table.specs.Numbers.{letter_size, entry_size, context_size, string_byte, context_byte, length_byte, entry_class_byte, shift_byte, signs_byte, entry_signs, symbol_byte, letter_class_byte, letter_sign_byte}
use Rattle.table.specs.Search.{list_from, list_of}
use Rattle.table.specs.Sections.{offset, record_byte, record_part, first_year, last_year}
use Rattle.table.specs.Records.{section_named}
use Rattle.table.specs.declared.SectionName.{SectionName}
use Rattle.table.specs.declared.SectionName.TheVariants.{Alphabet as alphabet, Contractions as contractions, Contexts as contexts, Transitions as transitions, Decisions as decisions}
use Rattle.table.specs.Refusals.{IsClass, IsLetterSign, IsEntrySign, IsTransition, IsDecision, IsCondition, ContextExists, InAlphabet, RightRecord, There, RecordsRight}
use Rattle.table.specs.Table.{letter_at, entry_at, context_at, transition_at, column_at, table_in}
use Rattle.table.specs.Laid.{SectionsLaid}
use Rattle.table.specs.declared.Section.{Section}
use Rattle.table.specs.declared.Sections.{Sections}
use Rattle.table.proofs.Reading.{part_long, part_at, string_length, string_inside, signs_inside, context_inside, transition_inside, classes_inside, variables_inside}

-- ---- Lists by their places

list_from_same : {A : Type 0} (f g : ℕ → A) (i n : ℕ) → ((k : ℕ) → i ≤ k → k < i + n → f k ≡ g k) → list_from f i n ≡ list_from g i n
unfolding list_from
list_from_same f g i zero same = refl
list_from_same f g i (suc n) same =
    let here = same i (omega arith) (omega arith) in
    let later = list_from_same f g (suc i) n (λ k l u. same k (omega arith) (omega arith)) in
    cc

list_of_same : {A : Type 0} (f g : ℕ → A) (m n : ℕ) → m ≡ n → ((k : ℕ) → k < n → f k ≡ g k) → list_of f m ≡ list_of g n
list_of_same f g m n e same = ap (λ (i : ℕ). list_of f i) e ∙ list_from_same f g 0 n (λ k l u. same k (omega arith))

-- ---- The same bytes

-- the records of a section have these first bytes in common
abbrev pub SameBytes : List ℕ → Section → List ℕ → Section → ℕ → Type 0
SameBytes image s other t size = (k j : ℕ) → k < s.records → j < size → record_byte other t k j ≡ record_byte image s k j

-- a contraction record has its bytes up to the signs in common, and its years whether they are stored or not
pub record SameRecords (image : List ℕ) (s : Sections) (other : List ℕ) (t : Sections) : Type 0 where
  pub classes : t.classes ≡ s.classes
  pub variables : t.variables ≡ s.variables
  pub letters : t.alphabet.records ≡ s.alphabet.records
  pub entries : t.contractions.records ≡ s.contractions.records
  pub contexts : t.contexts.records ≡ s.contexts.records
  pub transitions : t.transitions.records ≡ s.transitions.records
  pub columns : t.decisions.records ≡ s.decisions.records
  pub letter_bytes : SameBytes image s.alphabet other t.alphabet letter_size
  pub entry_bytes : SameBytes image s.contractions other t.contractions entry_size
  pub context_bytes : SameBytes image s.contexts other t.contexts context_size
  pub transition_bytes : SameBytes image s.transitions other t.transitions s.classes
  pub column_bytes : SameBytes image s.decisions other t.decisions (s.classes + s.variables)
  pub first_years : (k : ℕ) → k < s.contractions.records → first_year other t.contractions k ≡ first_year image s.contractions k
  pub last_years : (k : ℕ) → k < s.contractions.records → last_year other t.contractions k ≡ last_year image s.contractions k

module _ {image : List ℕ} {s : Sections} {other : List ℕ} {t : Sections} (same : SameRecords image s other t) where
  -- ---- Right records

  pub in_alphabet : {c : ℕ} → InAlphabet image s c → InAlphabet other t c
  in_alphabet h =
      record {
        letter = h.letter;
        there = rw same.letters h.there;
        symbol = same.letter_bytes h.letter symbol_byte h.there (omega arith) ∙ h.symbol;
      }

  context_exists : {c : ℕ} → ContextExists s c → ContextExists t c
  context_exists (inl e) = inl e
  context_exists (inr h) = inr (h.0, rw same.contexts h.1, h.2)

  is_class : {c d : ℕ} → d ≡ c → IsClass s c → IsClass t d
  is_class e h = record { low = rw e h.low; high = rw (e, same.classes) h.high }

  right_there : RecordsRight image s → (name : SectionName) (k : ℕ) → There s name k → RightRecord other t name k
  unfolding section_named
  right_there right alphabet k l =
      let r = right alphabet k l in
      let byte = same.letter_bytes k in
      record {
        symbol_right = rw (byte symbol_byte l (omega arith)) r.symbol_right;
        no_bar = rw (byte symbol_byte l (omega arith)) r.no_bar;
        new = λ j u e. r.new j u (sym (same.letter_bytes j symbol_byte (omega arith) (omega arith)) ∙ e ∙ byte symbol_byte l (omega arith));
        class_right = is_class (byte letter_class_byte l (omega arith)) r.class_right;
        sign_right = subst IsLetterSign (sym (byte letter_sign_byte l (omega arith))) r.sign_right;
      }
  right_there right contractions k l =
      let r = right contractions k l in
      let byte : (j : ℕ) → j < entry_size → record_byte other t.contractions k j ≡ record_byte image s.contractions k j = λ j u. same.entry_bytes k j l u in
      let len = byte length_byte (omega arith) in
      let short = r.length_right.high in
      record {
        length_right = rw len r.length_right;
        characters_known =
            λ i u.
            let v : i < record_byte image s.contractions k length_byte = rw len at u in
            subst (InAlphabet other t) (sym (byte (string_byte + i) (omega arith))) (in_alphabet (r.characters_known i v));
        past_length = λ i u v. byte (string_byte + i) (omega arith) ∙ r.past_length i (rw len at u) v;
        context_exists = subst (ContextExists t) (sym (byte context_byte (omega arith))) (context_exists r.context_exists);
        ten_alone = λ e. byte context_byte (omega arith) ∙ r.ten_alone (sym len ∙ e);
        class_right = is_class (byte entry_class_byte (omega arith)) r.class_right;
        shift_right = rw (len, byte shift_byte (omega arith)) r.shift_right;
        signs_right = λ i u. subst IsEntrySign (sym (byte (signs_byte + i) (omega arith))) (r.signs_right i u);
        nothing_after =
            λ i j u v e. byte (signs_byte + j) (omega arith) ∙ r.nothing_after i j u v (sym (byte (signs_byte + i) (omega arith)) ∙ e);
        years_right = rw (same.first_years k l, same.last_years k l) r.years_right;
      }
  right_there right contexts k l =
      let r = right contexts k l in
      record { classes_right = λ j u. is_class (same.context_bytes k j l u) (r.classes_right j u) }
  right_there right transitions k l =
      let r = right transitions k l in
      record {
        bytes_right =
            λ j u.
            let v : j < s.classes = rw same.classes at u in
            subst IsTransition (sym (same.transition_bytes k j l v)) (r.bytes_right j v);
      }
  right_there right decisions k l =
      let r = right decisions k l in
      record {
        bytes_right =
            λ j u.
            let v : j < s.classes = rw same.classes at u in
            subst IsDecision (sym (same.column_bytes k j l (omega arith))) (r.bytes_right j v);
        conditions_right =
            λ j u.
            let v : j < s.variables = rw same.variables at u in
            let e = same.classes in
            subst IsCondition (sym (ap (λ (i : ℕ). record_byte other t.decisions k (i + j)) e ∙ same.column_bytes k (s.classes + j) l (omega arith)))
            (r.conditions_right j v);
      }

  as_many : (name : SectionName) → (section_named t name).records ≡ (section_named s name).records
  unfolding section_named
  as_many alphabet = same.letters
  as_many contractions = same.entries
  as_many contexts = same.contexts
  as_many transitions = same.transitions
  as_many decisions = same.columns

  pub right_records : RecordsRight image s → RecordsRight other t
  right_records right name k l = right_there right name k (rw (as_many name) at l)

  -- ---- The table

  module _ (laid : SectionsLaid image s) (right : RecordsRight image s) (laid_other : SectionsLaid other t) where
    right_other : RecordsRight other t
    right_other = right_records right

    part_same : (a b : Section) (k j n : ℕ) → offset a k + j + n ≤ length image → offset b k + j + n ≤ length other
        → ((i : ℕ) → i < n → record_byte other b k (j + i) ≡ record_byte image a k (j + i)) → record_part other b k j n ≡ record_part image a k j n
    part_same a b k j n inside inside_other bytes =
        let m = part_long image a k j n inside in
        let m_other = part_long other b k j n inside_other in
        ext_get_or 0 (record_part other b k j n) (record_part image a k j n) (m_other ∙ sym m)
        (λ i l.
        let u : i < n = rw m_other at l in
        part_at other b k j n inside_other i 0 u ∙ bytes i u ∙ sym (part_at image a k j n inside i 0 u))

    string_same : (k : ℕ) → k < s.contractions.records
        → record_part other t.contractions k string_byte (record_byte other t.contractions k length_byte)
        ≡ record_part image s.contractions k string_byte (record_byte image s.contractions k length_byte)
    unfolding section_named
    string_same k l =
        let len = same.entry_bytes k length_byte l (omega arith) in
        let short = (right contractions k l).length_right.high in
        let inside = string_inside image s laid right k l in
        let inside_other = string_inside other t laid_other right_other k (rw same.entries l) in
        ap (λ (n : ℕ). record_part other t.contractions k string_byte n) len
        ∙ part_same s.contractions t.contractions k string_byte (string_length image s k) inside (rw len at inside_other)
        (λ i u. same.entry_bytes k (string_byte + i) l (omega arith))

    signs_same : (k : ℕ) → k < s.contractions.records
        → record_part other t.contractions k signs_byte entry_signs ≡ record_part image s.contractions k signs_byte entry_signs
    signs_same k l =
        part_same s.contractions t.contractions k signs_byte entry_signs (signs_inside image s laid right k l)
        (signs_inside other t laid_other right_other k (rw same.entries l))
        (λ i u. same.entry_bytes k (signs_byte + i) l (omega arith))

    pub same_table : table_in other t ≡ table_in image s
    unfolding table_in letter_at entry_at context_at transition_at column_at
    same_table = λ i. record {
      letters =
          list_of_same (letter_at other t) (letter_at image s) _ _ same.letters
          (λ k l. λ i. record {
            symbol = same.letter_bytes k symbol_byte l (omega arith) i;
            class = same.letter_bytes k letter_class_byte l (omega arith) i;
            sign = same.letter_bytes k letter_sign_byte l (omega arith) i;
          })
          i;
      entries =
          list_of_same (entry_at other t) (entry_at image s) _ _ same.entries
          (λ k l. λ i. record {
            string = string_same k l i;
            context = same.entry_bytes k context_byte l (omega arith) i;
            class = same.entry_bytes k entry_class_byte l (omega arith) i;
            shift = same.entry_bytes k shift_byte l (omega arith) i;
            signs = signs_same k l i;
            first = same.first_years k l i;
            last = same.last_years k l i;
          })
          i;
      contexts =
          list_of_same (context_at other t) (context_at image s) _ _ same.contexts
          (λ k l.
          part_same s.contexts t.contexts k 0 context_size (context_inside image s laid right k l)
          (context_inside other t laid_other right_other k (rw same.contexts l)) (λ j u. same.context_bytes k (0 + j) l (omega arith)))
          i;
      transitions =
          list_of_same (transition_at other t) (transition_at image s) _ _ same.transitions
          (λ k l.
          ap (λ (n : ℕ). record_part other t.transitions k 0 n) same.classes
          ∙ part_same s.transitions t.transitions k 0 s.classes (transition_inside image s laid right k l)
          (rw same.classes at (transition_inside other t laid_other right_other k (rw same.transitions l)))
          (λ j u. same.transition_bytes k (0 + j) l (omega arith)))
          i;
      decisions =
          list_of_same (column_at other t) (column_at image s) _ _ same.columns
          (λ k l. λ i. record {
            by_class =
                (ap (λ (n : ℕ). record_part other t.decisions k 0 n) same.classes
                ∙ part_same s.decisions t.decisions k 0 s.classes (classes_inside image s laid right k l)
                (rw same.classes at (classes_inside other t laid_other right_other k (rw same.columns l)))
                (λ j u. same.column_bytes k (0 + j) l (omega arith)))
                i;
            conditions =
                (ap (λ (m : ℕ). record_part other t.decisions k m t.variables) same.classes
                ∙ ap (λ (n : ℕ). record_part other t.decisions k s.classes n) same.variables
                ∙ part_same s.decisions t.decisions k s.classes s.variables (variables_inside image s laid right k l)
                (rw (same.classes, same.variables) at (variables_inside other t laid_other right_other k (rw same.columns l)))
                (λ j u. same.column_bytes k (s.classes + j) l (omega arith)))
                i;
          })
          i;
    }
