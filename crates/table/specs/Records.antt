-- 'A right record has': the rule of each kind of record, byte by byte in byte order; a record's first wrong byte; the first wrong record in image order.
use Rattle.std.specs.Prelude.{ℕ, ◌+◌, ◌-◌, Bool, true, cond, not, ◌&&◌, ◌||◌, List, [], ◌∷◌, ◌++◌, length, get_or, take, leb, ltb, eqb}
use Rattle.std.proofs.Math.Option
use Rattle.std.proofs.Math.Option.{Option, none, some}
use Rattle.table.specs.Numbers.{other_blank, no_cell, sign_line_end, sign_page_end, symbol_byte, letter_class_byte, letter_sign_byte, length_byte, string_byte, context_byte, entry_class_byte, shift_byte, signs_byte, entry_signs, least_length, most_length, padding, no_context, least_shift, least_symbol, most_symbol, bar, least_class, context_size, turn_no, turn_yes, turn_other, accepts, rejects, byte_yes, byte_no, dash}
use Rattle.table.specs.Search.{within, first, is_there, list_of, member}
use Rattle.table.specs.Sections.{record_byte, first_year, last_year}
use Rattle.table.specs.declared.Section.{Section}
use Rattle.table.specs.declared.Sections.{Sections}
pub use Rattle.table.specs.declared.SectionName.{SectionName}
pub use Rattle.table.specs.declared.SectionName.TheVariants.{Alphabet as alphabet, Contractions as contractions, Contexts as contexts, Transitions as transitions, Decisions as decisions}

-- ---- What a byte may be

unfoldable pub right_symbol : ℕ → Bool
right_symbol c = within least_symbol most_symbol c && not (eqb c bar)

unfoldable pub right_class : Sections → ℕ → Bool
right_class s c = within least_class s.classes c

-- 0..64 or 99
unfoldable pub right_letter_sign : ℕ → Bool
right_letter_sign g = leb g other_blank || eqb g no_cell

-- 0..64, 70..73 or 99
unfoldable pub right_entry_sign : ℕ → Bool
right_entry_sign g = right_letter_sign g || within sign_line_end sign_page_end g

-- after a 99 only 99
unfoldable pub right_sign_after : ℕ → ℕ → Bool
right_sign_after before g = cond (eqb before no_cell) (eqb g no_cell) (right_entry_sign g)

-- R S T -
unfoldable pub right_transition : ℕ → Bool
right_transition b = eqb b turn_no || eqb b turn_yes || eqb b turn_other || eqb b dash

-- Y N -
unfoldable pub right_condition : ℕ → Bool
right_condition b = eqb b byte_yes || eqb b byte_no || eqb b dash

-- G F Y N -
unfoldable pub right_decision : ℕ → Bool
right_decision b = eqb b accepts || eqb b rejects || right_condition b

-- ---- The rule of a record: whether each of its bytes is right, in byte order

-- the symbols of the alphabet, in the order of its records
unfoldable pub symbols : List ℕ → Sections → List ℕ
symbols image s = list_of (λ k. record_byte image s.alphabet k symbol_byte) s.alphabet.records

-- a symbol that is right, and not that of an earlier record
unfoldable pub right_new_symbol : List ℕ → ℕ → Bool
right_new_symbol earlier c = right_symbol c && not (member c earlier)

unfoldable pub letter_rule : List ℕ → Sections → ℕ → List Bool
letter_rule image s k =
    let byte : ℕ → ℕ = record_byte image s.alphabet k in
    right_new_symbol (take k (symbols image s)) (byte symbol_byte)
    ∷ right_class s (byte letter_class_byte)
    ∷ right_letter_sign (byte letter_sign_byte)
    ∷ []

-- of ten string bytes, those below the length are characters of the alphabet, and the others 0
unfoldable pub right_string_byte : List ℕ → ℕ → ℕ → ℕ → Bool
right_string_byte among len i c = cond (ltb i len) (member c among) (eqb c padding)

-- a right context that exists, and 0 where the length is 10
unfoldable pub right_context_byte : Sections → ℕ → ℕ → Bool
right_context_byte s len c = leb c s.contexts.records && (eqb c no_context || not (eqb len most_length))

-- the last test is that of the first-year byte. A record without years has no such byte, and always passes
unfoldable pub entry_rule : List ℕ → Sections → ℕ → List Bool
entry_rule image s k =
    let byte : ℕ → ℕ = record_byte image s.contractions k in
    (within least_length most_length (byte length_byte)
    ∷ list_of (λ i. right_string_byte (symbols image s) (byte length_byte) i (byte (string_byte + i))) most_length)
    ++ right_context_byte s (byte length_byte) (byte context_byte)
    ∷ right_class s (byte entry_class_byte)
    ∷ within least_shift (byte length_byte) (byte shift_byte)
    ∷ right_entry_sign (byte signs_byte)
    ∷ list_of (λ i. right_sign_after (byte (signs_byte + i)) (byte (signs_byte + 1 + i))) (entry_signs - 1)
    ++ leb (first_year image s.contractions k) (last_year image s.contractions k)
    ∷ []

unfoldable pub context_rule : List ℕ → Sections → ℕ → List Bool
context_rule image s k = list_of (λ j. right_class s (record_byte image s.contexts k j)) context_size

unfoldable pub transition_rule : List ℕ → Sections → ℕ → List Bool
transition_rule image s k = list_of (λ j. right_transition (record_byte image s.transitions k j)) s.classes

unfoldable pub decision_rule : List ℕ → Sections → ℕ → List Bool
decision_rule image s k =
    list_of (λ j. right_decision (record_byte image s.decisions k j)) s.classes
    ++ list_of (λ v. right_condition (record_byte image s.decisions k (s.classes + v))) s.variables

-- ---- The first wrong byte of a record, if any; where there is none the record is right

unfoldable pub wrong_byte : List Bool → Option ℕ
wrong_byte rule = first (λ j. not (get_or rule j true)) (length rule)

unfoldable pub right_record : List Bool → Bool
right_record rule = not (is_there (wrong_byte rule))

-- ---- The first wrong record in image order, with its section and its first wrong byte

unfoldable pub section_named : Sections → SectionName → Section
section_named s alphabet = s.alphabet
section_named s contractions = s.contractions
section_named s contexts = s.contexts
section_named s transitions = s.transitions
section_named s decisions = s.decisions

unfoldable pub rule_of : List ℕ → Sections → SectionName → ℕ → List Bool
rule_of image s alphabet = letter_rule image s
rule_of image s contractions = entry_rule image s
rule_of image s contexts = context_rule image s
rule_of image s transitions = transition_rule image s
rule_of image s decisions = decision_rule image s

pub record Wrong : Type 0 where
  pub section : SectionName
  pub index : ℕ
  pub byte : ℕ

-- the first wrong record of one section
unfoldable pub wrong_in : List ℕ → Sections → SectionName → Option Wrong
wrong_in image s name =
    elim (first (λ k. not (right_record (rule_of image s name k))) (section_named s name).records) [
      | none ↦ none
      | some k ↦ some (record { section = name; index = k; byte = Option.get_or (wrong_byte (rule_of image s name k)) 0 })
    ]

-- the first that is there, in the order of the list
unfoldable pub first_wrong_of : List ℕ → Sections → List SectionName → Option Wrong
first_wrong_of image s [] = none
first_wrong_of image s (name ∷ names) = elim (wrong_in image s name) [ none ↦ first_wrong_of image s names | some w ↦ some w ]

abbrev pub image_order : List SectionName
image_order = alphabet ∷ contractions ∷ contexts ∷ transitions ∷ decisions ∷ []

-- the section with this number in that order, counted from 0; from 4 on the decisions
abbrev pub name_at : ℕ → SectionName
name_at i = get_or image_order i decisions

unfoldable pub first_wrong : List ℕ → Sections → Option Wrong
first_wrong image s = first_wrong_of image s image_order
