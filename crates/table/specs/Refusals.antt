-- 'What comes back', the refusals of a table: what each line says, in the papers' words. Nothing here is a test, a search or a verdict: 'right' is a
-- conjunction of the paper's conditions, of a record and of each of its bytes, and 'first' is a quantifier. proofs/Refusals.antt shows that a refusal is
-- given exactly where its line holds and no earlier one does.
use Rattle.std.specs.Prelude.{ℕ, ◌+◌, ◌-◌, ◌*◌, ◌≤◌, ◌<◌, List, [], ◌∷◌, ◌++◌, ◌⊎◌, ◌≡◌, length, get_or}
use Rattle.table.specs.Numbers.{other_blank, no_cell, sign_line_end, sign_page_end, trailer_size, first_mark_byte, second_mark_byte, first_mark, second_mark, dated_mark, least_classes, most_classes, most_variables, letter_size, least_letters, most_letters, entry_size, dated_entry_size, least_entries, most_entries, context_size, least_contexts, most_contexts, least_columns, most_columns, least_class, symbol_byte, letter_class_byte, letter_sign_byte, length_byte, string_byte, context_byte, entry_class_byte, shift_byte, signs_byte, least_length, most_length, padding, no_context, least_shift, entry_signs, least_symbol, most_symbol, blank, bar, turn_no, turn_yes, turn_other, accepts, rejects, byte_yes, byte_no, dash, number_frame, number_alphabet, number_contractions, number_contexts, number_transitions, number_decisions, number_no_blank, number_grouping, no_place}
use Rattle.table.specs.Search.{list_of}
use Rattle.table.specs.Sections.{byte_at, trailer_at, distance, classes_in, variables_in, sections_in, offset, record_byte, first_year, last_year}
use Rattle.table.specs.Records.{SectionName, alphabet, contractions, contexts, transitions, decisions, section_named}
use Rattle.table.specs.Table.{Letter, table_in}
use Rattle.table.specs.Grouped.{FirstToBreak}
use Rattle.table.specs.Verdict.{strings}
use Rattle.table.specs.Answers.{refusal_number, refusal_place, Verdict, number_in, place_in}
use Rattle.table.specs.declared.Sections.{Sections}

-- `n` is one of `least` to `most`
pub record Between (least most n : ℕ) : Type 0 where
  pub low : least ≤ n
  pub high : n ≤ most

-- ---- 1: image under 14 bytes, or trailer or section lengths wrong

-- a section of so many bytes holds whole records of this size, in the allowed number
pub record WholeRecords (size bytes least most : ℕ) : Type 0 where
  pub number : ℕ
  pub whole : size * number ≡ bytes
  pub allowed : Between least most number

-- where the trailer's last byte is 51 a contraction record has 18 bytes, and where it is 52 it has 22
pub data EntryForm (image : List ℕ) : ℕ → Type 0 where
  old_form : byte_at image (trailer_at image + second_mark_byte) ≡ second_mark → EntryForm image entry_size
  new_form : byte_at image (trailer_at image + second_mark_byte) ≡ dated_mark → EntryForm image dated_entry_size

pub record FrameRight (image : List ℕ) : Type 0 where
  pub trailer_there : trailer_size ≤ length image
  -- bytes 66, and 51 or 52
  pub first_mark_lem : byte_at image (trailer_at image + first_mark_byte) ≡ first_mark
  pub entry_size_lem : ℕ
  pub form : EntryForm image entry_size_lem
  -- number of classes (1..40); number of state variables (0..15)
  pub classes_right : Between least_classes most_classes (classes_in image)
  pub variables_right : variables_in image ≤ most_variables
  -- the first distance equals the length of all five sections; distances never rise
  pub first_distance : distance image 0 ≡ length image - trailer_size
  pub never_rise : (k : ℕ) → k < 4 → distance image (k + 1) ≤ distance image k
  -- each section holds whole records, in the allowed number
  pub alphabet_whole : WholeRecords letter_size (distance image 0 - distance image 1) least_letters most_letters
  pub contractions_whole : WholeRecords entry_size_lem (distance image 1 - distance image 2) least_entries most_entries
  pub contexts_whole : WholeRecords context_size (distance image 2 - distance image 3) least_contexts most_contexts
  pub transitions_whole : WholeRecords (classes_in image) (distance image 3 - distance image 4) (variables_in image) (variables_in image)
  pub decisions_whole : WholeRecords (classes_in image + variables_in image) (distance image 4) least_columns most_columns

abbrev pub Refusal1 : List ℕ → Type 0
Refusal1 image = FrameRight image → ⊥

-- ---- 2, 11, 12, 13, 14: wrong record. What a byte may be

-- from 1 to the number of classes
abbrev pub IsClass : Sections → ℕ → Type 0
IsClass s c = Between least_class s.classes c

-- 0..64 or 99
abbrev pub IsLetterSign : ℕ → Type 0
IsLetterSign g = (g ≤ other_blank) ⊎ (g ≡ no_cell)

-- 0..64, 70..73 or 99
abbrev pub IsEntrySign : ℕ → Type 0
IsEntrySign g = (g ≤ other_blank) ⊎ Between sign_line_end sign_page_end g ⊎ (g ≡ no_cell)

-- R S T -
abbrev pub IsTransition : ℕ → Type 0
IsTransition b = (b ≡ turn_no) ⊎ (b ≡ turn_yes) ⊎ (b ≡ turn_other) ⊎ (b ≡ dash)

-- G F Y N -
abbrev pub IsDecision : ℕ → Type 0
IsDecision b = (b ≡ accepts) ⊎ (b ≡ rejects) ⊎ (b ≡ byte_yes) ⊎ (b ≡ byte_no) ⊎ (b ≡ dash)

-- Y N -
abbrev pub IsCondition : ℕ → Type 0
IsCondition b = (b ≡ byte_yes) ⊎ (b ≡ byte_no) ⊎ (b ≡ dash)

-- 0 none, else its number in the section, from 1
abbrev pub ContextExists : Sections → ℕ → Type 0
ContextExists s c = (c ≡ no_context) ⊎ (n : ℕ) × (n < s.contexts.records) × (c ≡ n + 1)

abbrev pub symbol_of : List ℕ → Sections → ℕ → ℕ
symbol_of image s k = record_byte image s.alphabet k symbol_byte

-- `c` has an alphabet record
pub record InAlphabet (image : List ℕ) (s : Sections) (c : ℕ) : Type 0 where
  pub letter : ℕ
  pub there : letter < s.alphabet.records
  pub symbol : symbol_of image s letter ≡ c

-- ---- 2, 11, 12, 13, 14: wrong record. A right record of each section

pub record RightLetter (image : List ℕ) (s : Sections) (k : ℕ) : Type 0 where
  -- symbol 32..126, not 124, and not that of an earlier record
  pub symbol_right : Between least_symbol most_symbol (symbol_of image s k)
  pub no_bar : symbol_of image s k ≡ bar → ⊥
  pub new : (j : ℕ) → j < k → symbol_of image s j ≡ symbol_of image s k → ⊥
  pub class_right : IsClass s (record_byte image s.alphabet k letter_class_byte)
  pub sign_right : IsLetterSign (record_byte image s.alphabet k letter_sign_byte)

abbrev pub entry_byte : List ℕ → Sections → ℕ → ℕ → ℕ
entry_byte image s k j = record_byte image s.contractions k j

pub record RightEntry (image : List ℕ) (s : Sections) (k : ℕ) : Type 0 where
  -- length 1..10, string characters all in the alphabet, 0 past the length
  pub length_right : Between least_length most_length (entry_byte image s k length_byte)
  pub characters_known : (i : ℕ) → i < entry_byte image s k length_byte → InAlphabet image s (entry_byte image s k (string_byte + i))
  pub past_length : (i : ℕ) → entry_byte image s k length_byte ≤ i → i < most_length → entry_byte image s k (string_byte + i) ≡ padding
  -- a right context that exists, and 0 where the length is 10
  pub context_exists : ContextExists s (entry_byte image s k context_byte)
  pub ten_alone : entry_byte image s k length_byte ≡ most_length → entry_byte image s k context_byte ≡ no_context
  pub class_right : IsClass s (entry_byte image s k entry_class_byte)
  -- shift from 1 to the length
  pub shift_right : Between least_shift (entry_byte image s k length_byte) (entry_byte image s k shift_byte)
  -- entry signs 0..64, 70..73 or 99, and after a 99 only 99
  pub signs_right : (i : ℕ) → i < entry_signs → IsEntrySign (entry_byte image s k (signs_byte + i))
  pub nothing_after :
      (i j : ℕ) → i < j → j < entry_signs → entry_byte image s k (signs_byte + i) ≡ no_cell → entry_byte image s k (signs_byte + j) ≡ no_cell
  -- the first year isn't after the last
  pub years_right : first_year image s.contractions k ≤ last_year image s.contractions k

-- four classes, repeats allowed
pub record RightContext (image : List ℕ) (s : Sections) (k : ℕ) : Type 0 where
  pub classes_right : (j : ℕ) → j < context_size → IsClass s (record_byte image s.contexts k j)

pub record RightTransition (image : List ℕ) (s : Sections) (k : ℕ) : Type 0 where
  pub bytes_right : (j : ℕ) → j < s.classes → IsTransition (record_byte image s.transitions k j)

pub record RightDecision (image : List ℕ) (s : Sections) (k : ℕ) : Type 0 where
  pub bytes_right : (j : ℕ) → j < s.classes → IsDecision (record_byte image s.decisions k j)
  pub conditions_right : (v : ℕ) → v < s.variables → IsCondition (record_byte image s.decisions k (s.classes + v))

abbrev pub RightRecord : List ℕ → Sections → SectionName → ℕ → Type 0
RightRecord image s alphabet k = RightLetter image s k
RightRecord image s contractions k = RightEntry image s k
RightRecord image s contexts k = RightContext image s k
RightRecord image s transitions k = RightTransition image s k
RightRecord image s decisions k = RightDecision image s k

-- record `k` of a section is there
abbrev pub There : Sections → SectionName → ℕ → Type 0
There s name k = k < (section_named s name).records

abbrev pub RecordsRight : List ℕ → Sections → Type 0
RecordsRight image s = (name : SectionName) (k : ℕ) → There s name k → RightRecord image s name k

-- ---- 2, 11, 12, 13, 14: wrong record. What each byte of a right record is, in byte order

abbrev pub letter_bytes : List ℕ → Sections → ℕ → List (Type 0)
letter_bytes image s k =
    -- symbol 32..126, not 124, and not that of an earlier record
    (Between least_symbol most_symbol (symbol_of image s k) × (symbol_of image s k ≡ bar → ⊥) × ((j : ℕ) → j < k → symbol_of image s j ≡ symbol_of image s k → ⊥))
    ∷ IsClass s (record_byte image s.alphabet k letter_class_byte)
    ∷ IsLetterSign (record_byte image s.alphabet k letter_sign_byte)
    ∷ []

-- a character of the alphabet below the length, 0 past it
abbrev pub IsStringByte : List ℕ → Sections → ℕ → ℕ → ℕ → Type 0
IsStringByte image s len i c = (i < len → InAlphabet image s c) × (len ≤ i → c ≡ padding)

-- an entry sign, and after a 99 only 99
abbrev pub IsSignAfter : ℕ → ℕ → Type 0
IsSignAfter before g = IsEntrySign g × (before ≡ no_cell → g ≡ no_cell)

abbrev pub entry_bytes : List ℕ → Sections → ℕ → List (Type 0)
entry_bytes image s k =
    let byte : ℕ → ℕ = entry_byte image s k in
    (Between least_length most_length (byte length_byte) ∷ list_of (λ i. IsStringByte image s (byte length_byte) i (byte (string_byte + i))) most_length)
    -- a right context that exists, and 0 where the length is 10
    ++ (ContextExists s (byte context_byte) × (byte length_byte ≡ most_length → byte context_byte ≡ no_context))
    ∷ IsClass s (byte entry_class_byte)
    ∷ Between least_shift (byte length_byte) (byte shift_byte)
    ∷ IsEntrySign (byte signs_byte)
    ∷ list_of (λ i. IsSignAfter (byte (signs_byte + i)) (byte (signs_byte + 1 + i))) (entry_signs - 1)
    -- at the first-year byte: that year isn't after the last. Without years the record has no such byte, and nothing wrong there
    ++ (first_year image s.contractions k ≤ last_year image s.contractions k)
    ∷ []

abbrev pub bytes_of : List ℕ → Sections → SectionName → ℕ → List (Type 0)
bytes_of image s alphabet k = letter_bytes image s k
bytes_of image s contractions k = entry_bytes image s k
bytes_of image s contexts k = list_of (λ j. IsClass s (record_byte image s.contexts k j)) context_size
bytes_of image s transitions k = list_of (λ j. IsTransition (record_byte image s.transitions k j)) s.classes
bytes_of image s decisions k =
    list_of (λ j. IsDecision (record_byte image s.decisions k j)) s.classes
    ++ list_of (λ v. IsCondition (record_byte image s.decisions k (s.classes + v))) s.variables

-- byte `j` of record `k` of a section is right; nothing is asked beyond the record
abbrev pub RightByte : List ℕ → Sections → SectionName → ℕ → ℕ → Type 0
RightByte image s name k j = get_or (bytes_of image s name k) j (Unit {0})

-- ---- 2, 11, 12, 13, 14: wrong record. The first wrong byte of the first one, in image order

-- how many sections lie before this one
abbrev pub sections_before : SectionName → ℕ
sections_before alphabet = 0
sections_before contractions = 1
sections_before contexts = 2
sections_before transitions = 3
sections_before decisions = 4

-- byte `j` of record `k` of the section is wrong, every byte before it in the record is right, and every record before it in the image is right: those of
-- earlier sections, and the earlier ones of its own
pub record FirstWrong (image : List ℕ) (s : Sections) (name : SectionName) (k j : ℕ) : Type 0 where
  pub there : There s name k
  pub wrong : RightByte image s name k j → ⊥
  pub bytes_right : (i : ℕ) → i < j → RightByte image s name k i
  pub earlier_right : (i : ℕ) → i < k → RightRecord image s name i
  pub sections_right :
      (a : SectionName) → sections_before a < sections_before name → (i : ℕ) → There s a i → RightRecord image s a i

-- the place is the offset of that byte
pub record WrongAt (image : List ℕ) (name : SectionName) (at : ℕ) : Type 0 where
  pub index : ℕ
  pub byte : ℕ
  pub first_wrong_lem : FirstWrong image (sections_in image) name index byte
  pub place : at ≡ offset (section_named (sections_in image) name) index + byte

-- ---- 3: no alphabet record for blank

abbrev pub Refusal3 : List ℕ → Type 0
Refusal3 image = InAlphabet image (sections_in image) blank → ⊥

-- ---- 4: grouping broken

-- the strings of the contraction records, in the order of the section
abbrev pub strings_in : List ℕ → List (List ℕ)
strings_in image = strings (table_in image (sections_in image))

pub record Refusal4 (image : List ℕ) (at : ℕ) : Type 0 where
  pub index : ℕ
  pub first_to_break : FirstToBreak (strings_in image) index
  pub place : at ≡ offset (sections_in image).contractions index

-- ---- The eight lines of a table, in the order in which they are checked

abbrev pub table_lines : ℕ
table_lines = 8

pub data Line (image : List ℕ) : ℕ → ℕ → ℕ → Type 0 where
  -- image under 14 bytes, or trailer or section lengths wrong
  line_1 : Refusal1 image → Line image 1 number_frame no_place
  -- wrong record: the first wrong byte of the first one. 2 alphabet, 11 contractions, 12 contexts, 13 transitions, 14 decisions
  line_2 : {at : ℕ} → WrongAt image alphabet at → Line image 2 number_alphabet at
  line_11 : {at : ℕ} → WrongAt image contractions at → Line image 3 number_contractions at
  line_12 : {at : ℕ} → WrongAt image contexts at → Line image 4 number_contexts at
  line_13 : {at : ℕ} → WrongAt image transitions at → Line image 5 number_transitions at
  line_14 : {at : ℕ} → WrongAt image decisions at → Line image 6 number_decisions at
  -- no alphabet record for blank
  line_3 : Refusal3 image → Line image 7 number_no_blank no_place
  -- grouping broken: offset of the first record that breaks it
  line_4 : {at : ℕ} → Refusal4 image at → Line image 8 number_grouping at

-- ---- The number and the place of a verdict

abbrev pub verdict_number : Verdict → ℕ
verdict_number = number_in refusal_number

abbrev pub verdict_place : Verdict → ℕ
verdict_place = place_in refusal_place

-- ---- The alphabet of a table

-- `c` has an alphabet record, whatever stands for one that is missing
pub record HasLetter (letters : List Letter) (c : ℕ) : Type 0 where
  pub at : ℕ
  pub there : at < length letters
  pub same : (d : Letter) → (get_or letters at d).symbol ≡ c
