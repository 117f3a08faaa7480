-- 'The table image', decoded: the table as lists. Translation is defined over this alone, and no definition above mentions an offset of the image.
use Rattle.std.specs.Prelude.{ℕ, List}
use Rattle.table.specs.Numbers.{symbol_byte, letter_class_byte, letter_sign_byte, length_byte, string_byte, context_byte, entry_class_byte, shift_byte, signs_byte, entry_signs, context_size}
use Rattle.table.specs.Search.{list_of}
use Rattle.table.specs.Sections.{sections_of, record_byte, record_part, first_year, last_year}
use Rattle.table.specs.declared.Sections.{Sections}

-- an alphabet record
pub record Letter : Type 0 where
  pub symbol : ℕ
  pub class : ℕ
  pub sign : ℕ

-- a contraction record; the context is 0 for none, or its number from 1; the entry is in force from its first year to its last
pub record Entry : Type 0 where
  pub string : List ℕ
  pub context : ℕ
  pub class : ℕ
  pub shift : ℕ
  pub signs : List ℕ
  pub first : ℕ
  pub last : ℕ

-- a decision column: a byte for each class, and one for each state variable
pub record Column : Type 0 where
  pub by_class : List ℕ
  pub conditions : List ℕ

-- the whole table. A right context is given by its four classes, and the transition of a state variable by a byte for each class
pub record Table : Type 0 where
  pub letters : List Letter
  pub entries : List Entry
  pub contexts : List (List ℕ)
  pub transitions : List (List ℕ)
  pub decisions : List Column

unfoldable pub letter_at : List ℕ → Sections → ℕ → Letter
letter_at image s k =
    record {
      symbol = record_byte image s.alphabet k symbol_byte;
      class = record_byte image s.alphabet k letter_class_byte;
      sign = record_byte image s.alphabet k letter_sign_byte;
    }

unfoldable pub entry_at : List ℕ → Sections → ℕ → Entry
entry_at image s k =
    record {
      string = record_part image s.contractions k string_byte (record_byte image s.contractions k length_byte);
      context = record_byte image s.contractions k context_byte;
      class = record_byte image s.contractions k entry_class_byte;
      shift = record_byte image s.contractions k shift_byte;
      signs = record_part image s.contractions k signs_byte entry_signs;
      first = first_year image s.contractions k;
      last = last_year image s.contractions k;
    }

unfoldable pub context_at : List ℕ → Sections → ℕ → List ℕ
context_at image s k = record_part image s.contexts k 0 context_size

unfoldable pub transition_at : List ℕ → Sections → ℕ → List ℕ
transition_at image s k = record_part image s.transitions k 0 s.classes

unfoldable pub column_at : List ℕ → Sections → ℕ → Column
column_at image s k =
    record {
      by_class = record_part image s.decisions k 0 s.classes;
      conditions = record_part image s.decisions k s.classes s.variables;
    }

unfoldable pub table_in : List ℕ → Sections → Table
table_in image s =
    record {
      letters = list_of (letter_at image s) s.alphabet.records;
      entries = list_of (entry_at image s) s.contractions.records;
      contexts = list_of (context_at image s) s.contexts.records;
      transitions = list_of (transition_at image s) s.transitions.records;
      decisions = list_of (column_at image s) s.decisions.records;
    }

unfoldable pub table_of : List ℕ → Table
table_of image = table_in image (sections_of image)
