-- What an accepted table is, over its lists alone: the paper's conditions of 'The table image' as the layers above meet them, which know no image and no
-- offset. proofs/Sound.antt shows that the table of every accepted image is so.
use Rattle.std.specs.Prelude.{ℕ, ◌≤◌, ◌<◌, List, ◌≡◌, length, get_or}
use Rattle.table.specs.Numbers.{no_cell, least_classes, most_classes, most_variables, least_letters, most_letters, most_entries, context_size, most_contexts, most_columns, least_class, least_length, most_length, no_context, least_shift, entry_signs, least_symbol, most_symbol, blank, bar, earliest_year, latest_year}
use Rattle.table.specs.Table.{Letter, Entry, Column, Table}
use Rattle.table.specs.Refusals.{HasLetter, Between, IsLetterSign, IsEntrySign, IsTransition, IsDecision, IsCondition}
use Rattle.table.specs.Grouped.{Grouped}
use Rattle.table.specs.Verdict.{strings}

-- whatever stands for an element that is missing, each element is so
abbrev pub EachOf : {A : Type 0} → (A → Type 0) → List A → Type 0
EachOf {A} Right xs = (k : ℕ) (d : A) → k < length xs → Right (get_or xs k d)

pub record SoundLetter (classes : ℕ) (l : Letter) : Type 0 where
  pub symbol_right : Between least_symbol most_symbol l.symbol
  pub no_bar : l.symbol ≡ bar → ⊥
  pub class_right : Between least_class classes l.class
  pub sign_right : IsLetterSign l.sign

pub record SoundEntry (classes contexts : ℕ) (letters : List Letter) (e : Entry) : Type 0 where
  pub length_right : Between least_length most_length (length e.string)
  pub characters_known : EachOf (HasLetter letters) e.string
  pub context_exists : e.context ≤ contexts
  pub ten_alone : length e.string ≡ most_length → e.context ≡ no_context
  pub class_right : Between least_class classes e.class
  pub shift_right : Between least_shift (length e.string) e.shift
  pub four_signs : length e.signs ≡ entry_signs
  pub signs_right : EachOf IsEntrySign e.signs
  pub nothing_after : (i j d : ℕ) → i < j → j < entry_signs → get_or e.signs i d ≡ no_cell → get_or e.signs j d ≡ no_cell
  pub years_right : e.first ≤ e.last

-- in force in every year
pub record Always (e : Entry) : Type 0 where
  pub first_is : e.first ≡ earliest_year
  pub last_is : e.last ≡ latest_year

-- four classes
pub record SoundContext (classes : ℕ) (context : List ℕ) : Type 0 where
  pub four_classes : length context ≡ context_size
  pub classes_right : EachOf (Between least_class classes) context

-- one byte per class
pub record SoundTransition (classes : ℕ) (transition : List ℕ) : Type 0 where
  pub by_class_lem : length transition ≡ classes
  pub bytes_right : EachOf IsTransition transition

-- one byte per class, then one per state variable
pub record SoundColumn (classes variables : ℕ) (column : Column) : Type 0 where
  pub by_class_lem : length column.by_class ≡ classes
  pub by_variable : length column.conditions ≡ variables
  pub bytes_right : EachOf IsDecision column.by_class
  pub conditions_right : EachOf IsCondition column.conditions

pub record Sound (classes variables : ℕ) (table : Table) : Type 0 where
  pub classes_right : Between least_classes most_classes classes
  pub variables_right : variables ≤ most_variables
  pub letters_number : Between least_letters most_letters (length table.letters)
  pub entries_number : length table.entries ≤ most_entries
  pub contexts_number : length table.contexts ≤ most_contexts
  pub transitions_number : length table.transitions ≡ variables
  pub columns_number : length table.decisions ≤ most_columns
  pub letters_right : EachOf (SoundLetter classes) table.letters
  pub symbols_differ :
      (j k : ℕ) (d : Letter) → j < k → k < length table.letters → (get_or table.letters j d).symbol ≡ (get_or table.letters k d).symbol → ⊥
  pub blank_known : HasLetter table.letters blank
  pub entries_right : EachOf (SoundEntry classes (length table.contexts) table.letters) table.entries
  pub contexts_right : EachOf (SoundContext classes) table.contexts
  pub transitions_right : EachOf (SoundTransition classes) table.transitions
  pub columns_right : EachOf (SoundColumn classes variables) table.decisions
  pub grouped : Grouped (strings table)
