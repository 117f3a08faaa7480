-- 'An entry is admissible when', in the paper's words and with no test: the string begins the rest, the year is one of the entry's, the right context holds
-- the class after the string, the decision columns, read from the left, accept the class. proofs/Admissible.antt shows that the test `admissible` says the same.
use Rattle.std.specs.Prelude.{ℕ, pred, ◌<◌, Bool, true, false, List, [], ◌∷◌, ◌++◌, ◌≢◌, ◌≡◌, length, get_or}
use Rattle.table.specs.Numbers.{no_context, accepts, rejects, byte_yes, byte_no, dash}
use Rattle.table.specs.Refusals.{Between}
use Rattle.table.specs.Table.{Table, Entry, Column}
use Rattle.translation.specs.Letters.{class_of}
use Rattle.translation.specs.Decide.{States, state, byte_of_class}
use Rattle.translation.specs.declared.Setting.{Setting}

-- Y state yes, N state no, - either
pub record ConditionMet (byte : ℕ) (was : Bool) : Type 0 where
  pub yes_state : byte ≡ byte_yes → was ≡ true
  pub no_state : byte ≡ byte_no → was ≡ false

-- the column's variable conditions all hold
abbrev pub ConditionsMet : Column → States → Type 0
ConditionsMet column states =
    (v : ℕ) → v < length column.conditions → ConditionMet (get_or column.conditions v dash) (state states v)

-- -, the one byte left in a right table
pub record Dash (byte : ℕ) : Type 0 where
  pub not_accepts : byte ≢ accepts
  pub not_rejects : byte ≢ rejects
  pub not_yes : byte ≢ byte_yes
  pub not_no : byte ≢ byte_no

-- the columns, read from the left with the states, accept the class. F rejects, N rejects where the conditions hold, and so does no column left: no
-- constructor accepts there
pub data Accepts (states : States) (c : ℕ) : List Column → Type 0 where
  -- -: next column
  dash_next : {column : Column} {columns : List Column} → Dash (byte_of_class column.by_class c) → Accepts states c columns
      → Accepts states c (column ∷ columns)
  -- G: accept
  G-accepts : {column : Column} {columns : List Column} → byte_of_class column.by_class c ≡ accepts → Accepts states c (column ∷ columns)
  -- Y: accept if the column's variable conditions all hold
  Y-accepts : {column : Column} {columns : List Column} → byte_of_class column.by_class c ≡ byte_yes → ConditionsMet column states
      → Accepts states c (column ∷ columns)
  -- else next
  Y-next : {column : Column} {columns : List Column} → byte_of_class column.by_class c ≡ byte_yes → (ConditionsMet column states → ⊥)
      → Accepts states c columns → Accepts states c (column ∷ columns)
  -- N: reject if they hold, else next
  N-next : {column : Column} {columns : List Column} → byte_of_class column.by_class c ≡ byte_no → (ConditionsMet column states → ⊥)
      → Accepts states c columns → Accepts states c (column ∷ columns)

-- right context number `n` is 0, or holds the class
pub data ContextAllows (contexts : List (List ℕ)) (n c : ℕ) : Type 0 where
  no_context_lem : n ≡ no_context → ContextAllows contexts n c
  holds_class : (i : ℕ) → i < length (get_or contexts (pred n) []) → get_or (get_or contexts (pred n) []) i 0 ≡ c → ContextAllows contexts n c

pub record Admissible (table : Table) (setting : Setting) (states : States) (rest : List ℕ) (e : Entry) : Type 0 where
  -- its whole string begins that rest
  pub after : List ℕ
  pub begins : rest ≡ e.string ++ after
  -- the year isn't outside its years: the first and the last are counted in
  pub in_force_lem : Between e.first e.last setting.year
  -- its right context is 0 or holds the class of the character after the whole string; past the end of text stands the symbol that follows
  pub context :
      ContextAllows table.contexts e.context (class_of table.letters (get_or rest (length e.string) setting.following))
  -- and the decision table accepts its class
  pub accepted : Accepts states e.class table.decisions
