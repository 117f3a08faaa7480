-- 'Signs 0 and 64 end a word, as do 70..73; a run of blanks is one gap', in the paper's words and with no gathering: a word is a run of cells that
-- nothing lengthens. Of the signs that pieces print 64 has become 0. proofs/Gathered.antt shows that `words_of` makes these items of the signs, and that
-- there are no others.
use Rattle.std.specs.Prelude.{ℕ, ◌≤◌, List, [], ◌∷◌, ◌++◌, ◌≡◌, length}
use Rattle.table.specs.Numbers.{blank_cell, sign_line_end, sign_empty_line, sign_paragraph, sign_page_end}
use Rattle.table.specs.Lists.{All}
use Rattle.pages.specs.Words.{Item, word, line_end, empty_line, paragraph, page_end}

-- 70, 71, 72 and 73, each with its item
pub data FormatSign (g : ℕ) : Item → Type 0 where
  is_70 : g ≡ sign_line_end → FormatSign g line_end
  is_71 : g ≡ sign_empty_line → FormatSign g empty_line
  is_72 : g ≡ sign_paragraph → FormatSign g paragraph
  is_73 : g ≡ sign_page_end → FormatSign g page_end

-- signs 0 and 64 end a word, as do 70..73
pub data EndsWord (g : ℕ) : Type 0 where
  a_blank : g ≡ blank_cell → EndsWord g
  a_format : {f : Item} → FormatSign g f → EndsWord g

-- no cell of a word comes next: the signs are at their end, or one comes that ends a word
pub data WordEnds : List ℕ → Type 0 where
  at_end : WordEnds []
  at_sign : {g : ℕ} {signs : List ℕ} → EndsWord g → WordEnds (g ∷ signs)

pub data Gathers : List ℕ → List Item → Type 0 where
  nothing : Gathers [] []
  -- a blank is no item, so that a run of blanks is one gap
  gap : {g : ℕ} {signs : List ℕ} {items : List Item} → g ≡ blank_cell → Gathers signs items → Gathers (g ∷ signs) items
  -- a format sign is an item
  sign : {g : ℕ} {f : Item} {signs : List ℕ} {items : List Item} → FormatSign g f → Gathers signs items → Gathers (g ∷ signs) (f ∷ items)
  -- and so is a run of one sign or more that end no word, up to where the word ends
  run : {cells signs : List ℕ} {items : List Item} → 1 ≤ length cells → All (λ g. EndsWord g → ⊥) cells → WordEnds signs → Gathers signs items
      → Gathers (cells ++ signs) (word cells ∷ items)
