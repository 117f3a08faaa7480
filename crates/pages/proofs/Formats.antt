-- Laws of the format signs: none is a word, and the blank is none.
use Prim.Native.Nat.{ℕ}
use mathlib.Core.Bool.{Bool, true, false, cond}
use mathlib.Core.List.{List, []}
use mathlib.Core.Option.{none, some}
use mathlib.Core.Path.{◌≡◌, refl}
use native.Mathlib.Omega.{arith}
use lib.Dec.{eqb}
use borrow.Author.Tests.{eqb-true}
use Rattle.table.specs.Numbers.{blank_cell, sign_line_end, sign_empty_line, sign_paragraph, sign_page_end}
use Rattle.pages.specs.Words.{Item, word, line_end, empty_line, paragraph, page_end, format_of}
use Rattle.pages.specs.Place.{cells_in}

-- a format sign is no word
pub format_no_word : (g : ℕ) (cells : List ℕ) → format_of g ≡ some (word cells) → ⊥
unfolding format_of
format_no_word g cells e = go (eqb g sign_line_end) (eqb g sign_empty_line) (eqb g sign_paragraph) (eqb g sign_page_end) e
  where
    go : (a b c d : Bool) → cond a (some line_end) (cond b (some empty_line) (cond c (some paragraph) (cond d (some page_end) none))) ≡ some (word cells) → ⊥
    go true b c d e = let z : ◌≡◌ {A = ℕ} 0 1 = cc in omega arith
    go false true c d e = let z : ◌≡◌ {A = ℕ} 0 1 = cc in omega arith
    go false false true d e = let z : ◌≡◌ {A = ℕ} 0 1 = cc in omega arith
    go false false false true e = let z : ◌≡◌ {A = ℕ} 0 1 = cc in omega arith
    go false false false false e = let z : ◌≡◌ {A = ℕ} 0 1 = cc in omega arith

pub nil_cells : (g : ℕ) (f : Item) → format_of g ≡ some f → cells_in f ≡ []
unfolding cells_in
nil_cells g (word cells) e = absurd (format_no_word g cells e)
nil_cells g line_end e = refl
nil_cells g empty_line e = refl
nil_cells g paragraph e = refl
nil_cells g page_end e = refl

-- the blank is none
pub blank_no_format : (g : ℕ) → eqb g blank_cell ≡ true → format_of g ≡ none
unfolding format_of
blank_no_format g e = rw (eqb-true g blank_cell e)
