-- The words and format signs that signs make are what the paper's words say, and only they are: a run that ends no word is gathered whole, and what
-- ends it closes the word.
use Prim.Native.Nat.{ℕ, ◌≤◌}
use mathlib.Core.Bool.{Bool, true, false, cond}
use mathlib.Core.List.{List, [], ◌∷◌, ◌++◌, append_assoc, append-nil}
use mathlib.Core.Logic.{◌≢◌}
use mathlib.Core.Option.{Option, none, some}
use mathlib.Core.Path.{◌≡◌, refl, sym, ◌∙◌, ap, subst}
use native.Mathlib.Omega.{arith}
use lib.Dec.{eqb}
use lib.ListN.{length}
use borrow.Author.Tests.{eqb-true, eqb-false, eq-eqb, ne_eqb}
use Rattle.table.specs.Numbers.{blank_cell, sign_line_end, sign_empty_line, sign_paragraph, sign_page_end}
use Rattle.table.specs.Lists.{All, empty, ◌and◌}
use Rattle.table.proofs.Lists.{all_append}
use Rattle.pages.specs.Words.{Item, word, line_end, empty_line, paragraph, page_end, format_of, closed, gathered, words_of}
use Rattle.pages.specs.Gathered.{FormatSign, is_70, is_71, is_72, is_73, EndsWord, a_blank, a_format, WordEnds, at_end, at_sign, Gathers, nothing, gap, sign, run}

-- ---- The format signs

format_of_lem : {g : ℕ} {f : Item} → FormatSign g f → format_of g ≡ some f
unfolding format_of
format_of_lem (is_70 e) = rw e
format_of_lem (is_71 e) = rw e
format_of_lem (is_72 e) = rw e
format_of_lem (is_73 e) = rw e

format_is : (g : ℕ) (f : Item) → format_of g ≡ some f → FormatSign g f
unfolding format_of
format_is g f found = go (eqb g sign_line_end) (eqb g sign_empty_line) (eqb g sign_paragraph) (eqb g sign_page_end) refl refl refl refl found
  where
    go : (a b c d : Bool) → eqb g sign_line_end ≡ a → eqb g sign_empty_line ≡ b → eqb g sign_paragraph ≡ c → eqb g sign_page_end ≡ d
        → cond a (some line_end) (cond b (some empty_line) (cond c (some paragraph) (cond d (some page_end) none))) ≡ some f → FormatSign g f
    go true b c d ea eb ec ed k = subst (FormatSign g) (cc) (is_70 (eqb-true g sign_line_end ea))
    go false true c d ea eb ec ed k = subst (FormatSign g) (cc) (is_71 (eqb-true g sign_empty_line eb))
    go false false true d ea eb ec ed k = subst (FormatSign g) (cc) (is_72 (eqb-true g sign_paragraph ec))
    go false false false true ea eb ec ed k = subst (FormatSign g) (cc) (is_73 (eqb-true g sign_page_end ed))
    go false false false false ea eb ec ed k = let z : ◌≡◌ {A = ℕ} 0 1 = cc in absurd (omega arith)

format_no_blank : {g : ℕ} {f : Item} → FormatSign g f → g ≢ blank_cell
format_no_blank (is_70 e) b = omega arith
format_no_blank (is_71 e) b = omega arith
format_no_blank (is_72 e) b = omega arith
format_no_blank (is_73 e) b = omega arith

no_format_of : (g : ℕ) → (EndsWord g → ⊥) → format_of g ≡ none
no_format_of g stays = go (format_of g) refl
  where
    go : (o : Option Item) → format_of g ≡ o → format_of g ≡ none
    go none e = e
    go (some f) e = absurd (stays (a_format (format_is g f e)))

-- ---- The items are so

-- what has been gathered is a run, if there is any
closed_run : {cells signs : List ℕ} {items : List Item} → All (λ g. EndsWord g → ⊥) cells → WordEnds signs → Gathers signs items
    → Gathers (cells ++ signs) (closed cells ++ items)
unfolding closed
closed_run empty ends later = later
closed_run (◌and◌ {x = c} {xs = cells} h hs) ends later = run {cells = c ∷ cells} (omega arith) (h and hs) ends later

gathered_so : (cells signs : List ℕ) → All (λ g. EndsWord g → ⊥) cells → Gathers (cells ++ signs) (gathered cells signs)
unfolding gathered
gathered_so cells [] stay = rw (append-nil (closed cells)) at (closed_run stay at_end nothing)
gathered_so cells (g ∷ signs) stay =
    go (eqb g blank_cell) (format_of g) refl refl (gathered_so [] signs empty)
    (λ h. gathered_so (cells ++ g ∷ []) signs (all_append stay (h and empty)))
  where
    go : (b : Bool) (o : Option Item) → eqb g blank_cell ≡ b → format_of g ≡ o → Gathers signs (gathered [] signs)
        → ((EndsWord g → ⊥) → Gathers ((cells ++ g ∷ []) ++ signs) (gathered (cells ++ g ∷ []) signs))
        → Gathers (cells ++ g ∷ signs) (gathered cells (g ∷ signs))
    go true o e k new on =
        let b = eqb-true g blank_cell e in rw (e, gathered) (closed_run stay (at_sign (a_blank b)) (gap b new))
    go false none e k new on = rw (e, k, gathered) (rw (append_assoc cells (g ∷ []) signs) at (on stays))
      where
        stays : EndsWord g → ⊥
        stays (a_blank b) = eqb-false g blank_cell e b
        stays (a_format f) = let z : none ≡ some _ = sym k ∙ format_of_lem f in let y : ◌≡◌ {A = ℕ} 0 1 = cc in omega arith
    go false (some f) e k new on =
        let s = format_is g f k in rw (e, k, gathered) (closed_run stay (at_sign (a_format s)) (sign s new))

-- words and format signs are as the paper says
pub words_as_written : (signs : List ℕ) → Gathers signs (words_of signs)
unfolding words_of
words_as_written signs = gathered_so [] signs empty

-- ---- Nothing else is

run_gathered : (cells : List ℕ) {more : List ℕ} (signs : List ℕ) → All (λ g. EndsWord g → ⊥) more
    → gathered cells (more ++ signs) ≡ gathered (cells ++ more) signs
unfolding gathered
run_gathered cells signs empty = rw (append-nil cells)
run_gathered cells signs (◌and◌ {x = g} {xs = more} h hs) =
    rw (ne_eqb g blank_cell (λ e. h (a_blank e)), no_format_of g h, gathered)
    (run_gathered (cells ++ g ∷ []) signs hs ∙ ap (λ (l : List ℕ). gathered l signs) (append_assoc cells (g ∷ []) more))

end_gathered : (cells : List ℕ) {signs : List ℕ} → WordEnds signs → gathered cells signs ≡ closed cells ++ gathered [] signs
unfolding gathered closed
end_gathered cells at_end = sym (append-nil (closed cells))
end_gathered cells (at_sign {g = g} (a_blank e)) = rw (eq-eqb g blank_cell e, gathered)
end_gathered cells (at_sign {g = g} (a_format s)) = rw (ne_eqb g blank_cell (format_no_blank s), format_of_lem s, gathered)

pub closed_word : (cells : List ℕ) (items : List Item) → 1 ≤ length cells → closed cells ++ items ≡ word cells ∷ items
unfolding closed
closed_word [] items least = absurd (omega arith)
closed_word (c ∷ cells) items least = refl

gathers_is : {signs : List ℕ} {items : List Item} → Gathers signs items → gathered [] signs ≡ items
unfolding gathered closed
gathers_is nothing = refl
gathers_is (gap {g = g} e later) = rw (eq-eqb g blank_cell e, gathered) (gathers_is later)
gathers_is (sign {g = g} {f = f} s later) =
    rw (ne_eqb g blank_cell (format_no_blank s), format_of_lem s, gathered) (ap (λ (l : List Item). f ∷ l) (gathers_is later))
gathers_is (run {cells = cells} {signs = signs} {items = items} least stay ends later) =
    run_gathered [] signs stay ∙ end_gathered cells ends ∙ ap (λ (l : List Item). closed cells ++ l) (gathers_is later) ∙ closed_word cells items least

-- signs make no other items
pub words_determined : {signs : List ℕ} {items others : List Item} → Gathers signs items → Gathers signs others → items ≡ others
words_determined a b = sym (gathers_is a) ∙ gathers_is b
