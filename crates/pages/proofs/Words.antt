-- From signs to items nothing is lost: the words are the signs that end no word, in order, and the words of the items are their parts. The items of printed
-- signs fit, and they still do where lines are ended by choice.
use Prim.Native.Nat.{ℕ, zero, suc, ◌-◌, ◌≤◌, ◌<◌}
use mathlib.Core.Bool.{Bool, true, false, cond}
use mathlib.Core.List.{List, [], ◌∷◌, ◌++◌, append_assoc, append-nil, flatten, map}
use mathlib.Core.Logic.{◌≢◌}
use mathlib.Core.Option.{Option, none, some}
use mathlib.Core.Path.{◌≡◌, refl, ap}
use native.Mathlib.Omega.{arith}
use lib.Dec.{leb, eqb}
use lib.ListN.{length, get_or, take, drop, length-append, length-drop}
use lib.Seq.{length-take-le}
use borrow.Author.Tests.{ne_eqb, leb-true, leb-false, eqb-false}
use Rattle.table.specs.Numbers.{blank_cell, sign_line_end, sign_empty_line, sign_paragraph, sign_page_end}
use Rattle.table.specs.Cells.{most_cell}
use Rattle.pages.specs.Numbers.{hyphen}
use Rattle.table.specs.Search.{is_there}
use Rattle.table.specs.Lists.{All, empty, ◌and◌}
use Rattle.table.proofs.Lists.{all_append, all_take, all_drop, all_of_places}
use Rattle.table.specs.Printed.{PrintedSign, cell, format}
use Rattle.pages.specs.Words.{Item, word, line_end, empty_line, paragraph, page_end, format_of, closed, gathered, words_of, part_of, cut_within, parts, cut_item, cut, items_of}
use Rattle.pages.specs.Parts.{cuts_of}
use Rattle.pages.specs.Spots.{with_choices}
use Rattle.pages.specs.Lists.{only}
use Rattle.pages.specs.Fitting.{Dotted, WordFits, Fitting, words_in}
use Rattle.pages.specs.Signs.{ends_word, stays_in_word}

-- ---- The words of items

words_append : (xs ys : List Item) → words_in (xs ++ ys) ≡ words_in xs ++ words_in ys
unfolding words_in
words_append [] ys = refl
words_append (word w ∷ xs) ys = ap {B = List (List ℕ)} (λ ws. w ∷ ws) (words_append xs ys)
words_append (line_end ∷ xs) ys = words_append xs ys
words_append (empty_line ∷ xs) ys = words_append xs ys
words_append (paragraph ∷ xs) ys = words_append xs ys
words_append (page_end ∷ xs) ys = words_append xs ys

words_of_words : (ws : List (List ℕ)) → words_in (map word ws) ≡ ws
unfolding words_in
words_of_words [] = refl
words_of_words (w ∷ ws) = ap {B = List (List ℕ)} (λ xs. w ∷ xs) (words_of_words ws)

-- items fit where their words do
words_fit : {W : ℕ} (items : List Item) → Fitting W items → All (WordFits W) (words_in items)
unfolding words_in
words_fit [] empty = empty
words_fit (word w ∷ items) (h and hs) = h and words_fit items hs
words_fit (line_end ∷ items) (h and hs) = words_fit items hs
words_fit (empty_line ∷ items) (h and hs) = words_fit items hs
words_fit (paragraph ∷ items) (h and hs) = words_fit items hs
words_fit (page_end ∷ items) (h and hs) = words_fit items hs

items_fit_by_words : {W : ℕ} (items : List Item) → All (WordFits W) (words_in items) → Fitting W items
unfolding words_in
items_fit_by_words [] hs = empty
items_fit_by_words (word w ∷ items) (h and hs) = h and items_fit_by_words items hs
items_fit_by_words (line_end ∷ items) hs = tt and items_fit_by_words items hs
items_fit_by_words (empty_line ∷ items) hs = tt and items_fit_by_words items hs
items_fit_by_words (paragraph ∷ items) hs = tt and items_fit_by_words items hs
items_fit_by_words (page_end ∷ items) hs = tt and items_fit_by_words items hs

-- ---- Choices

pub choices_keep_words : (choices : List Bool) (items : List Item) → words_in (with_choices choices items) ≡ words_in items
unfolding words_in with_choices
choices_keep_words choices [] = refl
choices_keep_words [] (word w ∷ items) = ap {B = List (List ℕ)} (λ ws. w ∷ ws) (choices_keep_words [] items)
choices_keep_words (true ∷ choices) (word w ∷ items) = ap {B = List (List ℕ)} (λ ws. w ∷ ws) (choices_keep_words choices items)
choices_keep_words (false ∷ choices) (word w ∷ items) = ap {B = List (List ℕ)} (λ ws. w ∷ ws) (choices_keep_words choices items)
choices_keep_words choices (line_end ∷ items) = choices_keep_words choices items
choices_keep_words choices (empty_line ∷ items) = choices_keep_words choices items
choices_keep_words choices (paragraph ∷ items) = choices_keep_words choices items
choices_keep_words choices (page_end ∷ items) = choices_keep_words choices items

pub fitting_with_choices : {W : ℕ} (choices : List Bool) (items : List Item) → Fitting W items → Fitting W (with_choices choices items)
fitting_with_choices choices items fits = items_fit_by_words _ (rw (choices_keep_words choices items) (words_fit items fits))

-- ---- Parts

-- a part has W cells with its hyphen
pub part_length : (W : ℕ) (cells : List ℕ) → 1 ≤ W → W ≤ length cells → length (part_of W cells) ≡ W
part_length W cells wide long =
    let l = length-append (take (W - 1) cells) (hyphen ∷ []) in let t = length-take-le (W - 1) cells (omega arith) in omega arith

-- a word: a cell at least, and no blank
pub record Word (cells : List ℕ) : Type 0 where
  pub least : 1 ≤ length cells
  pub dotted : All Dotted cells

cut_fits : {W : ℕ} → 2 ≤ W → (n : ℕ) (cells : List ℕ) → length cells ≤ n → Word cells → All (WordFits W) (cut_within n W cells)
unfolding cut_within
cut_fits wide zero cells enough h = absurd (omega arith)
cut_fits {W} wide (suc n) cells enough h = go (leb (length cells) W) refl (cut_fits wide n (drop (W - 1) cells))
  where
    go : (b : Bool) → leb (length cells) W ≡ b
        → (length (drop (W - 1) cells) ≤ n → Word (drop (W - 1) cells) → All (WordFits W) (cut_within n W (drop (W - 1) cells)))
        → All (WordFits W) (cut_within (suc n) W cells)
    go true e later =
        rw (e, cut_within) (record { least = h.least; most = leb-true (length cells) W e; dotted = h.dotted } and empty)
    go false e later =
        let over = leb-false (length cells) W e in
        let size = part_length W cells (omega arith) (omega arith) in
        let rest = length-drop (W - 1) cells in
        let hyphened : Dotted hyphen = record { least = omega arith; most = omega arith } in
        let part : WordFits W (part_of W cells) =
        record { least = omega arith; most = omega arith; dotted = all_append (all_take (W - 1) h.dotted) (hyphened and empty) } in
        rw (e, cut_within) (part and later (omega arith) (record { least = omega arith; dotted = all_drop (W - 1) h.dotted }))

-- each part has a cell, and at most W
pub parts_fit : {W : ℕ} → 2 ≤ W → (cells : List ℕ) → 1 ≤ length cells → All Dotted cells → All (WordFits W) (parts W cells)
unfolding parts
parts_fit wide cells least dotted = cut_fits wide (length cells) cells (omega arith) (record { least = least; dotted = dotted })

-- ---- Format signs are no cells

pub format_signs : (g : ℕ) → sign_line_end ≤ g → g ≤ sign_page_end → is_there (format_of g) ≡ true
unfolding format_of
format_signs g l m = go (eqb g sign_line_end) (eqb g sign_empty_line) (eqb g sign_paragraph) (eqb g sign_page_end) refl refl refl refl
  where
    go : (a b c d : Bool) → eqb g sign_line_end ≡ a → eqb g sign_empty_line ≡ b → eqb g sign_paragraph ≡ c → eqb g sign_page_end ≡ d
        → is_there (format_of g) ≡ true
    go true b c d ea eb ec ed = rw ea
    go false true c d ea eb ec ed = rw (ea, eb)
    go false false true d ea eb ec ed = rw (ea, eb, ec)
    go false false false true ea eb ec ed = rw (ea, eb, ec, ed)
    go false false false false ea eb ec ed =
        absurd (omega (arith, eqb-false g sign_line_end ea, eqb-false g sign_empty_line eb, eqb-false g sign_paragraph ec, eqb-false g sign_page_end ed))

pub no_format : (g : ℕ) → g ≤ most_cell → format_of g ≡ none
unfolding format_of
no_format g h =
    let a = ne_eqb g sign_line_end (λ e. omega arith) in
    let b = ne_eqb g sign_empty_line (λ e. omega arith) in
    let c = ne_eqb g sign_paragraph (λ e. omega arith) in
    let d = ne_eqb g sign_page_end (λ e. omega arith) in
    rw (a, b, c, d)

-- a printed sign that is no blank and no format sign is a cell with a dot
no_gap : (g : ℕ) → PrintedSign g → g ≢ blank_cell → format_of g ≡ none → Dotted g
no_gap g (cell h) d k = record { least = omega arith; most = h }
no_gap g (format l m) d k = let t = format_signs g l m in let z : ◌≡◌ {A = ℕ} 0 1 = cc in absurd (omega arith)

-- a format sign adds no word
no_word : (g : ℕ) (f : Item) (items : List Item) → format_of g ≡ some f → words_in (f ∷ items) ≡ words_in items
unfolding format_of words_in
no_word g (word w) items e = go (eqb g sign_line_end) (eqb g sign_empty_line) (eqb g sign_paragraph) (eqb g sign_page_end) e
  where
    found : (a b c d : Bool) → Option Item
    found a b c d = cond a (some line_end) (cond b (some empty_line) (cond c (some paragraph) (cond d (some page_end) none)))

    go : (a b c d : Bool) → found a b c d ≡ some (word w) → words_in (word w ∷ items) ≡ words_in items
    go true b c d e = cc
    go false true c d e = cc
    go false false true d e = cc
    go false false false true e = cc
    go false false false false e = cc
no_word g line_end items e = refl
no_word g empty_line items e = refl
no_word g paragraph items e = refl
no_word g page_end items e = refl

-- ---- Gathering

-- what has been gathered is a word, if there is any: before the words that follow
closed_joins : (cells : List ℕ) (items : List Item) → flatten (words_in (closed cells ++ items)) ≡ cells ++ flatten (words_in items)
unfolding flatten words_in closed
closed_joins [] items = refl
closed_joins (c ∷ cells) items = refl

closed_words : {cells : List ℕ} (items : List Item) → All Dotted cells → All Word (words_in items) → All Word (words_in (closed cells ++ items))
unfolding words_in closed
closed_words items empty hs = hs
closed_words items (◌and◌ {x = c} {xs = cells} d ds) hs = ◌and◌ {x = c ∷ cells} (record { least = omega arith; dotted = d and ds }) hs

gathered_joins : (cells signs : List ℕ) → flatten (words_in (gathered cells signs)) ≡ cells ++ only stays_in_word signs
unfolding flatten words_in gathered only ends_word
gathered_joins cells [] = rw (append-nil (closed cells)) at (closed_joins cells [])
gathered_joins cells (g ∷ signs) = go (eqb g blank_cell) (format_of g) refl refl (gathered_joins [] signs) (gathered_joins (cells ++ g ∷ []) signs)
  where
    go : (b : Bool) (f : Option Item) → eqb g blank_cell ≡ b → format_of g ≡ f → flatten (words_in (gathered [] signs)) ≡ only stays_in_word signs
        → flatten (words_in (gathered (cells ++ g ∷ []) signs)) ≡ cells ++ g ∷ [] ++ only stays_in_word signs
        → flatten (words_in (gathered cells (g ∷ signs))) ≡ cells ++ only stays_in_word (g ∷ signs)
    go true f e k new on = rw (e, gathered, only, closed_joins, new)
    go false none e k new on = rw (e, k, gathered, only, on) (append_assoc cells (g ∷ []) (only stays_in_word signs))
    go false (some f) e k new on = rw (e, k, gathered, only, closed_joins, no_word g f (gathered [] signs) k, new)

gathered_words : {cells signs : List ℕ} → All Dotted cells → All PrintedSign signs → All Word (words_in (gathered cells signs))
unfolding words_in gathered
gathered_words {cells} ds empty = rw (append-nil (closed cells)) at (closed_words [] ds empty)
gathered_words {cells} ds (◌and◌ {x = g} {xs = signs} h hs) =
    go (eqb g blank_cell) (format_of g) refl refl (gathered_words empty hs) (λ d. gathered_words (all_append ds (d and empty)) hs)
  where
    go : (b : Bool) (f : Option Item) → eqb g blank_cell ≡ b → format_of g ≡ f → All Word (words_in (gathered [] signs))
        → (Dotted g → All Word (words_in (gathered (cells ++ g ∷ []) signs))) → All Word (words_in (gathered cells (g ∷ signs)))
    go true f e k new on = rw (e, gathered) (closed_words (gathered [] signs) ds new)
    go false none e k new on = rw (e, k, gathered) (on (no_gap g h (eqb-false g blank_cell e) k))
    go false (some f) e k new on = rw (e, k, gathered) (closed_words (f ∷ gathered [] signs) ds (rw (no_word g f (gathered [] signs) k) new))

-- the words are the signs that end no word, in order
pub words_join : (signs : List ℕ) → flatten (words_in (words_of signs)) ≡ only stays_in_word signs
unfolding words_of
words_join signs = gathered_joins [] signs

-- ---- Items

cut_words : (W : ℕ) (items : List Item) → words_in (cut W items) ≡ flatten (map (parts W) (words_in items))
unfolding words_in cut cut_item flatten
cut_words W [] = refl
cut_words W (word w ∷ items) = rw (words_append (map word (parts W w)) (cut W items), words_of_words, cut_words W items)
cut_words W (line_end ∷ items) = cut_words W items
cut_words W (empty_line ∷ items) = cut_words W items
cut_words W (paragraph ∷ items) = cut_words W items
cut_words W (page_end ∷ items) = cut_words W items

all_parts_fit : {W : ℕ} → 2 ≤ W → {words : List (List ℕ)} → All Word words → All (WordFits W) (flatten (map (parts W) words))
unfolding flatten
all_parts_fit wide empty = empty
all_parts_fit wide (◌and◌ {x = w} h hs) = all_append (parts_fit wide w h.least h.dotted) (all_parts_fit wide hs)

-- the words of the items are the parts of the words
pub items_are_cuts : (W : ℕ) (signs : List ℕ) → words_in (items_of W signs) ≡ flatten (cuts_of W signs)
unfolding items_of cuts_of
items_are_cuts W signs = cut_words W (words_of signs)

-- the words of printed signs have a cell at least, and no blank
pub words_are_words : (signs : List ℕ) → All PrintedSign signs → All Word (words_in (words_of signs))
unfolding words_of
words_are_words signs printed = gathered_words empty printed

-- the items of printed signs fit
pub items_fit : {W : ℕ} → 2 ≤ W → (signs : List ℕ) → ((i : ℕ) → i < length signs → PrintedSign (get_or signs i 0)) → Fitting W (items_of W signs)
unfolding items_of
items_fit {W} wide signs printed =
    items_fit_by_words _ (rw (cut_words W (words_of signs)) (all_parts_fit wide (words_are_words signs (all_of_places signs 0 printed))))
