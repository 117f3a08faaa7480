-- The bytes show our layout. The invariant: what the stack has so far is drawn, and the place says where its line stands in the volume. A word goes on the
-- end of that line, so no word before it moves; an empty line at the end shows nothing.
use Prim.Native.Nat.{ℕ, zero, suc, ◌+◌, ◌-◌, ◌≤◌, ◌<◌}
use mathlib.Core.Bool.{Bool}
use mathlib.Core.List.{List, [], ◌∷◌, ◌++◌, append_assoc, append-nil, flatten}
use mathlib.Core.Logic.{◌≢◌}
use mathlib.Core.Path.{◌≡◌, refl, sym, ap, ◌∙◌}
use native.Mathlib.Omega.{arith}
use native.Mathlib.Decide.{ℕ_discrete, dec_lt}
use lib.ListN.{length, get_or, drop, replicate, length-append, length-drop, length-replicate, get_or-replicate, get_or-append}
use lib.Seq.{take-length, take-append-le, drop-append-le, drop_at, get_or_at, get_or-append-add}
use Rattle.table.specs.Numbers.{blank_cell}
use Rattle.table.specs.Lists.{All, empty, ◌and◌}
use Rattle.table.proofs.Lists.{all_append, all_at}
use Rattle.pages.specs.Numbers.{gap_blanks}
use Rattle.pages.specs.Words.{Item}
use Rattle.pages.specs.Place.{start, after_page, after_cells, cells_after, volume}
use Rattle.pages.specs.Pages.{Line}
use Rattle.pages.specs.Permitted.{Spot}
use Rattle.pages.specs.Spots.{spots_from, layout_of, with_choices}
use Rattle.pages.specs.Fitting.{Fitting, words_in}
use Rattle.pages.specs.Drawn.{volume_lines, line_at, word_at, spot_at, StandsIn, LiesIn, WordOrBlank, in_word, is_blank, Follows, on_later_line, after_blank, Drawn, Shows}
use Rattle.pages.specs.declared.Place.{Place}
use Rattle.pages.proofs.Lists.{flatten_append}
use Rattle.pages.proofs.Kept.{Kept, volume_keeps}
use Rattle.pages.proofs.Counts.{cells_after_lem, lines_are_64s}
use Rattle.pages.proofs.Ended.{pages_are_the_bytes}
use Rattle.pages.proofs.Volume.{Stack, unmarked, fed, turned, read, reads, reads_append, reads_cells, nil_of_length, Standing, standing_kept, unmarked_standing, volume_stack, lines_counted}
use Rattle.pages.proofs.Words.{choices_keep_words, fitting_with_choices}
use Rattle.pages.specs.declared.Sheet.{Sheet}

-- ---- Lines by number

-- lines that are the same by number show the same
same_lines : {lines others : List Line} {words : List (List ℕ)} {spots : List Spot} → ((l : ℕ) → line_at others l ≡ line_at lines l)
    → Drawn lines words spots → Drawn others words spots
same_lines {lines} {others} {words} {spots} same d =
    record {
      as_many = d.as_many;
      words_stand = λ i h. rw same (d.words_stand i h);
      in_order_lem = d.in_order_lem;
      others_blank = λ l x h. go l x (d.others_blank l x (rw (same l) at h));
    }
  where
    go : (l x : ℕ) → WordOrBlank lines words spots l x → WordOrBlank others words spots l x
    go l x (in_word r) = in_word r
    go l x (is_blank e) = is_blank (rw (same l) e)

empty_at_end : (lines : List Line) (l : ℕ) → line_at (lines ++ [] ∷ []) l ≡ line_at lines l
empty_at_end [] zero = refl
empty_at_end [] (suc l) = refl
empty_at_end (line ∷ lines) zero = refl
empty_at_end (line ∷ lines) (suc l) = empty_at_end lines l

elsewhere : (lines : List Line) (a b : Line) (l : ℕ) → l ≢ length lines → line_at (lines ++ a ∷ []) l ≡ line_at (lines ++ b ∷ []) l
elsewhere [] a b zero h = absurd (h refl)
elsewhere [] a b (suc l) h = refl
elsewhere (line ∷ lines) a b zero h = refl
elsewhere (line ∷ lines) a b (suc l) h = elsewhere lines a b l (λ e. h (ap suc e))

-- ---- A word after some blanks

-- a longer line still holds the words that it held
longer_holds : {line : Line} {w : List ℕ} {column : ℕ} (cells : List ℕ) → StandsIn line w column → StandsIn (line ++ cells) w column
longer_holds {line} {w} {column} cells r =
    let at = column - length w in
    let reach : length w ≤ length (drop at line) = rw length-drop (omega arith) in
    record {
      least = r.least;
      most = rw length-append (omega arith);
      cells = rw (drop-append-le at line cells (omega arith), take-append-le (length w) (drop at line) cells reach) r.cells;
    }

-- the last word of a line ends where the line does
last_holds : (line : Line) (blanks : ℕ) (w : List ℕ) → StandsIn (line ++ cells_after blanks w) w (length line + blanks + length w)
unfolding cells_after
last_holds line blanks w =
    let front = line ++ replicate blanks blank_cell in
    let at = length line + blanks + length w - length w in
    let size : length front ≡ at = simp (length-append, length-replicate) (omega arith) in
    record {
      least = omega arith;
      most = simp (length-append, length-replicate) (omega arith);
      cells = rw (← (append_assoc line (replicate blanks blank_cell) w), drop_at front w at size) (take-length w);
    }

module _ (lines : List Line) (line : Line) (words : List (List ℕ)) (spots : List Spot) (d : Drawn (lines ++ line ∷ []) words spots)
    (filled : All (λ v. 1 ≤ length v) words) (blanks : ℕ) (w : List ℕ) (apart : 0 < length line → gap_blanks ≤ blanks) (s : Spot)
    (number : s.line ≡ length lines) (column : s.column ≡ length line + blanks + length w) where
  abbrev longer : Line
  longer = line ++ cells_after blanks w

  abbrev before : List Line
  before = lines ++ line ∷ []

  abbrev after : List Line
  after = lines ++ longer ∷ []

  here : (l : ℕ) (x : Line) → l ≡ length lines → line_at (lines ++ x ∷ []) l ≡ x
  here l x e = get_or_at lines x [] [] l (sym e)

  -- an earlier word stays
  stays : (l : ℕ) {v : List ℕ} {c : ℕ} → StandsIn (line_at before l) v c → StandsIn (line_at after l) v c
  stays l {v} {c} r = go (ℕ_discrete l (length lines))
    where
      go : Dec (l ≡ length lines) → StandsIn (line_at after l) v c
      go (yes n) = rw (here l longer n) (longer_holds (cells_after blanks w) (rw (here l line n) at r))
      go (no n) = rw (elsewhere lines longer line l n) r

  -- the words and their spots, by number
  earlier_word : (i : ℕ) → i < length words → word_at (words ++ w ∷ []) i ≡ word_at words i
  earlier_word i h = get_or-append words (w ∷ []) [] i h

  earlier_spot : (i : ℕ) → i < length words → spot_at (spots ++ s ∷ []) i ≡ spot_at spots i
  earlier_spot i h = get_or-append spots (s ∷ []) _ i (rw d.as_many h)

  last_word : word_at (words ++ w ∷ []) (length words) ≡ w
  last_word = get_or_at words w [] [] (length words) refl

  last_spot : spot_at (spots ++ s ∷ []) (length words) ≡ s
  last_spot = get_or_at spots s [] _ (length words) d.as_many

  stand : (i : ℕ) → i < length (words ++ w ∷ [])
      → StandsIn (line_at after (spot_at (spots ++ s ∷ []) i).line) (word_at (words ++ w ∷ []) i) (spot_at (spots ++ s ∷ []) i).column
  stand i h = go (dec_lt i (length words))
    where
      go : Dec (i < length words)
          → StandsIn (line_at after (spot_at (spots ++ s ∷ []) i).line) (word_at (words ++ w ∷ []) i) (spot_at (spots ++ s ∷ []) i).column
      go (yes l) = rw (earlier_word i l, earlier_spot i l) (stays (spot_at spots i).line (d.words_stand i l))
      go (no l) =
          let last : i ≡ length words = omega (arith, simp length-append at h) in
          rw (last, last_word, last_spot, here s.line longer number, column) (last_holds line blanks w)

  -- a line that holds a cell has a number
  held_line : (ls : List Line) (l : ℕ) → 0 < length (line_at ls l) → l < length ls
  held_line [] zero h = absurd (omega arith)
  held_line [] (suc l) h = absurd (omega arith)
  held_line (x ∷ ls) zero h = omega arith
  held_line (x ∷ ls) (suc l) h = let k = held_line ls l h in omega arith

  -- an earlier word ended on an earlier line, or on this one before its end
  follows_earlier : (i : ℕ) → i < length words → Follows (spot_at spots i) s (length w)
  follows_earlier i h = go (dec_lt (spot_at spots i).line (length lines))
    where
      there : StandsIn (line_at before (spot_at spots i).line) (word_at words i) (spot_at spots i).column
      there = d.words_stand i h

      some : 1 ≤ length (word_at words i)
      some = all_at filled i [] h

      number_of : (spot_at spots i).line < length before
      number_of = held_line before (spot_at spots i).line (omega (arith, there.least, there.most, some))

      go : Dec ((spot_at spots i).line < length lines) → Follows (spot_at spots i) s (length w)
      go (yes l) = on_later_line (omega arith)
      go (no l) =
          let k : (spot_at spots i).line < length lines + 1 = rw length-append at number_of in
          let e : (spot_at spots i).line ≡ length lines = omega arith in
          let ends : (spot_at spots i).column ≤ length line = rw (here (spot_at spots i).line line e) at there.most in
          let gap = apart (omega (arith, there.least, some, ends)) in
          after_blank (omega arith) (omega arith)

  order : (i j : ℕ) → i < j → j < length (words ++ w ∷ [])
      → Follows (spot_at (spots ++ s ∷ []) i) (spot_at (spots ++ s ∷ []) j) (length (word_at (words ++ w ∷ []) j))
  order i j h k = go (dec_lt j (length words))
    where
      go : Dec (j < length words) → Follows (spot_at (spots ++ s ∷ []) i) (spot_at (spots ++ s ∷ []) j) (length (word_at (words ++ w ∷ []) j))
      go (yes l) = rw (earlier_word j l, earlier_spot j l, earlier_spot i (omega arith)) (d.in_order_lem i j h l)
      go (no l) =
          let last : j ≡ length words = omega (arith, simp length-append at k) in
          rw (last, last_word, last_spot, earlier_spot i (omega arith)) (follows_earlier i (omega arith))

  lies_as_before : (l x i : ℕ) → LiesIn words spots l x i → LiesIn (words ++ w ∷ []) (spots ++ s ∷ []) l x i
  lies_as_before l x i r =
      let word = earlier_word i r.there in
      let spot = earlier_spot i r.there in
      record {
        there = rw length-append (omega arith);
        line = rw spot r.line;
        from = rw (word, spot) r.from;
        to = rw spot r.to;
      }

  same_cell : (l x : ℕ) → x < length (line_at before l) → get_or (line_at after l) x blank_cell ≡ get_or (line_at before l) x blank_cell
  same_cell l x h = go (ℕ_discrete l (length lines))
    where
      go : Dec (l ≡ length lines) → get_or (line_at after l) x blank_cell ≡ get_or (line_at before l) x blank_cell
      go (yes n) = rw (here l longer n, here l line n) (get_or-append line (cells_after blanks w) blank_cell x (rw (here l line n) at h))
      go (no n) = rw (elsewhere lines longer line l n)

  -- a column of the longer line past the end of the line is one of the blanks, or lies in the word
  new_cell : (l x : ℕ) → l ≡ length lines → length line ≤ x → x < length longer → WordOrBlank after (words ++ w ∷ []) (spots ++ s ∷ []) l x
  unfolding cells_after
  new_cell l x n past h = go (dec_lt x (length line + blanks))
    where
      k : ℕ
      k = x - length line

      go : Dec (x < length line + blanks) → WordOrBlank after (words ++ w ∷ []) (spots ++ s ∷ []) l x
      go (yes b) =
          let at : x ≡ length line + k = omega arith in
          let past_line = get_or-append-add line (cells_after blanks w) k blank_cell in
          let in_blanks = get_or-append (replicate blanks blank_cell) w blank_cell k (rw length-replicate (omega arith)) in
          is_blank (rw (here l longer n, at, past_line, in_blanks) (get_or-replicate blanks k blank_cell blank_cell (omega arith)))
      go (no b) =
          let size : length longer ≡ length line + (blanks + length w) = simp (length-append, length-replicate) in
          in_word {i = length words}
          record {
            there = rw length-append (omega arith);
            line = rw last_spot (omega arith);
            from = rw (last_word, last_spot) (omega arith);
            to = rw last_spot (omega arith);
          }

  blank : (l x : ℕ) → x < length (line_at after l) → WordOrBlank after (words ++ w ∷ []) (spots ++ s ∷ []) l x
  blank l x h = go (dec_lt x (length (line_at before l))) (ℕ_discrete l (length lines))
    where
      kept : x < length (line_at before l) → WordOrBlank before words spots l x → WordOrBlank after (words ++ w ∷ []) (spots ++ s ∷ []) l x
      kept b (in_word {i} r) = in_word (lies_as_before l x i r)
      kept b (is_blank e) = is_blank (same_cell l x b ∙ e)

      go : Dec (x < length (line_at before l)) → Dec (l ≡ length lines) → WordOrBlank after (words ++ w ∷ []) (spots ++ s ∷ []) l x
      go (yes b) n = kept b (d.others_blank l x b)
      go (no b) (yes n) =
          let on : ¬ (x < length line) = rw (here l line n) at b in
          new_cell l x n (omega arith) (rw (here l longer n) at h)
      go (no b) (no n) = absurd (b (rw (elsewhere lines longer line l n) at h))

  drawn_on : Drawn after (words ++ w ∷ []) (spots ++ s ∷ [])
  drawn_on =
      record {
        as_many = let e = d.as_many in simp length-append (omega arith);
        words_stand = stand;
        in_order_lem = order;
        others_blank = blank;
      }

-- ---- The whole volume

-- the lines of a stack: those of its pages, those of the page that is being filled, and the line
abbrev stack_lines : Stack → List Line
stack_lines s = flatten s.pages ++ s.lines ++ s.line ∷ []

module _ (s : Stack) (words : List (List ℕ)) (spots : List Spot) (d : Drawn (stack_lines s) words spots) where
  fed_drawn : Drawn (stack_lines (fed s)) words spots
  fed_drawn = rw (← (append_assoc (flatten s.pages) s.lines (s.line ∷ []))) (same_lines (empty_at_end (stack_lines s)) d)

  turned_drawn : s.line ≡ [] → Drawn (stack_lines (turned s)) words spots
  unfolding flatten
  turned_drawn nothing = rw (flatten_append s.pages (s.lines ∷ [])) (simp append-nil (rw nothing at d))

record Placed (sheet : Sheet) (bytes : List ℕ) (words : List (List ℕ)) (spots : List Spot) (p : Place) : Type 0 where
  standing : Standing sheet bytes (reads unmarked bytes) p
  filled : All (λ v. 1 ≤ length v) words
  drawn : Drawn (stack_lines (reads unmarked bytes)) words spots

placed_kept : (sheet : Sheet) → Kept sheet (Placed sheet)
unfolding reads read flatten after_page after_cells
placed_kept sheet =
    record {
      cells = λ bytes words spots p blanks w fits h apart r.
          let s = reads unmarked bytes in
          let st = r.standing in
          record {
            standing = (standing_kept sheet).cells bytes words spots p blanks w fits h apart r.standing;
            filled = all_append r.filled (fits.least and empty);
            drawn =
                let on = drawn_on (flatten s.pages ++ s.lines) s.line words spots r.drawn r.filled blanks w (λ c. apart (omega arith)) in
                rw (reads_append unmarked bytes, reads_cells s (cells_after_lem blanks fits)) (on _ (rw length-append (omega arith)) (omega arith));
          };
      line = λ bytes words spots p h r.
          record {
            standing = (standing_kept sheet).line bytes words spots p h r.standing;
            filled = r.filled;
            drawn = rw (reads_append unmarked bytes) (fed_drawn (reads unmarked bytes) words spots r.drawn);
          };
      page = λ bytes words spots p c l m r.
          let s = reads unmarked bytes in
          let st = r.standing in
          record {
            standing = (standing_kept sheet).page bytes words spots p c l m r.standing;
            filled = r.filled;
            drawn = rw (reads_append unmarked bytes) (turned_drawn s words spots r.drawn (nil_of_length s.line (omega arith)));
          };
      opens = λ bytes words spots p r.
          record { standing = (standing_kept sheet).opens bytes words spots p r.standing; filled = r.filled; drawn = r.drawn };
    }

nothing_drawn : Drawn ([] ∷ []) [] []
nothing_drawn =
    record {
      as_many = refl;
      words_stand = λ i h. absurd (omega arith);
      in_order_lem = λ i j h k. absurd (omega arith);
      others_blank = λ l x h. is_blank (none l x h);
    }
  where
    none : (l x : ℕ) → x < length (line_at ([] ∷ []) l) → get_or (line_at ([] ∷ []) l) x blank_cell ≡ blank_cell
    none zero x h = refl
    none (suc l) x h = refl

-- our layout's spots are those of the bytes: in the lines of the volume the i-th word stands where the i-th spot says, and every other cell is blank
pub spots_are_the_bytes : (sheet : Sheet) (items : List Item) → Fitting sheet.width items → 0 < sheet.length
    → Drawn (volume_lines (volume sheet items)) (words_in items) (spots_from sheet start items)
unfolding reads flatten
spots_are_the_bytes sheet items fits room =
    let placed = volume_keeps sheet _ (placed_kept sheet) items fits room (record { standing = unmarked_standing sheet; filled = empty; drawn = nothing_drawn }) in
    same_lines (λ l. sym (empty_at_end (volume_lines (volume sheet items)) l)) (rw (volume_stack sheet items fits room, append-nil) at placed.drawn)

-- the bytes show our layout: its spots, its lines, and the lines of each of its pages
pub bytes_show_the_layout : (sheet : Sheet) (items : List Item) → Fitting sheet.width items → 0 < sheet.length
    → Shows (volume sheet items) (words_in items) (layout_of sheet items)
unfolding layout_of
bytes_show_the_layout sheet items fits room =
    record {
      drawn = spots_are_the_bytes sheet items fits room;
      lines = lines_counted sheet items fits room ∙ sym (lines_are_64s sheet items fits room);
      pages = pages_are_the_bytes sheet items fits room;
    }

-- so they do of every layout by choices, of the same words
pub choices_are_the_bytes : (sheet : Sheet) (items : List Item) → Fitting sheet.width items → 0 < sheet.length → (choices : List Bool)
    → let chosen = with_choices choices items in Shows (volume sheet chosen) (words_in items) (layout_of sheet chosen)
choices_are_the_bytes sheet items fits room choices =
    rw (choices_keep_words choices items) at (bytes_show_the_layout sheet (with_choices choices items) (fitting_with_choices choices items fits) room)
