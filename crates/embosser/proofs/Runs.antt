-- Which output bytes a run goes through from between two pages to between two pages: just those of right pages. And from wherever a run has come, some bytes
-- lead between two pages: so what it has passed can be continued. The idea: a spot knows of the line and the page that are being read what a step asks for.
use Prim.Native.Nat.{ℕ, suc, ◌+◌, ◌≤◌, ◌<◌}
use mathlib.Core.Bool.{Bool, true, false, false≢true}
use mathlib.Core.List.{List, [], ◌∷◌, ◌++◌, append_assoc}
use mathlib.Core.Path.{◌≡◌, refl, sym, ◌∙◌, ap, subst}
use native.Mathlib.Decide.{dec_lt}
use native.Mathlib.Omega.{arith}
use lib.ListN.{length, length-append}
use lib.Seq.{get_or-append_seam}
use borrow.Author.Tests.{eq-eqb, ne_eqb}
use Rattle.table.specs.Numbers.{blank_cell}
use Rattle.table.specs.Lists.{All, empty, ◌and◌}
use Rattle.table.proofs.Lists.{all_append}
use Rattle.table.proofs.Tests.{tells_eq, decided_by}
use Rattle.pages.specs.Numbers.{line_mark, page_mark}
use Rattle.pages.specs.Pages.{Line, Page, bytes_of_lines, bytes_of_pages}
use Rattle.pages.specs.Right.{IsCell, LineRight, PageRight}
use Rattle.pages.specs.declared.Sheet.{Sheet}
use Rattle.pages.proofs.Volume.{bytes_of_lines_lem, nil_of_length}
use Rattle.embosser.specs.Judging.{start, cells_from, after_cell, after_line, stepped}
use Rattle.embosser.specs.declared.Spot.{Spot}
use Rattle.std.specs.Prelude.{None}
use Rattle.embosser.proofs.Steps.{cells_from_bounds, Steps, cell, line_end, page_end, wrong_told, one_step, step_marks, Fit, step_fits}

module _ (sheet : Sheet) where
  -- ---- A run of steps

  pub data Runs : Spot → List ℕ → Spot → Type 0 where
    ended : {s : Spot} → Runs s [] s
    further : {s : Spot} {byte : ℕ} {t u : Spot} {bytes : List ℕ} → Steps sheet s byte t → Runs t bytes u → Runs s (byte ∷ bytes) u

  pub runs_on : {s t u : Spot} {xs ys : List ℕ} → Runs s xs t → Runs t ys u → Runs s (xs ++ ys) u
  runs_on ended r = r
  runs_on (further step more) r = further step (runs_on more r)

  -- where a run passes between two lists
  pub record Passes (s : Spot) (xs ys : List ℕ) (u : Spot) : Type 0 where
    pub between : Spot
    pub to : Runs s xs between
    pub on : Runs between ys u

  pub runs_apart : {s u : Spot} (xs : List ℕ) {ys : List ℕ} → Runs s (xs ++ ys) u → Passes s xs ys u
  runs_apart {s} [] r = record { between = s; to = ended; on = r }
  runs_apart (x ∷ xs) (further step more) = let p = runs_apart xs more in record { between = p.between; to = further step p.to; on = p.on }

  pub one_run : {s t u : Spot} {bytes : List ℕ} → Runs s bytes t → Runs s bytes u → t ≡ u
  one_run ended ended = refl
  one_run {u} (further {bytes} a p) (further b q) = one_run p (subst (λ (x : Spot). Runs x bytes u) (sym (one_step sheet a b)) q)

  -- no run goes on at a byte that is found wrong
  only_step : {s t : Spot} {byte : ℕ} → Runs s (byte ∷ []) t → Steps sheet s byte t
  only_step (further step ended) = step

  pub wrong_ends : {s t u : Spot} {xs : List ℕ} (byte : ℕ) → Runs s xs t → stepped sheet t byte ≡ None → Runs s (xs ++ byte ∷ []) u → ⊥
  wrong_ends {u} {xs} byte run wrong more =
      let p = runs_apart xs more in
      wrong_told sheet wrong (subst (λ (x : Spot). Steps sheet x byte u) (one_run p.to run) (only_step p.on))

  pub run_marks : {s t : Spot} {bytes : List ℕ} → Runs s bytes t → All (λ (b : ℕ). b ≤ page_mark) bytes
  run_marks ended = empty
  run_marks (further step more) = step_marks sheet step and run_marks more

  -- ---- A run goes through right pages

  -- the room that a cell asks for is there where the line has so many cells left, and doesn't end in a blank
  room_for : (c : ℕ) (cells : List ℕ) → ((front : Line) → c ∷ cells ≡ front ++ blank_cell ∷ [] → ⊥) → cells_from c ≤ suc (length cells)
  unfolding cells_from
  room_for c cells no_trailing = go (decided_by (tells_eq c blank_cell)) cells no_trailing
    where
      go : Dec (c ≡ blank_cell) → (cells : List ℕ) → ((front : Line) → c ∷ cells ≡ front ++ blank_cell ∷ [] → ⊥) → cells_from c ≤ suc (length cells)
      go (no d) cells h = rw (ne_eqb c blank_cell d) (omega arith)
      go (yes e) [] h = absurd (h [] (ap (λ (x : ℕ). x ∷ []) e))
      go (yes e) (x ∷ cells) h = rw (eq-eqb c blank_cell e) (omega arith)

  -- the cells that are left of a line, and its end
  line_runs : (s : Spot) (cells : Line) → s.line < sheet.length → s.column + length cells ≤ sheet.width → All IsCell cells → (cells ≡ [] → s.blank ≡ false)
      → ((front : Line) → cells ≡ front ++ blank_cell ∷ [] → ⊥) → Runs s (cells ++ line_mark ∷ []) (after_line s)
  line_runs s [] room fits empty not_blank no_trailing = further (line_end refl room (not_blank refl)) ended
  line_runs s (c ∷ cells) room fits (h and hs) not_blank no_trailing =
      let here = room_for c cells no_trailing in
      let wide : s.column + cells_from c ≤ sheet.width = omega arith in
      further {s = s} (cell h room wide)
      (line_runs (after_cell s c) cells room (omega arith) hs (λ e. ne_eqb c blank_cell (λ z. no_trailing [] (ap (λ (x : ℕ). x ∷ cells) z ∙ ap (λ (xs : Line). blank_cell ∷ xs) e)))
      (λ front e. no_trailing (c ∷ front) (ap (λ (xs : Line). c ∷ xs) e)))

  -- between two lines of a page, of which so many have ended
  abbrev below : ℕ → Spot
  below n = record { column = 0; blank = false; line = n }

  lines_run : (n : ℕ) {lines : List Line} → All (LineRight sheet.width) lines → n + length lines ≤ sheet.length
      → Runs (below n) (bytes_of_lines lines) (below (n + length lines))
  unfolding bytes_of_lines
  lines_run n empty most = subst (λ (m : ℕ). Runs (below n) [] (below m)) (omega arith) ended
  lines_run n (◌and◌ {x = line} {xs = lines} right rights) most =
      let this = line_runs (below n) line (omega arith) (let w = right.width in omega arith) right.cells (λ e. refl) right.no_trailing_blank in
      let others = lines_run (n + 1) rights (omega arith) in
      let both = runs_on this others in
      subst (λ (m : ℕ). Runs (below n) (line ++ line_mark ∷ bytes_of_lines lines) (below m)) (omega arith)
      (subst (λ (xs : List ℕ). Runs (below n) xs (below (n + 1 + length lines))) (append_assoc line (line_mark ∷ []) (bytes_of_lines lines)) both)

  pub pages_run : {pages : List Page} → All (PageRight sheet) pages → Runs start (bytes_of_pages pages) start
  unfolding bytes_of_pages
  pages_run empty = ended
  pages_run (◌and◌ {x = page} {xs = pages} right rights) =
      let least = right.least in
      let most = right.most in
      let lines = lines_run 0 right.lines (omega arith) in
      runs_on lines (further (page_end refl refl (omega arith)) (pages_run rights))

  -- ---- Only through right pages

  -- the page has these lines, and the line these cells: what a spot knows of them
  record Standing (s : Spot) (lines : List Line) (line : Line) : Type 0 where
    count : s.line ≡ length lines
    column : s.column ≡ length line
    most : length lines ≤ sheet.length
    rights : All (LineRight sheet.width) lines
    width : length line ≤ sheet.width
    cells : All IsCell line
    blank : (front : Line) → line ≡ front ++ blank_cell ∷ [] → s.blank ≡ true

  -- nothing has been read of the next page
  standing_start : Standing start [] []
  standing_start =
      record {
        count = refl;
        column = refl;
        most = omega arith;
        rights = empty;
        width = omega arith;
        cells = empty;
        blank = λ front e. absurd (let l = ap length e in omega (arith, simp length-append at l));
      }

  last_same : (xs ys : Line) (x y : ℕ) → xs ++ x ∷ [] ≡ ys ++ y ∷ [] → x ≡ y
  last_same xs ys x y e =
      let l : length xs + 1 ≡ length ys + 1 = simp length-append at (ap length e) in
      let n : length xs ≡ length ys = omega arith in
      sym (get_or-append_seam xs x [] 0) ∙ rw (e, n) (get_or-append_seam ys y [] 0)

  standing_cell : {s : Spot} {lines : List Line} {line : Line} (c : ℕ) → Standing s lines line → c ≤ 63 → s.column + cells_from c ≤ sheet.width
      → Standing (after_cell s c) lines (line ++ c ∷ [])
  standing_cell {line} c st h fits =
      let n = length-append line (c ∷ []) in
      let col = st.column in
      let one = (cells_from_bounds c).low in
      record {
        count = st.count;
        column = omega arith;
        most = st.most;
        rights = st.rights;
        width = omega arith;
        cells = all_append st.cells (h and empty);
        blank = λ front e. eq-eqb c blank_cell (last_same line front c blank_cell e);
      }

  standing_line : {s : Spot} {lines : List Line} {line : Line} → Standing s lines line → s.line < sheet.length → s.blank ≡ false
      → Standing (after_line s) (lines ++ line ∷ []) []
  standing_line {lines} {line} st room not_blank =
      let n = length-append lines (line ∷ []) in
      let c = st.count in
      record {
        count = omega arith;
        column = refl;
        most = omega arith;
        rights =
            all_append st.rights
            (record { width = st.width; cells = st.cells; no_trailing_blank = λ front e. false≢true (sym not_blank ∙ st.blank front e) } and empty);
        width = omega arith;
        cells = empty;
        blank = standing_start.blank;
      }

  -- between two pages
  abbrev pub Between-pages : Spot → Type 0
  Between-pages s = (s.column ≡ 0) × (s.line ≡ 0)

  -- bytes that are those of right pages
  pub record Made (bytes : List ℕ) : Type 0 where
    pub pages : List Page
    pub right : All (PageRight sheet) pages
    pub is : bytes ≡ bytes_of_pages pages

  made_from : {s t : Spot} {bytes : List ℕ} → Runs s bytes t → Between-pages t → (lines : List Line) (line : Line) → Standing s lines line
      → Made (bytes_of_lines lines ++ (line ++ bytes))
  unfolding bytes_of_lines bytes_of_pages
  made_from ended done lines line st =
      let no_lines : lines ≡ [] = nil_of_length lines (sym st.count ∙ done.1) in
      let no_cells : line ≡ [] = nil_of_length line (sym st.column ∙ done.0) in
      rw (no_lines, no_cells) (record { pages = []; right = empty; is = refl })
  made_from (further {byte} {bytes} (cell h room fits) more) done lines line st =
      subst Made (ap (λ (xs : List ℕ). bytes_of_lines lines ++ xs) (append_assoc line (byte ∷ []) bytes))
      (made_from more done lines (line ++ byte ∷ []) (standing_cell byte st h fits))
  made_from (further {byte} {bytes} (line_end is room not_blank) more) done lines line st =
      let joined : bytes_of_lines (lines ++ line ∷ []) ++ bytes ≡ bytes_of_lines lines ++ (line ++ byte ∷ bytes) =
      rw (bytes_of_lines_lem lines (line ∷ []), is) (append_assoc (bytes_of_lines lines) (line ++ line_mark ∷ []) bytes
      ∙ ap (λ (xs : List ℕ). bytes_of_lines lines ++ xs) (append_assoc line (line_mark ∷ []) bytes)) in
      subst Made joined (made_from more done (lines ++ line ∷ []) [] (standing_line st room not_blank))
  made_from (further {byte} {bytes} (page_end is no_column some) more) done lines line st =
      let no_cells : line ≡ [] = nil_of_length line (sym st.column ∙ no_column) in
      let rest = made_from more done [] [] standing_start in
      let c = st.count in
      let page : PageRight sheet lines = record { least = omega arith; most = st.most; lines = st.rights } in
      rw (no_cells, is)
      (record {
        pages = lines ∷ rest.pages;
        right = page and rest.right;
        is = ap (λ (xs : List ℕ). bytes_of_lines lines ++ page_mark ∷ xs) rest.is;
      })

  -- what a run goes through between two pages is made of right pages
  pub run_made : {t : Spot} {bytes : List ℕ} → Runs start bytes t → Between-pages t → Made bytes
  unfolding bytes_of_lines
  run_made run done = made_from run done [] [] standing_start

  -- ---- What has been passed can be continued

  pub run_fits : {s t : Spot} {bytes : List ℕ} → Runs s bytes t → Fit sheet s → Fit sheet t
  run_fits ended fit = fit
  run_fits (further step more) fit = run_fits more (step_fits sheet step)

  -- bytes that lead on from a spot to between two pages
  pub record LeadsOn (s : Spot) : Type 0 where
    pub rest : List ℕ
    pub runs : Runs s rest start

  module _ (wide : 0 < sheet.width) (long : 0 < sheet.length) where
    -- the line ends, and then the page
    line_and_page : (s : Spot) → s.line < sheet.length → s.blank ≡ false → Runs s (line_mark ∷ page_mark ∷ []) start
    line_and_page s room not_blank = further (line_end refl room not_blank) (further {s = after_line s} (page_end refl refl (omega arith)) ended)

    pub leads_on : (s : Spot) → Fit sheet s → LeadsOn s
    unfolding cells_from
    leads_on s fit = go s.blank refl (dec_lt s.line sheet.length)
      where
        go : (b : Bool) → s.blank ≡ b → Dec (s.line < sheet.length) → LeadsOn s
        -- after a blank a cell first
        go true e d =
            let room = fit.blank e in
            let fits : s.column + cells_from 1 ≤ sheet.width = omega (arith, room.1) in
            record { rest = 1 ∷ line_mark ∷ page_mark ∷ []; runs = further {s = s} {byte = 1} (cell (omega arith) room.0 fits) (line_and_page (after_cell s 1) room.0 refl) }
        go false e (yes room) = record { rest = line_mark ∷ page_mark ∷ []; runs = line_and_page s room e }
        -- after P lines only the page's end
        go false e (no d) =
            let most = fit.line in
            record { rest = page_mark ∷ []; runs = further {s = s} (page_end refl (fit.full (omega arith)) (omega arith)) ended }
