-- The three demands of the whole call. Each theorem assumes the promise of `emboss`, and some the
-- answer's number besides: whatever answer and bytes afterwards the promise allows for an image, a
-- text, a sheet and the bytes lent, they have the property, whichever symbol follows the text.
use Prim.Native.Nat.{ℕ, suc, ◌<◌, ◌≤◌}
use mathlib.Core.List.{List, ◌∷◌, ◌++◌, map, flatten}
use mathlib.Core.Option.{Option, none, some}
use mathlib.Core.Logic.{◌↔◌}
use mathlib.Core.Path.{◌≡◌, refl, sym, ◌∙◌, ap, subst}
use native.Mathlib.Decide.{dec_lt}
use native.Mathlib.Omega.{arith}
use lib.ListN.{length, get_or, take, drop, length-append}
use lib.Seq.{drop-append_seam, take-append_seam, get_or-append_seam}
use Rattle.table.specs.Numbers.{number_done}
use Rattle.table.specs.FirstLine.{FirstLine}
use Rattle.table.specs.Refusals.{Between, HasLetter}
use Rattle.table.specs.Table.{table_of}
use Rattle.table.specs.Verdict.{verdict_of}
use Rattle.std.specs.Prelude.{Ok, Err}
use Rattle.table.proofs.Refusals.{accepted_exactly_when}
use Rattle.table.proofs.Tests.{decided_by}
use Rattle.table.specs.Lists.{All}
use Rattle.translation.specs.Collapse.{collapsed}
use Rattle.translation.specs.Letters.{first_unknown}
use Rattle.translation.specs.Refusals.{UnknownAt}
use Rattle.translation.specs.Pieces.{characters, pieces_in, pieces_of}
use Rattle.translation.specs.Chosen.{piece_in}
use Rattle.translation.proofs.Collapse.{collapsed_known}
use Rattle.translation.proofs.Consumed.{consumed_by_piece, rest_of_next}
use Rattle.translation.proofs.Refusals.{unknown_exactly_when, none_unknown_exactly_when, known_exactly_when}
use Rattle.translation.proofs.Chosen.{first_in_order}
use Rattle.translation.proofs.States.{states_start, states_move}
use Rattle.translation.specs.declared.Setting.{Setting}
use Rattle.pages.specs.Numbers.{least_width, most_width, least_length, most_length}
use Rattle.pages.specs.Lists.{only}
use Rattle.pages.specs.Pages.{pages_of, bytes_of_pages}
use Rattle.pages.specs.Spots.{layout_of}
use Rattle.pages.specs.Fitting.{words_in}
use Rattle.pages.specs.Right.{PageRight}
use Rattle.pages.specs.Signs.{is_dotted}
use Rattle.pages.specs.Drawn.{Shows}
use Rattle.layout.specs.Emboss.{Answer, number, place, written, pieces, lines, pages, Outcome, done, bytes_of, embossing}
use Rattle.layout.specs.Refusals.{Line, of_table, line_5, line_7, line_15, line_8}
use Rattle.layout.specs.Promises.{Embossed}
use Rattle.layout.specs.Relied.{wrote, text_pieces, text_items, Untouched, Bounded, Translates, LaysOut, Earliest}
use Rattle.pages.proofs.Sizes.{sizes_right}
use Rattle.layout.proofs.Refusals as Refusals-laws
use Rattle.layout.proofs.Demands as Demands-laws
use Rattle.pages.specs.declared.Sheet.{Sheet}

-- every answer but the done one counts nothing
untouched : (a : Answer) {before after : List ℕ} → 0 < number a → after ≡ before → Untouched before a after
untouched (Ok l) h e = absurd (omega arith)
untouched (Err r) h e = record { bytes = e; written = refl; pieces = refl; lines = refl; pages = refl }

module _ (setting : Setting) (image text : List ℕ) (sheet : Sheet) (before : List ℕ) (answer : Answer) (after : List ℕ) (call : Embossed setting image text sheet before answer after) where
  abbrev outcome : Outcome
  outcome = embossing setting image text sheet before

  abbrev bytes : List ℕ
  bytes = bytes_of (table_of image) setting text sheet

  answered : answer ≡ outcome.answer
  answered = call.answers

  left : after ≡ outcome.output
  left = call.leaves

  -- ---- Demand 1

  -- a refusal is the answer, with its place, exactly when its line of the paper's table holds and no earlier one does
  pub call_refused_exactly_when : (n p : ℕ) → 0 < n
      → ((number answer ≡ n) × (place answer ≡ p)) ↔ FirstLine (Line setting image text sheet before) n p
  call_refused_exactly_when n p h =
      subst (λ (a : Answer). ((number a ≡ n) × (place a ≡ p)) ↔ FirstLine (Line setting image text sheet before) n p) (sym answered)
      (Refusals-laws.refused_exactly_when setting image text sheet before n p h)

  -- the call is done exactly when no line holds
  pub call_done_exactly_when : (number answer ≡ number_done) ↔ ((t n p : ℕ) → Line setting image text sheet before t n p → ⊥)
  call_done_exactly_when =
      subst (λ (a : Answer). (number a ≡ number_done) ↔ ((t n p : ℕ) → Line setting image text sheet before t n p → ⊥)) (sym answered)
      (Refusals-laws.done_exactly_when setting image text sheet before)

  -- a refused call changed no byte and counts nothing
  pub call_refused_untouched : 0 < number answer → Untouched before answer after
  call_refused_untouched h =
      untouched answer h
      (left ∙ Refusals-laws.refused_keeps_output setting image text sheet before (subst (λ (a : Answer). 0 < number a) answered h))

  -- ---- A call that is done
  module _ (is_done : number answer ≡ number_done) where
    whole : outcome ≡ done before bytes (length (text_pieces setting image text))
    whole = Refusals-laws.done_writes setting image text sheet before (sym (ap number answered) ∙ is_done)

    no_line : (t n p : ℕ) → Line setting image text sheet before t n p → ⊥
    no_line = call_done_exactly_when.0 is_done

    -- the answer and the bytes afterwards, spelled out
    is_answer : answer ≡ (done before bytes (length (text_pieces setting image text))).answer
    is_answer = answered ∙ ap (λ (o : Outcome). o.answer) whole

    is_after : after ≡ bytes ++ drop (length bytes) before
    unfolding done
    is_after = left ∙ ap (λ (o : Outcome). o.output) whole

    is_written : written answer ≡ length bytes
    unfolding done
    is_written = ap written is_answer

    is_pieces : pieces answer ≡ length (text_pieces setting image text)
    unfolding done
    is_pieces = ap pieces is_answer

    wrote_bytes : wrote answer after ≡ bytes
    wrote_bytes = ap (λ (n : ℕ). take n after) is_written ∙ ap (take (length bytes)) is_after ∙ take-append_seam bytes (drop (length bytes) before)

    table_accepted : verdict_of image ≡ Ok tt
    table_accepted =
        (accepted_exactly_when image).1 (λ t n p x. no_line t n p (of_table x))

    sizes : Between least_width most_width sheet.width × Between least_length most_length sheet.length
    sizes = sizes_right sheet (λ x. no_line _ _ _ (line_5 x))

    room_for : length bytes ≤ length before
    room_for = go (dec_lt (length before) (length bytes))
      where
        go : Dec (length before < length bytes) → length bytes ≤ length before
        go (yes l) = absurd (no_line _ _ _ (line_8 l))
        go (no d) = omega arith

    written_within : written answer ≤ length after
    written_within =
        let n = length-append bytes (drop (length bytes) before) in
        let w = is_written in
        rw is_after (omega arith)

    -- the table, the sizes and the room are right, and beyond the written bytes nothing changed
    pub call_bounded : Bounded image sheet before answer after
    call_bounded =
        record {
          accepted = table_accepted;
          width = sizes.0;
          page_length = sizes.1;
          room = subst (λ (n : ℕ). n ≤ length before) (sym is_written) room_for;
          beyond =
              subst (λ (n : ℕ). drop n after ≡ drop n before) (sym is_written)
              (ap (drop (length bytes)) is_after ∙ drop-append_seam bytes (drop (length bytes) before));
        }

    -- ---- Demand 2

    -- no character of the text is unknown
    all_known : (i : ℕ) → UnknownAt (table_of image).letters text i → ⊥
    all_known = go (first_unknown (table_of image).letters text) refl
      where
        go : (o : Option ℕ) → first_unknown (table_of image).letters text ≡ o → (i : ℕ) → UnknownAt (table_of image).letters text i → ⊥
        go none e = (none_unknown_exactly_when (table_of image).letters text).0 e
        go (some at) e = absurd (no_line _ _ _ (line_7 ((unknown_exactly_when (table_of image).letters text at).0 e)))

    -- the symbol that follows has its record
    following_there : HasLetter (table_of image).letters setting.following
    following_there = go (decided_by (known_exactly_when (table_of image).letters setting.following))
      where
        go : Dec (HasLetter (table_of image).letters setting.following) → HasLetter (table_of image).letters setting.following
        go (yes h) = h
        go (no d) = absurd (no_line _ _ _ (line_15 d))

    -- the first character of a piece's rest stands in the collapsed text, so it has its record
    front_known : (i : ℕ) → i < length (pieces_in (table_of image) setting (collapsed text)) → (c : ℕ) (after : List ℕ)
        → (piece_in (table_of image) setting (collapsed text) i).rest ≡ c ∷ after → HasLetter (table_of image).letters c
    front_known i l c after e =
        let before : List ℕ = flatten (map characters (take i (pieces_in (table_of image) setting (collapsed text)))) in
        let whole : before ++ c ∷ after ≡ collapsed text = rw e at (consumed_by_piece (table_of image) setting (collapsed text) i l) in
        let there : length before < length (collapsed text) = omega (arith, simp length-append at (ap length whole)) in
        let is : get_or (collapsed text) (length before) 0 ≡ c = ap (λ (s : List ℕ). get_or s (length before) 0) (sym whole) ∙ get_or-append_seam before c after 0 in
        subst (HasLetter (table_of image).letters) is (collapsed_known (table_of image).letters text all_known (length before) there)

    pub call_translates : Translates setting image text answer
    unfolding pieces_of flatten
    call_translates =
        record {
          counted = is_pieces;
          first_rest = λ l. consumed_by_piece (table_of image) setting (collapsed text) 0 (subst (λ (n : ℕ). 0 < n) is_pieces l);
          next_rest = λ i l. rest_of_next (table_of image) setting (collapsed text) i (subst (λ (n : ℕ). suc i < n) is_pieces l);
          known = λ i l c after e. front_known i (subst (λ (n : ℕ). i < n) is_pieces l) c after e;
          following_known = following_there;
          consumed = Demands-laws.text_consumed setting image text sheet sizes.0 sizes.1 table_accepted;
          chosen = λ i l. first_in_order (table_of image) setting (collapsed text) i (subst (λ (n : ℕ). i < n) is_pieces l);
          start = λ l. states_start (table_of image) setting (collapsed text) (subst (λ (n : ℕ). 0 < n) is_pieces l);
          move = λ i l. states_move (table_of image) setting (collapsed text) i (subst (λ (n : ℕ). suc i < n) is_pieces l);
        }

    pub call_lays_out : LaysOut setting image text sheet answer after
    unfolding done
    call_lays_out =
        record {
          exact = wrote_bytes;
          right = subst (λ (b : List ℕ). All (PageRight sheet) (pages_of b)) (sym wrote_bytes) (Demands-laws.text_pages_right setting image text sheet sizes.0 sizes.1 table_accepted);
          bytes = subst (λ (b : List ℕ). bytes_of_pages (pages_of b) ≡ b) (sym wrote_bytes) (Demands-laws.text_pages_bytes setting image text sheet sizes.0 sizes.1 table_accepted);
          lines = ap (λ (b : List ℕ). length (flatten (pages_of b))) wrote_bytes ∙ (Demands-laws.text_lines_counted setting image text sheet sizes.0 sizes.1 table_accepted) ∙ sym (ap lines is_answer);
          pages = ap (λ (b : List ℕ). length (pages_of b)) wrote_bytes ∙ (Demands-laws.text_pages_counted setting image text sheet sizes.0 sizes.1 table_accepted) ∙ sym (ap pages is_answer);
          cells = ap (λ (b : List ℕ). only is_dotted (flatten (flatten (pages_of b)))) wrote_bytes ∙ (Demands-laws.text_has_the_parts setting image text sheet sizes.0 sizes.1 table_accepted);
          parts = Demands-laws.text_parts_sized setting image text sheet sizes.0 sizes.1 table_accepted;
          signs = Demands-laws.text_has_the_signs setting image text sheet sizes.0 sizes.1 table_accepted;
        }

    -- ---- Demand 3

    pub call_earliest : Earliest setting image text sheet answer after
    unfolding done
    call_earliest =
        record {
          ours = layout_of sheet (text_items setting image text sheet);
          shown =
              subst (λ (b : List ℕ). Shows b (words_in (text_items setting image text sheet)) (layout_of sheet (text_items setting image text sheet))) (sym wrote_bytes)
              (Demands-laws.text_shown setting image text sheet sizes.0 sizes.1 table_accepted);
          lines = (Demands-laws.text_layout_lines setting image text sheet sizes.0 sizes.1 table_accepted) ∙ sym (ap lines is_answer);
          pages = (Demands-laws.text_layout_pages setting image text sheet sizes.0 sizes.1 table_accepted) ∙ sym (ap pages is_answer);
          permitted = (Demands-laws.text_permitted setting image text sheet sizes.0 sizes.1 table_accepted);
          no_later = (Demands-laws.text_no_later setting image text sheet sizes.0 sizes.1 table_accepted);
        }

-- the written bytes lie within the bytes afterwards, refused or done
pub call_written : {setting : Setting} {image text : List ℕ} {sheet : Sheet} {before : List ℕ} {answer : Answer} {after : List ℕ} → Embossed setting image text sheet before answer after
    → written answer ≤ length after
call_written {setting} {image} {text} {sheet} {before} {answer} {after} call = go (dec_lt 0 (number answer))
  where
    go : Dec (0 < number answer) → written answer ≤ length after
    go (yes h) = let w = (call_refused_untouched setting image text sheet before answer after call h).written in omega arith
    go (no d) = written_within setting image text sheet before answer after call (omega arith)
