-- Making what `show` writes of an accepted image gives that image, byte for byte. The lines are read one by one: after the lines of a section the draft has
-- counted its records, and the bytes so far are those of the sections so far, joined.
use Prim.Native.Nat.{ℕ, zero, suc, ◌+◌, ◌-◌, ◌≤◌, ◌<◌}
use mathlib.Core.Bool.{Bool, true, false, ◌||◌}
use mathlib.Core.List.{List, [], ◌∷◌, ◌++◌, flatten, append_assoc, append-nil}
use Rattle.std.specs.Prelude.{Option, None, Some, Ok, Err}
use mathlib.Core.Path.{◌≡◌, refl, sym, ◌∙◌, ap, subst}
use native.Mathlib.Nat.{add-zero}
use native.Mathlib.Numerals.{add-one}
use native.Mathlib.Omega.{arith}
use borrow.Author.Tests.{eqb-true}
use lib.Dec.{eqb, leb}
use lib.ListN.{length, get_or, take, drop}
use lib.Seq.{take-append_seam}
use Rattle.table.specs.Numbers.{least_classes, most_classes, most_variables, most_letters, most_entries, most_contexts, most_columns}
use Rattle.table.specs.Search.{within, list_from, list_of}
use Rattle.table.specs.Sections.{sections_of}
use Rattle.table.specs.Refusals.{Between}
use Rattle.table.specs.Verdict.{verdict_of}
use Rattle.table.specs.declared.Section.{Section}
use Rattle.table.specs.declared.Sections.{Sections}
use Rattle.table.specs.declared.Refusal.{Refusal}
use Rattle.table.specs.declared.Refusal.TheVariants.{Room}
use Rattle.table.specs.Answers.{Verdict}
use Rattle.table.proofs.Tests.{fails_law, tells_lt, tells_within}
use Rattle.table.proofs.Reading.{accepted_laid}
use Rattle.form.specs.Numbers.{line_feed}
use Rattle.form.specs.Words.{after_gap, ends_line}
use Rattle.form.specs.Fields.{spelled, fields_of, sizes_of}
use Rattle.form.specs.Reading.{says, Reading, good, bad, start, in_order, has_room, with_line, image_bytes, lines_of, read_line, read_end, read_lines, reading, what_is_missing, image_of}
use Rattle.form.specs.Showing.{shown_fields, shown_line, head_of, shown_head, shown_record, shown_section, shown_in, shown}
use Rattle.form.specs.Calls.{Drawn, Outcome, done, refused, roomed, showing, making}
use Rattle.form.specs.Promises.{Ends}
use Rattle.tables.specs.inside.Writing.{Writable}
use Rattle.form.specs.declared.Draft.{Draft}
use Rattle.form.specs.declared.Undrawn.TheVariants.{Refused}
use Rattle.form.specs.declared.Expected.{Expected}
use Rattle.form.specs.declared.Keyword.{Keyword}
use Rattle.form.specs.declared.Keyword.TheVariants.{Dated, Classes, Variables, Letter, Entry, Context, Transition, Decision}
use Rattle.tables.proofs.Joined.{Bytes, draft_for, record_at, joined, section_bytes, image_back}
use Rattle.tables.proofs.LinesBack.{Unbroken, lines_cons, line_no_feed, line_back}
use Rattle.tables.proofs.Rights.{Written, letter_written, entry_written, context_written, transition_written, decision_written}

-- ---- The text goes from one draft to another, and from some bytes to more

-- whatever follows comes to what it comes to after that draft and those bytes, at whatever place
record Leads (d : Draft) (body text : List ℕ) (e : Draft) (more : List ℕ) : Type 0 where
  leads : (rest : List ℕ) (end : Reading) → ((at : ℕ) → read_lines e more at (lines_of rest) ≡ end)
      → (at : ℕ) → read_lines d body at (lines_of (text ++ rest)) ≡ end

leads_on : {d e f : Draft} {body more most text next : List ℕ} → Leads d body text e more → Leads e more next f most → Leads d body (text ++ next) f most
leads_on {text = text} {next} l m =
    record { leads = λ rest end h at. rw (append_assoc text next rest) (l.leads (next ++ rest) end (m.leads rest end h) at) }

leads_same : {d e f : Draft} {body more most text next : List ℕ} → text ≡ next → e ≡ f → more ≡ most → Leads d body text e more → Leads d body next f most
leads_same {d} {e} {f} {body} {more} {most} {text} {next} p q r l =
    subst (λ (t : List ℕ). Leads d body t f most) p
    (subst (λ (x : Draft). Leads d body text x most) q (subst (λ (m : List ℕ). Leads d body text e m) r l))

leads_nowhere : (d : Draft) (body : List ℕ) → Leads d body [] d body
leads_nowhere d body = record { leads = λ rest end h at. h at }

leads_empty : (d : Draft) (body : List ℕ) → Leads d body (line_feed ∷ []) d body
unfolding lines_of read_lines read_line after_gap ends_line
leads_empty d body = record { leads = λ rest end h at. h (at + 0 + 1) }

reads_says : (d : Draft) (body : List ℕ) (at : ℕ) (line : List ℕ) (lines : List (List ℕ)) (k : Keyword) (bytes : List ℕ) → read_line d line ≡ says k bytes
    → read_lines d body at (line ∷ lines) ≡ read_lines (with_line d k (get_or bytes 0 0)) (body ++ image_bytes k bytes) (at + length line + 1) lines
unfolding read_lines
reads_says d body at line lines k bytes e = rw (e, read_lines)

leads_line : (h d : Draft) (k : Keyword) (bytes body : List ℕ) → in_order d k ≡ true → has_room d k ≡ true → fields_of d k ≡ fields_of h k → Written h k bytes
    → Leads d body (shown_line h k bytes) (with_line d k (get_or bytes 0 0)) (body ++ image_bytes k bytes)
unfolding shown_line
leads_line h d k bytes body ordered room same written =
    let line : List ℕ = spelled k ++ shown_fields (fields_of h k) bytes 0 in
    let size : length bytes ≡ sizes_of (fields_of d k) = rw same written.size in
    let writable : Writable (fields_of d k) bytes 0 = rw same written.writable in
    let told : read_line d line ≡ says k bytes = rw same at (line_back d k bytes ordered room size writable) in
    let unbroken : Unbroken line = line_no_feed h k bytes written.writable in
    record {
      leads =
          λ rest end goes at.
          ap (λ (t : List ℕ). read_lines d body at (lines_of t)) (append_assoc line (line_feed ∷ []) rest)
          ∙ ap (read_lines d body at) (lines_cons line rest unbroken)
          ∙ reads_says d body at line (lines_of rest) k bytes told
          ∙ goes (at + length line + 1);
    }

-- ---- A section

-- the drafts before each of `n` records
record Counts (h : Draft) (k : Keyword) (n : ℕ) (D : ℕ → Draft) : Type 0 where
  order : (j : ℕ) → j < n → in_order (D j) k ≡ true
  room : (j : ℕ) → j < n → has_room (D j) k ≡ true
  fields : (j : ℕ) → fields_of (D j) k ≡ fields_of h k
  next : (j b : ℕ) → with_line (D j) k b ≡ D (suc j)
  bytes : (rec : List ℕ) → image_bytes k rec ≡ rec

module _ (h : Draft) (k : Keyword) (image : List ℕ) (section : Section) (D : ℕ → Draft) (counts : Counts h k section.records D)
    (written : (i : ℕ) → i < section.records → Written h k (record_at image section i)) where
  leads_record : (j : ℕ) (body : List ℕ) → j < section.records
      → Leads (D j) body (shown_record h k image section j) (D (suc j)) (body ++ record_at image section j)
  unfolding shown_record
  leads_record j body l =
      let b : ℕ = get_or (record_at image section j) 0 0 in
      leads_same refl (counts.next j b) (ap (λ (r : List ℕ). body ++ r) (counts.bytes (record_at image section j)))
      (leads_line h (D j) k (record_at image section j) body (counts.order j l) (counts.room j l) (counts.fields j) (written j l))

  leads_records : (n j : ℕ) (body : List ℕ) → j + n ≤ section.records
      → Leads (D j) body (flatten (list_from (shown_record h k image section) j n)) (D (j + n)) (body ++ flatten (list_from (record_at image section) j n))
  unfolding flatten list_from
  leads_records zero j body l = leads_same refl (ap D (omega arith)) (sym (append-nil body)) (leads_nowhere (D j) body)
  leads_records (suc n) j body l =
      leads_same refl (ap D (omega arith)) (append_assoc body (record_at image section j) (flatten (list_from (record_at image section) (suc j) n)))
      (leads_on (leads_record j body (omega arith)) (leads_records n (suc j) (body ++ record_at image section j) (omega arith)))

  leads_section : (body : List ℕ) → Leads (D 0) body (shown_section h k image section) (D section.records) (body ++ joined image section)
  unfolding flatten list_from shown_section
  leads_section body = go (eqb section.records 0) refl
    where
      go : (none : Bool) → eqb section.records 0 ≡ none
          → Leads (D 0) body (elim none [ true ↦ [] | false ↦ line_feed ∷ flatten (list_of (shown_record h k image section) section.records) ])
          (D section.records) (body ++ joined image section)
      go true e =
          let none : section.records ≡ 0 = eqb-true _ _ e in
          leads_same refl (ap D (sym none)) (sym (append-nil body) ∙ ap (λ (n : ℕ). body ++ flatten (list_of (record_at image section) n)) (sym none))
          (leads_nowhere (D 0) body)
      go false e =
          leads_same refl (ap D (omega arith)) refl (leads_on (leads_empty (D 0) body) (leads_records section.records 0 body (omega arith)))

-- ---- The drafts of each section

-- the stage after so many lines of a rank
abbrev pub stage_after : ℕ → ℕ → ℕ → ℕ
stage_after zero before rank = before
stage_after (suc n) before rank = rank

abbrev draft_of : Bool → Draft → ℕ → ℕ → ℕ → ℕ → ℕ → ℕ → Draft
draft_of dated h stage l e c t x =
    record {
      stage = stage;
      dated = dated;
      classes = h.classes;
      variables = h.variables;
      letters = l;
      entries = e;
      contexts = c;
      transitions = t;
      decisions = x;
    }

abbrev draft : Draft → ℕ → ℕ → ℕ → ℕ → ℕ → ℕ → Draft
draft h = draft_of h.dated h

staged : (n before rank : ℕ) → 3 ≤ before → before ≤ rank → Between 3 rank (stage_after n before rank)
staged zero before rank a b = record { low = a; high = b }
staged (suc n) before rank a b = record { low = omega arith; high = omega arith }

or_false : (b : Bool) → b || false ≡ b
or_false true = refl
or_false false = refl

-- a draft with one line more: `dated` is as it was, and each count is what it comes to
counted : (h : Draft) (stage : ℕ) {l l' e e' c c' t t' x x' : ℕ} → l ≡ l' → e ≡ e' → c ≡ c' → t ≡ t' → x ≡ x'
    → draft_of (h.dated || false) h stage l e c t x ≡ draft h stage l' e' c' t' x'
counted h stage l e c t x = λ i. draft_of (or_false h.dated i) h stage (l i) (e i) (c i) (t i) (x i)

module _ (h : Draft) (before : ℕ) (low : 3 ≤ before) where
  in_order_lem : (rank j : ℕ) → before ≤ rank → within 3 rank (stage_after j before rank) ≡ true
  in_order_lem rank j high = (tells_within 3 rank _).1 (staged j before rank low high)

  letters_count : before ≤ 4 → (n : ℕ) → n ≤ most_letters → Counts h Letter n (λ j. draft h (stage_after j before 4) j 0 0 0 0)
  unfolding fields_of with_line image_bytes
  letters_count high n few =
      record {
        order = λ j u. in_order_lem 4 j high;
        room = λ j u. (tells_lt j most_letters).1 (omega arith);
        fields = λ j. refl;
        next = λ j b. counted h 4 (add-one j) refl refl refl refl;
        bytes = λ rec. refl;
      }

  entries_count : (l : ℕ) → before ≤ 5 → (n : ℕ) → n ≤ most_entries → Counts h Entry n (λ j. draft h (stage_after j before 5) l j 0 0 0)
  unfolding fields_of with_line image_bytes
  entries_count l high n few =
      record {
        order = λ j u. in_order_lem 5 j high;
        room = λ j u. (tells_lt j most_entries).1 (omega arith);
        fields = λ j. refl;
        next = λ j b. counted h 5 (add-zero l) (add-one j) refl refl refl;
        bytes = λ rec. refl;
      }

  contexts_count : (l e : ℕ) → before ≤ 6 → (n : ℕ) → n ≤ most_contexts → Counts h Context n (λ j. draft h (stage_after j before 6) l e j 0 0)
  unfolding fields_of with_line image_bytes
  contexts_count l e high n few =
      record {
        order = λ j u. in_order_lem 6 j high;
        room = λ j u. (tells_lt j most_contexts).1 (omega arith);
        fields = λ j. refl;
        next = λ j b. counted h 6 (add-zero l) (add-zero e) (add-one j) refl refl;
        bytes = λ rec. refl;
      }

  transitions_count : (l e c : ℕ) → before ≤ 7 → (n : ℕ) → n ≤ h.variables → Counts h Transition n (λ j. draft h (stage_after j before 7) l e c j 0)
  unfolding fields_of with_line image_bytes
  transitions_count l e c high n few =
      record {
        order = λ j u. in_order_lem 7 j high;
        room = λ j u. (tells_lt j h.variables).1 (omega arith);
        fields = λ j. refl;
        next = λ j b. counted h 7 (add-zero l) (add-zero e) (add-zero c) (add-one j) refl;
        bytes = λ rec. refl;
      }

  decisions_count : (l e c t : ℕ) → before ≤ 8 → (n : ℕ) → n ≤ most_columns → Counts h Decision n (λ j. draft h (stage_after j before 8) l e c t j)
  unfolding fields_of with_line image_bytes
  decisions_count l e c t high n few =
      record {
        order = λ j u. in_order_lem 8 j high;
        room = λ j u. (tells_lt j most_columns).1 (omega arith);
        fields = λ j. refl;
        next = λ j b. counted h 8 (add-zero l) (add-zero e) (add-zero c) (add-zero t) (add-one j);
        bytes = λ rec. refl;
      }

-- ---- The head, and the end

module _ (h : Draft) (classes : Between least_classes most_classes h.classes) (variables : h.variables ≤ most_variables) where
  classes_written : Written h Classes (h.classes ∷ [])
  unfolding fields_of sizes_of
  classes_written = record { size = refl; writable = (classes, tt) }

  variables_written : Written h Variables (h.variables ∷ [])
  unfolding fields_of sizes_of
  variables_written = record { size = refl; writable = (record { low = omega arith; high = variables }, tt) }

  dated_written : Written h Dated []
  unfolding fields_of sizes_of
  dated_written = record { size = refl; writable = tt }

  leads_head : Leads start [] (shown_head h) (draft h 3 0 0 0 0 0) []
  unfolding shown_head fields_of with_line image_bytes
  leads_head = go h.dated refl
    where
      head : {dated : Bool} → dated ≡ h.dated
          → record { stage = 3; dated = dated; classes = h.classes; variables = h.variables; letters = 0; entries = 0; contexts = 0; transitions = 0; decisions = 0 }
          ≡ draft h 3 0 0 0 0 0
      head e = λ i. record {
        stage = 3;
        dated = e i;
        classes = h.classes;
        variables = h.variables;
        letters = 0;
        entries = 0;
        contexts = 0;
        transitions = 0;
        decisions = 0;
      }

      go : (dated : Bool) → h.dated ≡ dated
          → Leads start [] (elim dated [ true ↦ shown_line h Dated [] | false ↦ [] ] ++ shown_line h Classes (h.classes ∷ []) ++ shown_line h Variables (h.variables ∷ []))
          (draft h 3 0 0 0 0 0) []
      go true e =
          leads_same refl (head (sym e)) refl
          (leads_on
          (leads_on (leads_line h start Dated [] [] refl refl refl dated_written)
          (leads_line h (with_line start Dated 0) Classes (h.classes ∷ []) [] refl refl refl classes_written))
          (leads_line h (with_line (with_line start Dated 0) Classes h.classes) Variables (h.variables ∷ []) [] refl refl refl variables_written))
      go false e =
          leads_same refl (head (sym e)) refl
          (leads_on
          (leads_on (leads_nowhere start []) (leads_line h start Classes (h.classes ∷ []) [] refl refl refl classes_written))
          (leads_line h (with_line start Classes h.classes) Variables (h.variables ∷ []) [] refl refl refl variables_written))

reads_end : (d : Draft) (body : List ℕ) → 3 ≤ d.stage → 1 ≤ d.letters → d.variables ≤ d.transitions
    → (at : ℕ) → read_lines d body at (lines_of []) ≡ good d body
unfolding lines_of read_lines read_line after_gap ends_line read_end
reads_end d body stage letters transitions at =
    let a = (fails_law (tells_lt d.stage 3)).1 (λ (l : d.stage < 3). omega arith) in
    let b = (fails_law (tells_lt d.letters 1)).1 (λ (l : d.letters < 1). omega arith) in
    let c = (fails_law (tells_lt d.transitions d.variables)).1 (λ (l : d.transitions < d.variables). omega arith) in
    let none_missing : what_is_missing d ≡ None = rw (a, b, c) in
    ap (λ (o : Option Expected). elim o [ None ↦ good d body | Some e ↦ bad e (at + 0 + 1 - 1) ]) none_missing

-- ---- An accepted image

-- the rank of the last line
abbrev pub last_stage : Sections → ℕ
last_stage s =
    stage_after s.decisions.records
    (stage_after s.transitions.records
    (stage_after s.contexts.records (stage_after s.contractions.records (stage_after s.alphabet.records 3 4) 5) 6) 7)
    8

module _ (image : List ℕ) (accepts : verdict_of image ≡ Ok tt) (bytes : Bytes image) where
  abbrev s : Sections
  s = sections_of image

  pub shown_read : reading (shown image) ≡ good (draft_for (sections_of image) (last_stage (sections_of image))) (section_bytes image (sections_of image))
  unfolding reading shown shown_in head_of
  shown_read =
      let laid = accepted_laid image accepts in
      let h : Draft = head_of s in
      let few = laid.transitions_laid.number_right in
      let a = staged s.alphabet.records 3 4 (omega arith) (omega arith) in
      let b = staged s.contractions.records _ 5 a.low (omega (arith, a.high)) in
      let c = staged s.contexts.records _ 6 b.low (omega (arith, b.high)) in
      let d = staged s.transitions.records _ 7 c.low (omega (arith, c.high)) in
      let e = staged s.decisions.records _ 8 d.low (omega (arith, d.high)) in
      let all : Leads start [] (shown image) (draft_for s (last_stage s)) (section_bytes image s) =
      leads_on
      (leads_on
      (leads_on
      (leads_on
      (leads_on head_of_lem
      (leads_section h Letter image s.alphabet _
      (letters_count h 3 (omega arith) (omega arith) _ laid.alphabet_laid.number_right.high)
      (letter_written image accepts bytes) []))
      (leads_section h Entry image s.contractions _
      (entries_count h _ a.low _ (omega (arith, a.high)) _ laid.contractions_laid.number_right.high)
      (entry_written image accepts bytes) _))
      (leads_section h Context image s.contexts _
      (contexts_count h _ b.low _ _ (omega (arith, b.high)) _ laid.contexts_laid.number_right.high)
      (context_written image accepts bytes) _))
      (leads_section h Transition image s.transitions _
      (transitions_count h _ c.low _ _ _ (omega (arith, c.high)) _ few.high)
      (transition_written image accepts bytes) _))
      (leads_section h Decision image s.decisions _
      (decisions_count h _ d.low _ _ _ _ (omega (arith, d.high)) _ laid.decisions_laid.number_right.high)
      (decision_written image accepts bytes) _) in
      ap (λ (t : List ℕ). read_lines start [] 0 (lines_of t)) (sym (append-nil (shown image)))
      ∙ all.leads [] _ (reads_end (draft_for s (last_stage s)) (section_bytes image s) e.low laid.alphabet_laid.number_right.low few.low) 0
    where
      head_of_lem : Leads start [] (shown_head (head_of s)) (draft (head_of s) 3 0 0 0 0 0) []
      head_of_lem = let laid = accepted_laid image accepts in leads_head (head_of s) laid.classes_right laid.variables_right

  pub round_trip : (out : List ℕ) → making (shown image) out ≡ roomed out image
  unfolding making image_of
  round_trip out =
      let back = image_back image accepts bytes (last_stage s) in
      rw (making, shown_read) (ap (roomed out) (sym back))

-- ---- The calls

-- `show` wrote a text, so the image is accepted and the text is its own
record Wrote (image after : List ℕ) (w : ℕ) : Type 0 where
  accepts : verdict_of image ≡ Ok tt
  text : take w after ≡ shown image

showing_accepted : (image out : List ℕ) → verdict_of image ≡ Ok tt → showing image out ≡ roomed out (shown image)
unfolding showing
showing_accepted image out e = rw (showing, e)

showing_refused : (image out : List ℕ) (r : Refusal) → verdict_of image ≡ Err r → showing image out ≡ refused out (Err (Refused r))
unfolding showing
showing_refused image out r e = rw (showing, e)

roomed_fits : (out bytes : List ℕ) → leb (length bytes) (length out) ≡ true → roomed out bytes ≡ done out bytes
unfolding roomed
roomed_fits out bytes e = rw (roomed, e)

roomed_short : (out bytes : List ℕ) → leb (length bytes) (length out) ≡ false → roomed out bytes ≡ refused out (Err (Refused (Room (length bytes))))
unfolding roomed
roomed_short out bytes e = rw (roomed, e)

show_wrote : (image out after : List ℕ) (w : ℕ) → Ends (showing image out) (Ok w) after → Wrote image after w
unfolding done refused
show_wrote image out after w h = by_verdict (verdict_of image) refl
  where
    -- `Ok` is no refusal
    no_refusal : (r : Refusal) → showing image out ≡ refused out (Err (Refused r)) → Wrote image after w
    no_refusal r e =
        let p : ◌≡◌ {A = Drawn} (Ok w) (Err (Refused r)) = h.answers ∙ ap (λ (o : Outcome). o.answer) e in
        let z : ◌≡◌ {A = ℕ} 0 1 = cc in
        absurd (omega arith)

    by_room : verdict_of image ≡ Ok tt → (fits : Bool) → leb (length (shown image)) (length out) ≡ fits → Wrote image after w
    by_room e true f =
        let is = showing_accepted image out e ∙ roomed_fits out (shown image) f in
        let p : ◌≡◌ {A = Drawn} (Ok w) (Ok (length (shown image))) = h.answers ∙ ap (λ (o : Outcome). o.answer) is in
        let n : w ≡ length (shown image) = cc in
        let q : after ≡ shown image ++ drop (length (shown image)) out = h.leaves ∙ ap (λ (o : Outcome). o.output) is in
        record { accepts = e; text = rw (n, q) (take-append_seam (shown image) (drop (length (shown image)) out)) }
    by_room e false f = no_refusal (Room (length (shown image))) (showing_accepted image out e ∙ roomed_short out (shown image) f)

    by_verdict : (v : Verdict) → verdict_of image ≡ v → Wrote image after w
    by_verdict (Ok tt) e = by_room e (leb (length (shown image)) (length out)) refl
    by_verdict (Err r) e = no_refusal r (showing_refused image out r e)

pub show_then_make : (image : List ℕ) → Bytes image → (out after : List ℕ) (w : ℕ) → Ends (showing image out) (Ok w) after
    → (before : List ℕ) (answer : Drawn) (left : List ℕ) → Ends (making (take w after) before) answer left → Ends (roomed before image) answer left
show_then_make image bytes out after w showed before answer left made =
    let h = show_wrote image out after w showed in
    let same : making (take w after) before ≡ roomed before image =
    ap (λ (t : List ℕ). making t before) h.text ∙ round_trip image h.accepts bytes before in
    rw same at made
