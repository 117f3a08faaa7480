-- The walk over the lines of a text: what one line makes of the draft and of the output, and what is known where the next line starts: the text reads as the
-- lines from there on do, from this draft and these bytes.
use Prim.Native.Nat.{ℕ, zero, suc, ◌+◌, ◌-◌, ◌*◌, ◌≤◌, ◌<◌}
use mathlib.Core.List.{List, [], ◌∷◌, ◌++◌, append-nil}
use Rattle.std.specs.Prelude.{None, Some, Result, Ok, Err}
use mathlib.Core.Path.{◌≡◌, refl, sym, ◌∙◌, ap}
use native.Mathlib.Decide.{dec_le}
use native.Mathlib.Omega.{arith}
use lib.ListN.{length, get_or, take, drop, length-append, length-drop}
use lib.Seq.{length-take-le, take_all}
use borrow.Author.Tests.{lt-ltb, le-ltb}
use Rattle.table.specs.inside.Wrote.{Wrote}
use Rattle.table.proofs.Wrote.{put_then, wrote_length}
use Rattle.form.specs.Fields.{fields_of, sizes_of}
use Rattle.form.specs.Reading.{rank, start, with_line, image_bytes, Line, nothing, says, unlike, read_line, good, bad, what_is_missing, read_end, read_lines, reading}
use Rattle.tables.specs.inside.Lines.{first_line, line_end, line_bytes, taken, Drafted}
use Rattle.writing.specs.inside.Puts.{Puts}
use Rattle.form.specs.inside.Steps.{Modest}
use Rattle.tables.specs.inside.Steps.{walked_to}
use Rattle.form.specs.declared.Draft.{Draft}
use Rattle.form.specs.declared.Expected.{Expected}
use Rattle.form.specs.declared.Keyword.{Keyword}
use Rattle.form.specs.declared.Keyword.TheVariants.{Dated, Classes, Variables, Letter, Entry, Context, Transition, Decision}
use Rattle.form.specs.declared.Unlike.{Unlike}
use Rattle.tables.specs.declared.modest.ModestDraft.{ModestDraft}
use Rattle.tables.proofs.Drafts.{says_modest, says_size}
use Rattle.tables.proofs.Lines.{first_within, lines_left, left_from, left_none, left_line}
use Rattle.form.proofs.Sizes.{record_small}

-- what was expected, and where
abbrev pub unlike_at : Expected → ℕ → Unlike
unlike_at e i = record { expected = e; at = i }

-- ---- What one line gives, from the record that it was read into

-- so many bytes as there are
pub take_size : (n size : ℕ) (rec : List ℕ) → length (take n rec) ≡ size → (take size rec ≡ take n rec) × (size ≤ length rec)
take_size n size rec e = go (dec_le n (length rec))
  where
    go : Dec (n ≤ length rec) → (take size rec ≡ take n rec) × (size ≤ length rec)
    go (yes l) =
        let long = length-take-le n rec l in
        let same : size ≡ n = omega arith in
        (ap (λ (m : ℕ). take m rec) same, omega arith)
    go (no l) =
        let all = take_all n rec (omega arith) in
        let long = ap length all in
        (take_all size rec (omega arith) ∙ sym all, omega arith)

-- a run of no bytes
puts_none : (out : List ℕ) (to : ℕ) → Puts out to [] (to + length {A = ℕ} []) out
puts_none out to = record { goes = refl; writes = λ _. record { leaves = refl } }

-- the first byte of a record is asked for only where it has one
first_there : (n : ℕ) (rec : List ℕ) → 1 ≤ length (take n rec) → get_or rec 0 0 ≡ get_or (take n rec) 0 0
first_there zero rec h = absurd (omega arith)
first_there (suc n) [] h = refl
first_there (suc n) (x ∷ xs) h = refl

first_alike : (d : Draft) (k : Keyword) (a b : ℕ) → (1 ≤ sizes_of (fields_of d k) → a ≡ b) → with_line d k a ≡ with_line d k b
unfolding with_line fields_of sizes_of
first_alike d Dated a b e = refl
first_alike d Classes a b e = ap (λ (n : ℕ). with_line d Classes n) (e (omega arith))
first_alike d Variables a b e = ap (λ (n : ℕ). with_line d Variables n) (e (omega arith))
first_alike d Letter a b e = refl
first_alike d Entry a b e = refl
first_alike d Context a b e = refl
first_alike d Transition a b e = refl
first_alike d Decision a b e = refl

module _ (k : Keyword) (bytes : List ℕ) where
  image_record : 3 < rank k → image_bytes k bytes ≡ bytes
  unfolding image_bytes
  image_record h = rw (lt-ltb 3 (rank k) h, image_bytes)

  image_head : rank k ≤ 3 → image_bytes k bytes ≡ []
  unfolding image_bytes
  image_head h = rw (le-ltb 3 (rank k) h, image_bytes)

module _ (d : Draft) (line : List ℕ) (k : Keyword) (n : ℕ) (rec : List ℕ) (reads : read_line d line ≡ says k (take n rec)) {next : Draft}
    (is : next ≡ with_line d k (get_or rec 0 0)) where
  with_first : next ≡ with_line d k (get_or (take n rec) 0 0)
  with_first =
      let size = says_size d line k (take n rec) reads in
      is ∙ first_alike d k _ _ (λ some_bytes. first_there n rec (omega arith))

  -- the draft stays within the limits
  pub next_modest : Modest d → Modest next
  next_modest modest = rw with_first (says_modest d line k (take n rec) modest reads)

  module _ (to : ℕ) (out : List ℕ) where
    pub took_record : 3 < rank k → {size further : ℕ} {after : List ℕ} → size ≡ sizes_of (fields_of d k) → Puts out to (take size rec) further after
        → (Ok (next, further) ≡ taken d line to (read_line d line)) × Puts out to (line_bytes (read_line d line)) (to + length (line_bytes (read_line d line))) after
    took_record high {size} {further} {after} whole puts =
        let same = (take_size n size rec (says_size d line k (take n rec) reads ∙ sym whole)).0 in
        let image = image_record k (take n rec) high in
        let put : Puts out to (take n rec) further after = rw same at puts in
        let with = with_first in
        let goes = put.goes in
        rw (reads, image) (cc, record { goes = refl; writes = put.writes })

    pub took_head : rank k ≤ 3
        → (Ok (next, to) ≡ taken d line to (read_line d line)) × Puts out to (line_bytes (read_line d line)) (to + length (line_bytes (read_line d line))) out
    took_head low =
        let image = image_head k (take n rec) low in
        let with = with_first in
        let same : to ≡ to + 0 = omega arith in
        rw (reads, image) (cc, puts_none out to)

-- ---- How much there is to write: at most 64 bytes for each record

abbrev counted : Draft → ℕ
counted d = d.letters + d.entries + d.contexts + d.transitions + d.decisions

grows : (d : Draft) (k : Keyword) (n : ℕ) (bytes : List ℕ) (to : ℕ) → length bytes ≤ 64 → to ≤ 64 * counted d → to + length (image_bytes k bytes) ≤ 64 * counted (with_line d k n)
unfolding with_line image_bytes
grows d Dated n bytes to small few = omega arith
grows d Classes n bytes to small few = omega arith
grows d Variables n bytes to small few = omega arith
grows d Letter n bytes to small few = omega arith
grows d Entry n bytes to small few = omega arith
grows d Context n bytes to small few = omega arith
grows d Transition n bytes to small few = omega arith
grows d Decision n bytes to small few = omega arith

-- ---- One line of the lines that are left

module _ (d : Draft) (body : List ℕ) (at : ℕ) (line : List ℕ) (lines : List (List ℕ)) where
  lines_nothing : read_line d line ≡ nothing → read_lines d body at (line ∷ lines) ≡ read_lines d body (at + length line + 1) lines
  unfolding read_lines
  lines_nothing e = rw (e, read_lines)

  lines_says : {k : Keyword} {bytes : List ℕ} → read_line d line ≡ says k bytes
      → read_lines d body at (line ∷ lines) ≡ read_lines (with_line d k (get_or bytes 0 0)) (body ++ image_bytes k bytes) (at + length line + 1) lines
  unfolding read_lines
  lines_says e = rw (e, read_lines)

  lines_unlike : {e : Expected} {rest : List ℕ} → read_line d line ≡ unlike e rest → read_lines d body at (line ∷ lines) ≡ bad e (at + (length line - length rest))
  unfolding read_lines
  lines_unlike e = rw (e, read_lines)

-- ---- The line that starts there, as a part of the text

pub line_part : (text : List ℕ) (at end : ℕ) → end ≡ line_end text at → take (end - at) (drop at text) ≡ take (first_line (drop at text)) (drop at text)
unfolding line_end
line_part text at end e =
    let n : end - at ≡ first_line (drop at text) = omega arith in
    ap (λ (m : ℕ). take m (drop at text)) n

-- ---- What is known where the next line starts, one past the end where there is none

pub record Walking (text out₀ out : List ℕ) (m : ModestDraft) (at to : ℕ) : Type 0 where
  pub near : at ≤ length text + 1
  pub body : List ℕ
  pub size : to ≡ length body
  pub few : to ≤ 64 * counted m.draft
  pub reads : reading text ≡ read_lines m.draft body at (lines_left text at)
  pub wrote : length body ≤ length out₀ → Wrote out₀ 0 body out

pub walk_starts : (text out : List ℕ) (m : ModestDraft) → m.draft ≡ start → Walking text out out m 0 0
unfolding reading
walk_starts text out m is =
    record {
      near = omega arith;
      body = [];
      size = refl;
      few = omega arith;
      reads = rw is (ap (read_lines start [] 0) (sym (left_from text 0 (omega arith))));
      wrote = λ _. record { leaves = refl };
    }

pub walk_small : {text out₀ out : List ℕ} {m : ModestDraft} {at to : ℕ} → Walking text out₀ out m at to → to < 1000000
walk_small {m = m} w = let l = m.modest in let f = w.few in omega arith

module _ {text out₀ out : List ℕ} {m : ModestDraft} {at to : ℕ} (w : Walking text out₀ out m at to) (inside : at ≤ length text) (line : List ℕ)
    (is : line ≡ take (first_line (drop at text)) (drop at text)) where
  line_long : length line ≡ first_line (drop at text)
  line_long = ap length is ∙ length-take-le _ _ (first_within (drop at text))

  reads_line : reading text ≡ read_lines m.draft w.body at (line ∷ lines_left text (line_end text at + 1))
  reads_line =
      w.reads
      ∙ ap (read_lines m.draft w.body at) (left_line text at inside ∙ ap (λ (l : List ℕ). l ∷ lines_left text (line_end text at + 1)) (sym is))

  -- the line leads to this draft and gives these bytes
  moved : {next : ModestDraft} {bytes after : List ℕ} {end : ℕ} → to + length bytes ≤ 64 * counted next.draft
      → reading text ≡ read_lines next.draft (w.body ++ bytes) (at + length line + 1) (lines_left text (line_end text at + 1)) → Puts out to bytes end after
      → Walking text out₀ after next (line_end text at + 1) (to + length bytes)
  unfolding line_end
  moved {next} {bytes} {after} {end} few reads puts =
      let long = line_long in
      let within = first_within (drop at text) in
      let rest = length-drop at text in
      let ends : at + length line + 1 ≡ at + first_line (drop at text) + 1 = omega arith in
      let whole = length-append w.body bytes in
      let size = w.size in
      record {
        near = omega arith;
        body = w.body ++ bytes;
        size = omega arith;
        few = few;
        reads = reads ∙ ap (λ (n : ℕ). read_lines next.draft (w.body ++ bytes) n (lines_left text (at + first_line (drop at text) + 1))) ends;
        wrote =
            λ room.
            let so_far = w.wrote (omega arith) in
            let kept = wrote_length so_far in
            record { leaves = put_then out₀ out after 0 w.body bytes so_far.leaves (puts.writes (omega arith)).leaves (omega arith) };
      }

  pub walk_on : {next : ModestDraft} {further : ℕ} {after : List ℕ} → Ok (next.draft, further) ≡ taken m.draft line to (read_line m.draft line)
      → Puts out to (line_bytes (read_line m.draft line)) (to + length (line_bytes (read_line m.draft line))) after → Walking text out₀ after next (line_end text at + 1) further
  walk_on {next} {further} {after} told puts = go (read_line m.draft line) refl told puts
    where
      go : (l : Line) → read_line m.draft line ≡ l → Ok (next.draft, further) ≡ taken m.draft line to l → Puts out to (line_bytes l) (to + length (line_bytes l)) after
          → Walking text out₀ after next (line_end text at + 1) further
      go nothing e told puts =
          let both : ◌≡◌ {A = Draft × ℕ} (next.draft, further) (m.draft, to) = cc in
          let same = ap (λ (p : Draft × ℕ). p.0) both in
          let stays = ap (λ (p : Draft × ℕ). p.1) both in
          let f : further ≡ to + length {A = ℕ} [] = omega arith in
          let few = w.few in
          rw f
          (moved {next = next} (rw same (omega arith))
          (rw same (reads_line ∙ lines_nothing m.draft w.body at line _ e ∙ ap (λ (b : List ℕ). read_lines m.draft b (at + length line + 1) (lines_left text (line_end text at + 1))) (sym (append-nil w.body)))) puts)
      go (says k bytes) e told puts =
          let both : ◌≡◌ {A = Draft × ℕ} (next.draft, further) (with_line m.draft k (get_or bytes 0 0), to + length (image_bytes k bytes)) = cc in
          let same = ap (λ (p : Draft × ℕ). p.0) both in
          let goes = ap (λ (p : Draft × ℕ). p.1) both in
          let small = record_small m.draft k m.modest in
          let size = says_size m.draft line k bytes e in
          rw goes
          (moved {next = next} (rw same (grows m.draft k (get_or bytes 0 0) bytes to (omega arith) w.few)) (rw same (reads_line ∙ lines_says m.draft w.body at line _ e)) puts)
      go (unlike e rest) h told puts = let z : ◌≡◌ {A = ℕ} 0 1 = cc in absurd (omega arith)

  pub walk_wrong : {e : Expected} {i : ℕ} → Err (unlike_at e i) ≡ taken m.draft line to (read_line m.draft line) → reading text ≡ bad e (at + i)
  walk_wrong {e} {i} told = go (read_line m.draft line) refl told
    where
      go : (l : Line) → read_line m.draft line ≡ l → Err (unlike_at e i) ≡ taken m.draft line to l → reading text ≡ bad e (at + i)
      go nothing h told = let z : ◌≡◌ {A = ℕ} 0 1 = cc in absurd (omega arith)
      go (says k bytes) h told = let z : ◌≡◌ {A = ℕ} 0 1 = cc in absurd (omega arith)
      go (unlike f rest) h told =
          let both : unlike_at e i ≡ unlike_at f (length line - length rest) = cc in
          let same = ap (λ (u : Unlike). u.expected) both in
          let place = ap (λ (u : Unlike). u.at) both in
          rw (same, place) (reads_line ∙ lines_unlike m.draft w.body at line _ h)

-- ---- The end

module _ {text out₀ out : List ℕ} {m : ModestDraft} {at to : ℕ} (w : Walking text out₀ out m at to) (over : length text < at) where
  walk_ends : reading text ≡ read_end m.draft w.body (length text)
  unfolding read_lines
  walk_ends =
      let near = w.near in
      let end : at - 1 ≡ length text = omega arith in
      w.reads ∙ ap (read_lines m.draft w.body at) (left_none text at over) ∙ ap (read_end m.draft w.body) end

  pub walk_good : None ≡ what_is_missing m.draft → reading text ≡ good m.draft w.body
  unfolding read_end
  walk_good e = walk_ends ∙ rw (sym e, read_end)

  pub walk_lacks : {e : Expected} → Some e ≡ what_is_missing m.draft → reading text ≡ bad e (length text)
  unfolding read_end
  walk_lacks e = walk_ends ∙ rw (sym e, read_end)

-- a text that isn't of the form comes to no draft
pub never_drafted : {text : List ℕ} {e : Expected} {i : ℕ} {d : Draft} → reading text ≡ bad e i → Drafted text d → ⊥
never_drafted {text} {e} {i} {d} wrong drafted =
    let told : ◌≡◌ {A = Result Draft Unlike} (Err (unlike_at e i)) (Ok d) = sym (ap walked_to wrong) ∙ drafted.comes in
    let z : ◌≡◌ {A = ℕ} 0 1 = cc in
    omega arith
