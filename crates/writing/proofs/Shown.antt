-- Laws of what `show` writes, one step of a loop or one case of a test each: signs, years, the fields of a record, the records of a section, and the call.
use Prim.Native.Nat.{ℕ, zero, suc, ◌+◌, ◌-◌, ◌*◌, ◌≤◌, ◌<◌}
use mathlib.Core.Bool.{Bool, true, false, cond}
use mathlib.Core.List.{List, [], ◌∷◌, ◌++◌, flatten, append_assoc, append-nil}
use mathlib.Core.Logic.{◌⊎◌, inl, inr}
use mathlib.Core.Path.{◌≡◌, refl, sym, ◌∙◌, ap, subst}
use native.Mathlib.Nat.{zero-add}
use native.Mathlib.Numerals.{add-one}
use native.Mathlib.Omega.{arith}
use borrow.Author.Tests.{le-leb, lt-leb, eq-eqb, ne_eqb}
use lib.Dec.{eqb}
use lib.ListN.{length, get_or, take, drop, take-append-drop}
use lib.Seq.{sets, sets-eq, take-suc, take_all, drop-cons}
use Rattle.table.specs.Numbers.{most_length, no_cell, earliest_year, latest_year}
use Rattle.table.specs.Search.{list_from, list_of}
use Rattle.table.specs.Sections.{number_at, sections_of, record_part}
use Rattle.table.specs.Verdict.{verdict_of}
use Rattle.table.specs.inside.Wrote.{Wrote}
use Rattle.table.specs.declared.Refusal.{Refusal}
use Rattle.table.specs.declared.Refusal.TheVariants.{Room}
use Rattle.table.specs.declared.Section.{Section}
use Rattle.table.specs.declared.Sections.{Sections}
use Rattle.form.specs.Numbers.{line_feed, from_word, to_word}
use Rattle.form.specs.Fields.{spelled, fields_of, size_of, sizes_of}
use Rattle.form.specs.Showing.{spaces, rightward, shown_number, signs_before, shown_numbers, shown_year, shown_years, shown_signs, shown_tail, shown_field, shown_fields, shown_line, head_of, shown_record, shown_section, shown_in, shown}
use Rattle.form.specs.Calls.{Outcome, refused, done, roomed, showing}
use Rattle.form.specs.Promises.{Ends}
use Rattle.form.specs.declared.Undrawn.TheVariants.{Refused}
use Rattle.std.specs.Prelude.{Ok, Err}
use Rattle.writing.specs.inside.Puts.{Puts, Stringed, Fitting}
use Rattle.form.specs.inside.Steps.{Modest}
use Rattle.form.specs.declared.Draft.{Draft}
use Rattle.form.specs.declared.Field.{Field}
use Rattle.form.specs.declared.Field.TheVariants.{Symbol, Row}
use Rattle.form.specs.declared.Keyword.{Keyword}
use Rattle.form.specs.declared.Keyword.TheVariants.{Dated, Classes, Variables, Letter, Entry, Context, Transition, Decision}

-- ---- Signs

-- a 99 ends them
pub signs_stop : (bytes : List ℕ) (at n : ℕ) → get_or bytes at 0 ≡ no_cell → signs_before bytes at n ≡ 0
unfolding signs_before
signs_stop bytes at zero e = refl
signs_stop bytes at (suc n) e = rw (eq-eqb (get_or bytes at 0) no_cell e, signs_before)

signs_more : (bytes : List ℕ) (at n : ℕ) → (get_or bytes at 0 ≡ no_cell → ⊥) → signs_before bytes at (suc n) ≡ suc (signs_before bytes (suc at) n)
unfolding signs_before
signs_more bytes at n d = rw (ne_eqb (get_or bytes at 0) no_cell d, signs_before)

-- any other sign is one more
pub signs_on : (bytes : List ℕ) (from j : ℕ) → j < 4 → (get_or bytes (from + j) 0 ≡ no_cell → ⊥)
    → signs_before bytes (from + j) (4 - j) ≡ suc (signs_before bytes (from + (j + 1)) (4 - (j + 1)))
signs_on bytes from j l d =
    ap (signs_before bytes (from + j)) (omega arith)
    ∙ signs_more bytes (from + j) (4 - (j + 1)) d
    ∙ ap (λ (x : ℕ). suc (signs_before bytes x (4 - (j + 1)))) (omega arith)

numbers_suc : (bytes : List ℕ) (at n : ℕ) → shown_numbers bytes at (suc n) ≡ shown_numbers bytes at n ++ shown_number 2 (get_or bytes (at + n) 0)
unfolding shown_numbers
numbers_suc bytes at zero = append-nil (shown_number 2 (get_or bytes at 0)) ∙ ap (λ (x : ℕ). shown_number 2 (get_or bytes x 0)) (omega arith)
numbers_suc bytes at (suc n) =
    ap (λ (r : List ℕ). shown_number 2 (get_or bytes at 0) ++ r) (numbers_suc bytes (suc at) n)
    ∙ sym (append_assoc (shown_number 2 (get_or bytes at 0)) (shown_numbers bytes (suc at) n) (shown_number 2 (get_or bytes (suc at + n) 0)))
    ∙ ap (λ (x : ℕ). shown_number 2 (get_or bytes at 0) ++ shown_numbers bytes (suc at) n ++ shown_number 2 (get_or bytes x 0)) (omega arith)

pub numbers_more : (bytes : List ℕ) (at n : ℕ) → shown_numbers bytes at n ++ shown_number 2 (get_or bytes (at + n) 0) ≡ shown_numbers bytes at (n + 1)
numbers_more bytes at n = sym (numbers_suc bytes at n) ∙ ap (shown_numbers bytes at) (sym (add-one n))

-- ---- Years

module _ (word : List ℕ) (unsaid n : ℕ) where
  pub year_unsaid : n ≡ unsaid → [] ≡ shown_year word unsaid n
  unfolding shown_year
  year_unsaid e = rw (eq-eqb n unsaid e, shown_year)

  pub year_said : (n ≡ unsaid → ⊥) → rightward 0 word ++ shown_number 4 n ≡ shown_year word unsaid n
  unfolding shown_year
  year_said d = rw (ne_eqb n unsaid d, shown_year)

module _ (missing first last : ℕ) where
  pub years_always : first ≡ earliest_year → last ≡ latest_year → [] ≡ shown_years missing first last
  unfolding shown_years
  years_always e l = rw (eq-eqb first earliest_year e, eq-eqb last latest_year l, shown_years)

  pub years_said : ((first ≡ earliest_year) × (last ≡ latest_year → ⊥)) ⊎ (first ≡ earliest_year → ⊥)
      → spaces (3 * missing) ++ shown_year from_word earliest_year first ++ shown_year to_word latest_year last ≡ shown_years missing first last
  unfolding shown_years
  years_said (inl (e, other)) = rw (eq-eqb first earliest_year e, ne_eqb last latest_year other, shown_years)
  years_said (inr other) = rw (ne_eqb first earliest_year other, shown_years)

-- ---- The last field of an entry

module _ (dated : Bool) (bytes : List ℕ) (at : ℕ) where
  pub tail_dated : (n first last : ℕ) → dated ≡ true → n ≡ signs_before bytes at 4 → first ≡ number_at bytes (at + 4) → last ≡ number_at bytes (at + 6)
      → shown_signs bytes at ++ shown_years (4 - n) first last ≡ shown_tail dated bytes at
  unfolding shown_tail
  tail_dated n first last e a b c = rw (e, a, b, c)

  pub tail_undated : dated ≡ false → shown_signs bytes at ≡ shown_tail dated bytes at
  unfolding shown_tail
  tail_undated e = rw e (sym (append-nil (shown_signs bytes at)))

-- ---- The first word

pub spelled_short : (k : Keyword) → length (spelled k) ≤ 10
spelled_short Dated = omega arith
spelled_short Classes = omega arith
spelled_short Variables = omega arith
spelled_short Letter = omega arith
spelled_short Entry = omega arith
spelled_short Context = omega arith
spelled_short Transition = omega arith
spelled_short Decision = omega arith

-- ---- The fields of a record

sizes_append : (xs ys : List Field) → sizes_of (xs ++ ys) ≡ sizes_of xs + sizes_of ys
unfolding sizes_of
sizes_append [] ys = omega arith
sizes_append (f ∷ xs) ys = let h = sizes_append xs ys in omega arith

fields_append : (xs : List Field) (f : Field) (bytes : List ℕ) (at : ℕ)
    → shown_fields (xs ++ f ∷ []) bytes at ≡ shown_fields xs bytes at ++ shown_field f bytes (at + sizes_of xs)
unfolding shown_fields sizes_of
fields_append [] f bytes at = append-nil (shown_field f bytes at) ∙ ap (shown_field f bytes) (omega arith)
fields_append (x ∷ xs) f bytes at =
    ap (λ (r : List ℕ). shown_field x bytes at ++ r) (fields_append xs f bytes (at + size_of x))
    ∙ sym (append_assoc (shown_field x bytes at) (shown_fields xs bytes (at + size_of x)) (shown_field f bytes (at + size_of x + sizes_of xs)))
    ∙ ap (λ (n : ℕ). shown_field x bytes at ++ shown_fields xs bytes (at + size_of x) ++ shown_field f bytes n) (omega arith)

pub fields_few : (d : Draft) (k : Keyword) → length (fields_of d k) ≤ 4
unfolding fields_of
fields_few d Dated = omega arith
fields_few d Classes = omega arith
fields_few d Variables = omega arith
fields_few d Letter = omega arith
fields_few d Entry = omega arith
fields_few d Context = omega arith
fields_few d Transition = omega arith
fields_few d Decision = go (eqb d.variables 0)
  where
    go : (none : Bool) → length (Row d.classes ∷ cond none [] (Row d.variables ∷ [])) ≤ 4
    go true = omega arith
    go false = omega arith

sizes_modest : (d : Draft) (k : Keyword) → Modest d → sizes_of (fields_of d k) ≤ 64
unfolding fields_of sizes_of
sizes_modest d Dated m = omega arith
sizes_modest d Classes m = omega arith
sizes_modest d Variables m = omega arith
sizes_modest d Letter m = omega arith
sizes_modest d Entry m = go d.dated
  where
    go : (dated : Bool) → 11 + (2 + (1 + (cond dated 8 4 + 0))) ≤ 64
    go true = omega arith
    go false = omega arith
sizes_modest d Context m = omega arith
sizes_modest d Transition m = let h = m.classes in omega arith
sizes_modest d Decision m = go (eqb d.variables 0)
  where
    go : (none : Bool) → d.classes + sizes_of (cond none [] (Row d.variables ∷ [])) ≤ 64
    go true = let h = m.classes in omega arith
    go false = let h = m.classes in let g = m.variables in omega arith

-- only the first field of an entry is a string
stringed : (d : Draft) (k : Keyword) (bytes : List ℕ) → (k ≡ Entry → get_or bytes 0 0 ≤ most_length) → (j : ℕ)
    → Stringed (get_or (fields_of d k) j Symbol) bytes (sizes_of (take j (fields_of d k)))
unfolding fields_of sizes_of
stringed d Dated bytes s j = tt
stringed d Classes bytes s zero = tt
stringed d Classes bytes s (suc j) = tt
stringed d Variables bytes s zero = tt
stringed d Variables bytes s (suc j) = tt
stringed d Letter bytes s zero = tt
stringed d Letter bytes s (suc zero) = tt
stringed d Letter bytes s (suc (suc zero)) = tt
stringed d Letter bytes s (suc (suc (suc j))) = tt
stringed d Entry bytes s zero = s refl
stringed d Entry bytes s (suc zero) = tt
stringed d Entry bytes s (suc (suc zero)) = tt
stringed d Entry bytes s (suc (suc (suc zero))) = tt
stringed d Entry bytes s (suc (suc (suc (suc j)))) = tt
stringed d Context bytes s zero = tt
stringed d Context bytes s (suc zero) = tt
stringed d Context bytes s (suc (suc zero)) = tt
stringed d Context bytes s (suc (suc (suc zero))) = tt
stringed d Context bytes s (suc (suc (suc (suc j)))) = tt
stringed d Transition bytes s zero = tt
stringed d Transition bytes s (suc j) = tt
stringed d Decision bytes s zero = tt
stringed d Decision bytes s (suc j) = go (eqb d.variables 0) j
  where
    go : (none : Bool) (j : ℕ)
        → Stringed (get_or (cond none [] (Row d.variables ∷ [])) j Symbol) bytes (d.classes + sizes_of (take j (cond none [] (Row d.variables ∷ []))))
    go true j = tt
    go false zero = tt
    go false (suc j) = tt

module _ (d : Draft) (k : Keyword) (bytes : List ℕ) (j : ℕ) (there : j < length (fields_of d k)) (field : Field) (from : ℕ)
    (is : field ≡ get_or (fields_of d k) j Symbol) (at : from ≡ sizes_of (take j (fields_of d k))) where
  abbrev fields : List Field
  fields = fields_of d k

  next : take (j + 1) fields ≡ take j fields ++ field ∷ []
  next = rw (add-one j, is) (take-suc fields j Symbol there)

  -- what `put_field` requires of field `j`
  pub field_asked : Modest d → Fitting d k bytes → (size_of field ≤ 64) × (from + size_of field ≤ length bytes) × Stringed field bytes from
  unfolding sizes_of
  field_asked m fits =
      let all : sizes_of fields ≡ sizes_of (take j fields) + sizes_of (drop j fields) =
      ap sizes_of (sym (take-append-drop j fields)) ∙ sizes_append (take j fields) (drop j fields) in
      let here : sizes_of (drop j fields) ≡ size_of field + sizes_of (drop (suc j) fields) =
      ap sizes_of (drop-cons fields j Symbol there) ∙ ap (λ (f : Field). size_of f + sizes_of (drop (suc j) fields)) (sym is) in
      let few = sizes_modest d k m in
      let long = fits.size in
      (omega arith, omega arith, rw (is, at) (stringed d k bytes fits.string j))

  pub sizes_step : from + size_of field ≡ sizes_of (take (j + 1) (fields_of d k))
  unfolding sizes_of
  sizes_step = let h = ap sizes_of next ∙ sizes_append (take j fields) (field ∷ []) in omega arith

  pub fields_step : shown_fields (take j (fields_of d k)) bytes 0 ++ shown_field field bytes from ≡ shown_fields (take (j + 1) (fields_of d k)) bytes 0
  fields_step =
      ap (λ (n : ℕ). shown_fields (take j fields) bytes 0 ++ shown_field field bytes n) (omega arith)
      ∙ sym (fields_append (take j fields) field bytes 0)
      ∙ ap (λ (r : List Field). shown_fields r bytes 0) (sym next)

-- after the last field
pub fields_all : (d : Draft) (k : Keyword) (bytes : List ℕ) (j : ℕ) → length (fields_of d k) ≤ j
    → shown_fields (take j (fields_of d k)) bytes 0 ≡ shown_fields (fields_of d k) bytes 0
fields_all d k bytes j l = ap (λ (r : List Field). shown_fields r bytes 0) (take_all j (fields_of d k) l)

-- ---- The first lines

abbrev pub dated_line : Draft → List ℕ
dated_line d = elim d.dated [ true ↦ shown_line d Dated [] | false ↦ [] ]

pub line_dated : (d : Draft) → d.dated ≡ true → shown_line d Dated [] ≡ dated_line d
line_dated d e = rw e

pub line_undated : (d : Draft) → d.dated ≡ false → [] ≡ dated_line d
line_undated d e = rw e

pub fits_dated : (d : Draft) → Fitting d Dated []
unfolding fields_of sizes_of
fits_dated d = record { size = refl; string = λ e. let no : ◌≡◌ {A = ℕ} 0 1 = cc in omega arith }

pub fits_classes : (d : Draft) (n : ℕ) → Fitting d Classes (n ∷ [])
unfolding fields_of sizes_of
fits_classes d n = record { size = refl; string = λ e. let no : ◌≡◌ {A = ℕ} 0 1 = cc in omega arith }

pub fits_variables : (d : Draft) (n : ℕ) → Fitting d Variables (n ∷ [])
unfolding fields_of sizes_of
fits_variables d n = record { size = refl; string = λ e. let no : ◌≡◌ {A = ℕ} 0 1 = cc in omega arith }

-- ---- The records of a section

records_suc : (line : ℕ → List ℕ) (i n : ℕ) → flatten (list_from line i (suc n)) ≡ flatten (list_from line i n) ++ line (i + n)
unfolding flatten list_from
records_suc line i zero = append-nil (line i) ∙ ap line (omega arith)
records_suc line i (suc n) =
    ap (λ (r : List ℕ). line i ++ r) (records_suc line (suc i) n)
    ∙ sym (append_assoc (line i) (flatten (list_from line (suc i) n)) (line (suc i + n)))
    ∙ ap (λ (k : ℕ). line i ++ flatten (list_from line (suc i) n) ++ line k) (omega arith)

records_more : (line : ℕ → List ℕ) (n : ℕ) → flatten (list_of line n) ++ line n ≡ flatten (list_of line (n + 1))
records_more line n =
    ap (λ (k : ℕ). flatten (list_of line n) ++ line k) (omega arith)
    ∙ sym (records_suc line 0 n)
    ∙ ap (λ (k : ℕ). flatten (list_of line k)) (sym (add-one n))

module _ (d : Draft) (k : Keyword) (image : List ℕ) (s : Section) where
  -- one record more, whose bytes are these
  pub records_step : (i : ℕ) (bytes : List ℕ) → bytes ≡ record_part image s i 0 s.size
      → flatten (list_of (shown_record d k image s) i) ++ shown_line d k bytes ≡ flatten (list_of (shown_record d k image s) (i + 1))
  unfolding shown_record
  records_step i bytes e =
      ap (λ (b : List ℕ). flatten (list_of (shown_record d k image s) i) ++ shown_line d k b) e ∙ records_more (shown_record d k image s) i

  pub section_none : s.records ≡ 0 → [] ≡ shown_section d k image s
  unfolding shown_section
  section_none e = rw (eq-eqb s.records 0 e, shown_section)

  pub section_some : (s.records ≡ 0 → ⊥) → (line_feed ∷ []) ++ flatten (list_of (shown_record d k image s) s.records) ≡ shown_section d k image s
  unfolding shown_section
  section_some e = rw (ne_eqb s.records 0 e, shown_section)

-- ---- The call

roomed_done : (out bytes : List ℕ) → length bytes ≤ length out → roomed out bytes ≡ done out bytes
unfolding roomed
roomed_done out bytes l = rw (le-leb (length bytes) (length out) l, roomed)

roomed_refused : (out bytes : List ℕ) → length out < length bytes → roomed out bytes ≡ refused out (Err (Refused (Room (length bytes))))
unfolding roomed
roomed_refused out bytes l = rw (lt-leb (length bytes) (length out) l, roomed)

pub show_unaccepted : (image out : List ℕ) (r : Refusal) → verdict_of image ≡ Err r → showing image out ≡ refused out (Err (Refused r))
unfolding showing
show_unaccepted image out r v = rw (v, showing)

show_accepted : (image out : List ℕ) (s : Sections) (d : Draft) → s ≡ sections_of image → d ≡ head_of s → verdict_of image ≡ Ok tt
    → showing image out ≡ roomed out (shown_in image d s)
unfolding showing shown
show_accepted image out s d at head v = rw (v, showing, head, at)

-- what the code hands back
pub ends_refused : (o : Outcome) (out : List ℕ) (r : Refusal) → o ≡ refused out (Err (Refused r)) → Ends o (Err (Refused r)) out
unfolding refused
ends_refused o out r e = record { answers = sym (ap (λ (x : Outcome). x.answer) e); leaves = sym (ap (λ (x : Outcome). x.output) e) }

-- the bytes are written at the front
ends_done : (o : Outcome) (out bytes after : List ℕ) → o ≡ done out bytes → length bytes ≤ length out → Wrote out 0 bytes after
    → Ends o (Ok (length bytes)) after
unfolding done
ends_done o out bytes after e l w =
    let front : sets out 0 bytes ≡ bytes ++ drop (length bytes) out =
    sets-eq bytes out 0 (omega arith) ∙ ap (λ (n : ℕ). bytes ++ drop n out) (zero-add (length bytes)) in
    record {
      answers = sym (ap (λ (x : Outcome). x.answer) e);
      leaves = w.leaves ∙ front ∙ sym (ap (λ (x : Outcome). x.output) e);
    }

module _ (image out : List ℕ) (s : Sections) (d : Draft) (located : s ≡ sections_of image) (head : d ≡ head_of s) (accepts : verdict_of image ≡ Ok tt)
    (needed : ℕ) (measured : needed ≡ 0 + length (shown_in image d s)) where
  abbrev bytes : List ℕ
  bytes = shown_in image d s

  is : length bytes ≡ needed
  is = sym (measured ∙ zero-add (length bytes))

  pub show_short : length out < needed → Ends (showing image out) (Err (Refused (Room needed))) out
  show_short l =
      let long = is in
      subst (λ (n : ℕ). Ends (showing image out) (Err (Refused (Room n))) out) is
      (ends_refused (showing image out) out (Room (length bytes)) (show_accepted image out s d located head accepts ∙ roomed_refused out bytes (omega arith)))

  pub show_done : (r : ℕ) (after : List ℕ) → needed ≤ length out → Puts out 0 (shown_in image d s) r after → Ends (showing image out) (Ok needed) after
  show_done r after l p =
      let long = is in
      let fits : length bytes ≤ length out = omega arith in
      subst (λ (n : ℕ). Ends (showing image out) (Ok n) after) is
      (ends_done (showing image out) out bytes after (show_accepted image out s d located head accepts ∙ roomed_done out bytes fits) fits (p.writes (omega arith)))
