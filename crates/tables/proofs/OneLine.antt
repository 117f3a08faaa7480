-- One line, step by step: the word that begins it, the end after its fields, and what it is read as by the rest after its gap.
use Prim.Native.Nat.{ℕ, ◌+◌, ◌≤◌, ◌<◌}
use mathlib.Core.Bool.{Bool, true, false, false≢true}
use mathlib.Core.List.{List, [], ◌∷◌}
use Rattle.std.specs.Prelude.{None, Some}
use mathlib.Core.Path.{◌≡◌, refl, sym, ◌∙◌, ap}
use native.Mathlib.Numerals.{add-one}
use native.Mathlib.Omega.{arith}
use lib.Dec.{eqb}
use lib.ListN.{length, get_or, drop, drop_of_length-le}
use lib.Seq.{drop-cons, drop-drop}
use Rattle.table.proofs.Tests.{both}
use Rattle.form.specs.Words.{Read, got, after_gap, ends_word, ends_line, begins, is_word}
use Rattle.form.specs.Fields.{spelled, fields_of, read_fields}
use Rattle.form.specs.inside.Steps.{Modest}
use Rattle.fields.specs.Promises.{fields_read}
use Rattle.fields.proofs.Promises.{modest_read}
use Rattle.form.specs.Reading.{nothing, says, unlike, in_order, has_room, keyword_in, keywords, ended, line_of, read_line}
use Rattle.form.specs.declared.Draft.{Draft}
use Rattle.form.specs.declared.Expected.TheVariants as expected
use Rattle.form.specs.declared.Keyword.{Keyword}

-- ---- The word: one that stands there is no longer than the rest of the line

begins_fits : (word rest : List ℕ) → begins word rest ≡ true → length word ≤ length rest
unfolding begins
begins_fits [] rest e = omega arith
begins_fits (w ∷ ws) [] e = absurd (false≢true e)
begins_fits (w ∷ ws) (c ∷ cs) e = let later = begins_fits ws cs (both (eqb w c) (begins ws cs) e).1 in omega arith

pub word_fits : (word rest : List ℕ) → is_word word rest ≡ true → length word ≤ length rest
unfolding is_word
word_fits word rest e = begins_fits word rest (both (begins word rest) (ends_word (drop (length word) rest)) e).0

-- the word that is known to stand there does
pub keyword_stands : (rest : List ℕ) (k : Keyword) (ks : List Keyword) → keyword_in rest ks ≡ Some k → is_word (spelled k) rest ≡ true
unfolding keyword_in
keyword_stands rest k [] e = let z : ◌≡◌ {A = ℕ} 0 1 = cc in absurd (omega arith)
keyword_stands rest k (j ∷ ks) e = go (is_word (spelled j) rest) refl e (keyword_stands rest k ks)
  where
    go : (is : Bool) → is_word (spelled j) rest ≡ is → elim is [ true ↦ Some j | false ↦ keyword_in rest ks ] ≡ Some k
        → (keyword_in rest ks ≡ Some k → is_word (spelled k) rest ≡ true) → is_word (spelled k) rest ≡ true
    go true h e later = let same : j ≡ k = cc in rw same at h
    go false h e later = later e

-- one of a list, from the j-th on, or one of those after it
module _ (rest : List ℕ) (ks : List Keyword) (j : ℕ) (k : Keyword) (there : j < length ks) where
  pub word_stands : is_word (spelled (get_or ks j k)) rest ≡ true → Some (get_or ks j k) ≡ keyword_in rest (drop j ks)
  unfolding keyword_in
  word_stands e = rw (drop-cons ks j k there, e, keyword_in)

  pub word_other : is_word (spelled (get_or ks j k)) rest ≡ false → keyword_in rest (drop (j + 1) ks) ≡ keyword_in rest (drop j ks)
  unfolding keyword_in
  word_other e = rw (drop-cons ks j k there, e, keyword_in, add-one)

pub word_none : (rest : List ℕ) (ks : List Keyword) (j : ℕ) → length ks ≤ j → None ≡ keyword_in rest (drop j ks)
unfolding keyword_in
word_none rest ks j over = rw (drop_of_length-le ks over)

-- ---- The fields after the word

-- a line that may stand there ends after its fields, or not
pub line_fields : (d : Draft) (k : Keyword) (line : List ℕ) (at from : ℕ) (read : Read) → in_order d k ≡ true → has_room d k ≡ true → Modest d
    → from ≡ at + length (spelled k) → read ≡ fields_read d k (drop from line) → line_of d k (drop at line) ≡ ended k read
unfolding line_of
line_fields d k line at from read order room modest there reads =
    let after_word : drop (length (spelled k)) (drop at line) ≡ drop from line = drop-drop (length (spelled k)) at line ∙ ap (λ (n : ℕ). drop n line) (sym there) in
    rw (order, room, line_of)
    (ap (λ (r : List ℕ). ended k (read_fields (fields_of d k) [] r)) after_word ∙ ap (ended k) (sym (reads ∙ modest_read d k (drop from line) modest)))

-- ---- The end after the fields; `later` is what is left after the gap

module _ (k : Keyword) (bytes rest later : List ℕ) (g : later ≡ after_gap rest) where
  pub ended_says : ends_line later ≡ true → ended k (got bytes rest) ≡ says k bytes
  unfolding ended
  ended_says e = rw (rw g at e, ended)

  pub ended_unlike : ends_line later ≡ false → ended k (got bytes rest) ≡ unlike expected.LineEnd later
  unfolding ended
  ended_unlike e = rw (rw g at e, ended) (ap (unlike expected.LineEnd) (sym g))

-- ---- The line, which begins after the gap

module _ (d : Draft) (line rest : List ℕ) (g : rest ≡ after_gap line) where
  pub reads_nothing : ends_line rest ≡ true → read_line d line ≡ nothing
  unfolding read_line
  reads_nothing e = rw (rw g at e, read_line)

  pub reads_word : (k : Keyword) → ends_line rest ≡ false → keyword_in rest keywords ≡ Some k → read_line d line ≡ line_of d k rest
  unfolding read_line
  reads_word k e h = rw (rw g at e, read_line) (rw (rw g at h) (ap (line_of d k) (sym g)))

  pub reads_none : ends_line rest ≡ false → keyword_in rest keywords ≡ None → read_line d line ≡ unlike (expected.Line d.stage) rest
  unfolding read_line
  reads_none e h = rw (rw g at e, read_line) (rw (rw g at h) (ap (unlike (expected.Line d.stage)) (sym g)))
