-- A readable table, line by line: which line may stand where, how many of each there may be, and the image that the lines make. The lines stand in the
-- image's order: dated, classes, variables, then letters, entries, contexts, transitions, decisions; empty lines and remarks stand anywhere.
use Rattle.std.specs.Prelude.{ℕ, suc, ◌+◌, ◌-◌, ◌*◌, Bool, true, false, cond, ◌||◌, Option, None, Some, List, [], ◌∷◌, ◌++◌, leb, ltb, eqb, length, get_or, take, drop}
use Rattle.table.specs.Numbers.{letter_size, least_letters, most_letters, entry_size, dated_entry_size, most_entries, context_size, most_contexts, most_columns, first_mark, second_mark, dated_mark}
use Rattle.table.specs.Search.{within, count}
use Rattle.form.specs.Numbers.{line_feed}
use Rattle.form.specs.Words.{Read, got, wrong, after_gap, ends_line, is_word}
use Rattle.form.specs.Fields.{spelled, fields_of, number_bytes, read_fields}
use Rattle.form.specs.declared.Draft.{Draft}
use Rattle.form.specs.declared.Expected.{Expected}
use Rattle.form.specs.declared.Expected.TheVariants as expected
use Rattle.form.specs.declared.Keyword.{Keyword}
use Rattle.form.specs.declared.Keyword.TheVariants.{Dated, Classes, Variables, Letter, Entry, Context, Transition, Decision}

-- ---- Lines: a line feed ends one, and the text's end ends the last

-- the character goes to the front of the first line
unfoldable pub on_first : ℕ → List (List ℕ) → List (List ℕ)
on_first c [] = (c ∷ []) ∷ []
on_first c (line ∷ lines) = (c ∷ line) ∷ lines

unfoldable pub lines_of : List ℕ → List (List ℕ)
lines_of [] = [] ∷ []
lines_of (c ∷ cs) = elim (eqb c line_feed) [ true ↦ [] ∷ lines_of cs | false ↦ on_first c (lines_of cs) ]

-- the line of a place of the text, and its column, both counted from 1
unfoldable pub line_at : List ℕ → ℕ → ℕ
line_at text at = suc (count line_feed (take at text))

-- the characters since the last line feed, `n` before these
unfoldable pub since_feed : ℕ → List ℕ → ℕ
since_feed n [] = n
since_feed n (c ∷ cs) = elim (eqb c line_feed) [ true ↦ since_feed 0 cs | false ↦ since_feed (suc n) cs ]

unfoldable pub column_at : List ℕ → ℕ → ℕ
column_at text at = suc (since_feed 0 (take at text))

-- ---- What the lines so far say. A draft's stage is the rank of the last one, 0 where there is none

abbrev pub rank : Keyword → ℕ
rank Dated = 1
rank Classes = 2
rank Variables = 3
rank Letter = 4
rank Entry = 5
rank Context = 6
rank Transition = 7
rank Decision = 8

-- the stages at which a line may stand: `dated` first, or `classes`; then `variables`; then the others, none after one of a higher rank
abbrev pub in_order : Draft → Keyword → Bool
in_order d Dated = eqb d.stage 0
in_order d Classes = leb d.stage 1
in_order d Variables = eqb d.stage 2
in_order d Letter = within 3 4 d.stage
in_order d Entry = within 3 5 d.stage
in_order d Context = within 3 6 d.stage
in_order d Transition = within 3 7 d.stage
in_order d Decision = within 3 8 d.stage

-- there may be one more of these
abbrev pub has_room : Draft → Keyword → Bool
has_room d Dated = true
has_room d Classes = true
has_room d Variables = true
has_room d Letter = ltb d.letters most_letters
has_room d Entry = ltb d.entries most_entries
has_room d Context = ltb d.contexts most_contexts
has_room d Transition = ltb d.transitions d.variables
has_room d Decision = ltb d.decisions most_columns

abbrev pub start : Draft
start =
    record { stage = 0; dated = false; classes = 0; variables = 0; letters = 0; entries = 0; contexts = 0; transitions = 0; decisions = 0 }

abbrev pub same : Keyword → Keyword → Bool
same k j = eqb (rank k) (rank j)

abbrev pub one : Bool → ℕ
one test = cond test 1 0

-- one line more, whose first byte is `n`
unfoldable pub with_line : Draft → Keyword → ℕ → Draft
with_line d k n =
    record {
      stage = rank k;
      dated = d.dated || same k Dated;
      classes = cond (same k Classes) n d.classes;
      variables = cond (same k Variables) n d.variables;
      letters = d.letters + one (same k Letter);
      entries = d.entries + one (same k Entry);
      contexts = d.contexts + one (same k Context);
      transitions = d.transitions + one (same k Transition);
      decisions = d.decisions + one (same k Decision);
    }

-- the bytes of the image that a line gives: the first three lines speak of the trailer, and give none
unfoldable pub image_bytes : Keyword → List ℕ → List ℕ
image_bytes k bytes = elim (ltb (rank Variables) (rank k)) [ true ↦ bytes | false ↦ [] ]

-- ---- One line

pub data Line : Type 0 where
  nothing : Line
  says : Keyword → List ℕ → Line
  unlike : Expected → List ℕ → Line

-- the word that the rest begins with
unfoldable pub keyword_in : List ℕ → List Keyword → Option Keyword
keyword_in rest [] = None
keyword_in rest (k ∷ ks) = elim (is_word (spelled k) rest) [ true ↦ Some k | false ↦ keyword_in rest ks ]

abbrev pub keywords : List Keyword
keywords = Dated ∷ Classes ∷ Variables ∷ Letter ∷ Entry ∷ Context ∷ Transition ∷ Decision ∷ []

-- after the fields the line ends
unfoldable pub ended : Keyword → Read → Line
ended k (got bytes rest) = elim (ends_line (after_gap rest)) [ true ↦ says k bytes | false ↦ unlike expected.LineEnd (after_gap rest) ]
ended k (wrong e rest) = unlike e rest

unfoldable pub line_of : Draft → Keyword → List ℕ → Line
line_of d k rest =
    elim (in_order d k) [
      | true ↦
          elim (has_room d k) [
            | true ↦ ended k (read_fields (fields_of d k) [] (drop (length (spelled k)) rest))
            | false ↦ unlike expected.Fewer rest
          ]
      | false ↦ unlike (expected.Line d.stage) rest
    ]

unfoldable pub read_line : Draft → List ℕ → Line
read_line d line =
    elim (ends_line (after_gap line)) [
      | true ↦ nothing
      | false ↦ elim (keyword_in (after_gap line) keywords) [ Some k ↦ line_of d k (after_gap line) | None ↦ unlike (expected.Line d.stage) (after_gap line) ]
    ]

-- ---- The whole text: the last draft and the sections' bytes, or the place of the first byte that isn't of the form

pub data Reading : Type 0 where
  good : Draft → List ℕ → Reading
  bad : Expected → ℕ → Reading

-- at the text's end nothing is missing
abbrev pub what_is_missing : Draft → Option Expected
what_is_missing d =
    cond (ltb d.stage 3) (Some (expected.Line d.stage))
    (cond (ltb d.letters least_letters) (Some expected.Letter) (cond (ltb d.transitions d.variables) (Some expected.Transition) None))

unfoldable pub read_end : Draft → List ℕ → ℕ → Reading
read_end d body end = elim (what_is_missing d) [ None ↦ good d body | Some e ↦ bad e end ]

-- the next line starts at `at`, one past the line feed, or past the end
unfoldable pub read_lines : Draft → List ℕ → ℕ → List (List ℕ) → Reading
read_lines d body at [] = read_end d body (at - 1)
read_lines d body at (line ∷ lines) =
    elim (read_line d line) [
      | nothing ↦ read_lines d body (at + length line + 1) lines
      | says k bytes ↦ read_lines (with_line d k (get_or bytes 0 0)) (body ++ image_bytes k bytes) (at + length line + 1) lines
      | unlike e rest ↦ bad e (at + (length line - length rest))
    ]

unfoldable pub reading : List ℕ → Reading
reading text = read_lines start [] 0 (lines_of text)

-- ---- The image: the sections, back to back, and the trailer

unfoldable pub entry_size_for : Draft → ℕ
entry_size_for d = cond d.dated dated_entry_size entry_size

-- the five distances, from the last section's to the first's
unfoldable pub decisions_for : Draft → ℕ
decisions_for d = (d.classes + d.variables) * d.decisions

unfoldable pub transitions_for : Draft → ℕ
transitions_for d = d.classes * d.transitions + decisions_for d

unfoldable pub contexts_for : Draft → ℕ
contexts_for d = context_size * d.contexts + transitions_for d

unfoldable pub entries_for : Draft → ℕ
entries_for d = entry_size_for d * d.entries + contexts_for d

unfoldable pub letters_for : Draft → ℕ
letters_for d = letter_size * d.letters + entries_for d

unfoldable pub trailer_for : Draft → List ℕ
trailer_for d =
    number_bytes (letters_for d)
    ++ number_bytes (entries_for d)
    ++ number_bytes (contexts_for d)
    ++ number_bytes (transitions_for d)
    ++ number_bytes (decisions_for d)
    ++ d.classes
    ∷ d.variables
    ∷ first_mark
    ∷ cond d.dated dated_mark second_mark
    ∷ []

unfoldable pub image_of : Draft → List ℕ → List ℕ
image_of d body = body ++ trailer_for d
