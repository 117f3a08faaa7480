-- What each public function of tlopahuexi promises, as a relation between what it is given and what it leaves. proofs/Promises.antt shows that any two
-- results that a promise allows are equal.
use Rattle.std.specs.Prelude.{ℕ, List, [], ◌∷◌, ◌≡◌, Result, Ok, Err}
use Rattle.table.specs.Numbers.{number_done, no_place}
use Rattle.table.specs.Answers.{Verdict, refusal_number, refusal_place}
use Rattle.table.specs.declared.Refusal.{Refusal}
use Rattle.judge.specs.Promises.{Checked}
use Rattle.stamp.specs.Stamping.{number as number_of_stamped, place as place_of_stamped, first, second}
use Rattle.stamp.specs.Promises.{Stamps}
use Rattle.stamp.specs.declared.Stamped.{Stamped}
use Rattle.dates.specs.Moving.{Outcome, number as number_of_moved, place as place_of_moved, written as written_of_moved}
use Rattle.dates.specs.Promises.{Ends}
use Rattle.form.specs.Calls.{Outcome as OutcomeOfDrawn, number_of, place_of, written_of, line_of, column_of}
use Rattle.form.specs.Promises.{Ends as EndsDrawn}
use Rattle.form.specs.declared.Undrawn.{Undrawn}
use Rattle.inkprint.specs.Calls.{number_of as number_of_inked, place_of as place_of_inked, written_of as written_of_inked}
use Rattle.inkprint.specs.Promises.{Inks}
use Rattle.inkprint.specs.declared.Uninked.{Uninked}
use Rattle.layout.specs.Emboss.{number, place, written, pieces, lines, pages}
use Rattle.layout.specs.Promises.{Embossed}
use Rattle.layout.specs.declared.Laid.{Laid}
use Rattle.embosser.specs.Filing.{number as number_of_filed, place as place_of_filed, written as written_of_filed}
use Rattle.embosser.specs.Promises.{Files}
use Rattle.embosser.specs.declared.Kind.{Kind}

-- the six values of an answer, in the paper's order
unfoldable pub six_values : Result Laid Refusal → List ℕ
six_values a = number a ∷ place a ∷ written a ∷ pieces a ∷ lines a ∷ pages a ∷ []

-- `tlopahuexi_emboss`: an answer that `emboss` promises, with its output, and that answer's six values
pub record Pressed (image text : List ℕ) (following year W P : ℕ) (before after values : List ℕ) : Type 0 where
  pub answer : Result Laid Refusal
  pub embosses : Embossed (record { following = following; year = year }) image text (record { width = W; length = P }) before answer after
  pub tells : values ≡ six_values answer

-- the three values of an answer, by the number and the place of its refusal: number, place, bytes written
module _ {R : Type 0} where
  abbrev pub three_in : (R → ℕ) → (R → ℕ) → Result ℕ R → List ℕ
  three_in number place (Ok written) = number_done ∷ no_place ∷ written ∷ []
  three_in number place (Err refusal) = number refusal ∷ place refusal ∷ 0 ∷ []

-- the three values that an answer about a file has, in the same order
unfoldable pub three_values : Result ℕ Refusal → List ℕ
three_values a = number_of_filed a ∷ place_of_filed a ∷ written_of_filed a ∷ []

-- `tlopahuexi_write_file` of a layout and `tlopahuexi_read_file` of a file: an answer that `write_file` or `read_file` promises, with its output, and that
-- answer's three values
pub record Converted (kind : Kind) (bytes : List ℕ) (W P : ℕ) (before after values : List ℕ) : Type 0 where
  pub answer : Result ℕ Refusal
  pub files : Files kind (record { width = W; length = P }) bytes before answer after
  pub tells : values ≡ three_values answer

-- the two values of a verdict: an accepted image has number and place 0
unfoldable pub two_values : Verdict → List ℕ
two_values (Ok _) = number_done ∷ no_place ∷ []
two_values (Err r) = refusal_number r ∷ refusal_place r ∷ []

-- `tlopahuexi_check`: a verdict that `check` promises, and that verdict's two values
pub record Judged (image values : List ℕ) : Type 0 where
  pub verdict : Verdict
  pub checks : Checked image verdict
  pub tells : values ≡ two_values verdict

-- the four values that the answer of a stamping has
unfoldable pub four_values : Result Stamped Refusal → List ℕ
four_values a = number_of_stamped a ∷ place_of_stamped a ∷ first a ∷ second a ∷ []

-- `tlopahuexi_stamp`: an answer that `stamp` promises, and that answer's four values
pub record Marked (image values : List ℕ) : Type 0 where
  pub answer : Result Stamped Refusal
  pub stamps : Stamps image answer
  pub tells : values ≡ four_values answer

-- the three values of a mover's answer, in the order of a file's
unfoldable pub moved_values : Result ℕ Refusal → List ℕ
moved_values a = number_of_moved a ∷ place_of_moved a ∷ written_of_moved a ∷ []

-- `tlopahuexi_date` and `tlopahuexi_undate`: an answer that `date` or `undate` promises, which is that of the definitions' outcome, with its output, and that
-- answer's three values
pub record Recast (outcome : Outcome) (after values : List ℕ) : Type 0 where
  pub answer : Result ℕ Refusal
  pub ends : Ends outcome answer after
  pub tells : values ≡ moved_values answer

-- the five values of an answer about a readable table
unfoldable pub five_values : Result ℕ Undrawn → List ℕ
five_values a = number_of a ∷ place_of a ∷ written_of a ∷ line_of a ∷ column_of a ∷ []

-- `tlopahuexi_show` and `tlopahuexi_make`: an answer that `show` or `make` promises, which is that of the definitions' outcome, with its output, and that
-- answer's five values
pub record Redrawn (outcome : OutcomeOfDrawn) (after values : List ℕ) : Type 0 where
  pub answer : Result ℕ Undrawn
  pub ends : EndsDrawn outcome answer after
  pub tells : values ≡ five_values answer

-- the three values of an answer about inkprint
unfoldable pub inked_values : Result ℕ Uninked → List ℕ
inked_values a = number_of_inked a ∷ place_of_inked a ∷ written_of_inked a ∷ []

-- `tlopahuexi_mark`: an answer that `mark` promises, with its output, and that answer's three values
pub record Inkprinted (text before after values : List ℕ) : Type 0 where
  pub answer : Result ℕ Uninked
  pub inks : Inks text before answer after
  pub tells : values ≡ inked_values answer
