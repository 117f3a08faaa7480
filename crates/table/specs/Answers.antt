-- 'What comes back', for the calls of every layer: the number and the place of each refusal.
use Rattle.std.specs.Prelude.{ℕ, Result, Ok, Err}
use Rattle.table.specs.Numbers.{number_done, number_frame, number_alphabet, number_contractions, number_contexts, number_transitions, number_decisions, number_no_blank, number_grouping, number_size, number_long_text, number_unknown, number_following, number_file, number_dated, number_room, no_place, most_text}
use Rattle.table.specs.declared.Refusal.{Refusal}
use Rattle.table.specs.declared.Refusal.TheVariants as why

abbrev pub refusal_number : Refusal → ℕ
refusal_number why.Frame = number_frame
refusal_number (why.Alphabet at) = number_alphabet
refusal_number (why.Contraction at) = number_contractions
refusal_number (why.Context at) = number_contexts
refusal_number (why.Transition at) = number_transitions
refusal_number (why.Decision at) = number_decisions
refusal_number why.NoBlank = number_no_blank
refusal_number (why.Grouping at) = number_grouping
refusal_number why.Size = number_size
refusal_number why.LongText = number_long_text
refusal_number (why.Unknown at) = number_unknown
refusal_number why.Following = number_following
refusal_number (why.File at) = number_file
refusal_number (why.Dated at) = number_dated
refusal_number (why.Room needed) = number_room

abbrev pub refusal_place : Refusal → ℕ
refusal_place why.Frame = no_place
refusal_place (why.Alphabet at) = at
refusal_place (why.Contraction at) = at
refusal_place (why.Context at) = at
refusal_place (why.Transition at) = at
refusal_place (why.Decision at) = at
refusal_place why.NoBlank = no_place
refusal_place (why.Grouping at) = at
refusal_place why.Size = no_place
refusal_place why.LongText = most_text
refusal_place (why.Unknown at) = at
refusal_place why.Following = no_place
refusal_place (why.File at) = at
refusal_place (why.Dated at) = at
refusal_place (why.Room needed) = needed

-- what a check answers: that all is right, or the refusal
abbrev pub Verdict : Type 0
Verdict = Result (Unit {0}) Refusal

-- the number and the place of an answer, by those of its refusal: 0 and 0 where the call is done
module _ {T R : Type 0} where
  abbrev pub number_in : (R → ℕ) → Result T R → ℕ
  number_in number (Ok done) = number_done
  number_in number (Err refusal) = number refusal

  abbrev pub place_in : (R → ℕ) → Result T R → ℕ
  place_in place (Ok done) = no_place
  place_in place (Err refusal) = place refusal
