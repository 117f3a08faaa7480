-- What the functions inside promise each other. No heading of docs/ENGLISH.md.
use Rattle.std.specs.Prelude.{ℕ, ◌≡◌, ◌+◌, ◌≤◌, ◌<◌, List, [], ◌∷◌, length, Result, Ok, Err}
use Rattle.table.specs.inside.Wrote.{Wrote}
use Rattle.inkprint.specs.Characters.{characters_of}
use Rattle.inkprint.specs.Marks.{Marking, marked, unmarked}
use Rattle.inkprint.specs.Calls.{Inked}
use Rattle.inkprint.specs.declared.Character.{Character}
use Rattle.inkprint.specs.declared.Signs.{Signs}
use Rattle.inkprint.specs.declared.Uninked.{Uninked}
use Rattle.inkprint.specs.declared.Uninked.TheVariants.{Unmarked}

-- what a marking comes to, its bytes aside
abbrev pub walked_to : Marking → Inked
walked_to (marked bytes) = Ok (length bytes)
walked_to (unmarked at) = Err (Unmarked at)

-- what it comes to where its bytes aren't counted
abbrev pub judged_as : Marking → Result (Unit {0}) Uninked
judged_as (marked bytes) = Ok tt
judged_as (unmarked at) = Err (Unmarked at)

-- the text begins with this character, and has the rest after it
pub record Begins (text : List ℕ) (c : Character) (rest : List ℕ) : Type 0 where
  pub first : characters_of text ≡ c ∷ characters_of rest
  pub some : 0 < c.size
  pub long : c.size + length rest ≡ length text

-- nothing is left of the text
pub record Ends (text : List ℕ) : Type 0 where
  pub is : text ≡ []
  pub none : characters_of text ≡ []

-- a mark has four bytes at most
pub record Small (m : Signs) : Type 0 where
  pub count : m.count ≤ 4
  pub room : length m.bytes ≡ 4

-- these bytes are put from `at` on where there is room for them all
pub record Puts (before : List ℕ) (at : ℕ) (bytes after : List ℕ) : Type 0 where
  pub writes : at + length bytes ≤ length before → Wrote before at bytes after
