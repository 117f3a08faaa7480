-- 'Contraction records are grouped', in the paper's words, over a list of strings. proofs/Grouping.antt shows that the test of Grouping.antt says the same and
-- names the same first record.
use Rattle.std.specs.Prelude.{ℕ, ◌≤◌, ◌<◌, List, ◌≡◌, length, take}
use Rattle.table.specs.Grouping.{string_of}

-- two strings agree in their first `p` characters
pub record Agree (p : ℕ) (a b : List ℕ) : Type 0 where
  pub left_long : p ≤ length a
  pub right_long : p ≤ length b
  pub same : take p a ≡ take p b

-- record `r` and the earlier record `q` violate the rule: they agree in their first `p` characters, and a record `m` between them doesn't
pub record Violated (strings : List (List ℕ)) (r q : ℕ) : Type 0 where
  pub p : ℕ
  pub m : ℕ
  pub after : q < m
  pub before : m < r
  pub agree : Agree p (string_of strings q) (string_of strings r)
  pub differ : Agree p (string_of strings q) (string_of strings m) → ⊥

-- a record breaks the grouping when it and some earlier record violate this
pub record Breaks (strings : List (List ℕ)) (r : ℕ) : Type 0 where
  pub earlier : ℕ
  pub violated : Violated strings r earlier

-- if two agree in their first p characters, all records between them agree in those too
abbrev pub Grouped : List (List ℕ) → Type 0
Grouped strings =
    (q m r p : ℕ) → q < m → m < r → r < length strings → Agree p (string_of strings q) (string_of strings r) → Agree p (string_of strings q) (string_of strings m)

-- the first record that breaks it
pub record FirstToBreak (strings : List (List ℕ)) (r : ℕ) : Type 0 where
  pub there : r < length strings
  pub breaks : Breaks strings r
  pub none_before : (k : ℕ) → k < r → Breaks strings k → ⊥
