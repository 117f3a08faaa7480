-- What a pen promises of the bytes that it puts. No heading of docs/TABLES.md.
use Rattle.std.specs.Prelude.{List, ℕ, ◌≡◌}
use Rattle.writing.specs.inside.Puts.{Puts}
use Rattle.writing.specs.declared.putting.Pen.{Pen}

-- these bytes are put where the pen stood, and it stands after them, over the same output
pub record Penned (before : Pen) (bytes : List ℕ) (after : Pen) : Type 0 where
  pub puts : Puts before.out.now before.at bytes after.at after.out.now
  pub same_output : after.out.ghost_name ≡ before.out.ghost_name
