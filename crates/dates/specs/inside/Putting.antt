-- What the functions that write promise each other. No heading of document 01.
use Rattle.std.specs.Prelude.{ℕ, ◌+◌, ◌-◌, ◌*◌, ◌≤◌, List, [], ◌∷◌, ◌++◌, ◌≡◌, length, Ok}
use Rattle.table.specs.Numbers.{distance_size, second_mark_byte}
use Rattle.table.specs.Sections.{bytes_from, trailer_at, sections_of}
use Rattle.table.specs.Verdict.{verdict_of}
use Rattle.table.specs.inside.Wrote.{Wrote}
use Rattle.table.specs.declared.Sections.{Sections}
use Rattle.dates.specs.Forms.{number_bytes, image_in}
use Rattle.dates.specs.declared.Form.{Form}

-- the bytes are written from place `at` on, and end at place `end`
pub record Puts (before : List ℕ) (at : ℕ) (bytes after : List ℕ) (end : ℕ) : Type 0 where
  pub moves : end ≡ at + length bytes
  pub writes : Wrote before at bytes after

-- the trailer of an image whose sections end at `at`, the first of them after `alphabet` bytes
unfoldable pub trailer_bytes : ℕ → ℕ → List ℕ → ℕ → List ℕ
trailer_bytes at alphabet image mark =
    number_bytes at
    ++ number_bytes (at - alphabet)
    ++ bytes_from image (trailer_at image + distance_size * 2) (second_mark_byte - distance_size * 2)
    ++ mark
    ∷ []

-- the image is accepted, and these are its sections
pub record Accepts (image : List ℕ) (s : Sections) : Type 0 where
  pub located : s ≡ sections_of image
  pub accepted : verdict_of image ≡ Ok tt

-- and there is room for it in this form
pub record Movable (image : List ℕ) (s : Sections) (form : Form) (out : List ℕ) : Type 0 where
  pub accepts : Accepts image s
  pub room : length (image_in form image) ≤ length out
