-- What a right trailer and right distances tell, by name, for the code that reads the sections by them.
use Prim.Native.Nat.{ℕ, ◌≤◌}
use mathlib.Core.Bool.{true}
use mathlib.Core.List.{List}
use mathlib.Core.Path.{◌≡◌}
use native.Mathlib.Omega.{arith}
use Rattle.table.specs.Numbers.{least_classes, most_classes, most_variables}
use Rattle.table.specs.Sections.{trailer_at, classes_in, variables_in, distance, trailer_right, distances_right}
use Rattle.table.proofs.Frame.{tells_trailer, tells_distances}

pub record Falling (image : List ℕ) : Type 0 where
  pub first : distance image 0 ≡ trailer_at image
  pub second : distance image 1 ≤ distance image 0
  pub third : distance image 2 ≤ distance image 1
  pub fourth : distance image 3 ≤ distance image 2
  pub fifth : distance image 4 ≤ distance image 3

pub distances_fall : (image : List ℕ) → distances_right image ≡ true → Falling image
distances_fall image e =
    let h = (tells_distances image).0 e in
    record {
      first = h.0;
      second = h.1 0 (omega arith);
      third = h.1 1 (omega arith);
      fourth = h.1 2 (omega arith);
      fifth = h.1 3 (omega arith);
    }

pub record Numbered (image : List ℕ) : Type 0 where
  pub some_class : least_classes ≤ classes_in image
  pub classes : classes_in image ≤ most_classes
  pub variables : variables_in image ≤ most_variables

pub trailer_numbers : (image : List ℕ) → trailer_right image ≡ true → Numbered image
trailer_numbers image e =
    let h = (tells_trailer image).0 e in
    record { some_class = h.0.1.low; classes = h.0.1.high; variables = h.1 }
