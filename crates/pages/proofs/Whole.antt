-- The whole volume of any items: the place at the end counts the bytes written.
use Prim.Native.Nat.{◌+◌}
use mathlib.Core.List.{List, [], ◌∷◌}
use mathlib.Core.Path.{◌≡◌}
use native.Mathlib.Omega.{arith}
use lib.ListN.{length, length-append}
use Rattle.pages.specs.Words.{Item}
use Rattle.pages.specs.Place.{start, after_item, cells_in, item_bytes, after_items, items_bytes, ended, volume_end, volume}
use Rattle.pages.specs.declared.Place.{Place}
use Rattle.pages.specs.declared.Sheet.{Sheet}
use Rattle.pages.proofs.Bytes.{goes_item, written_move}

written_items : (sheet : Sheet) (p : Place) (items : List Item) → (after_items sheet p items).written ≡ p.written + length (items_bytes sheet p items)
unfolding after_items items_bytes
written_items sheet p [] = omega arith
written_items sheet p (item ∷ items) =
    let q : Place = after_item sheet p item in
    let e = written_move (cells_in item) (goes_item sheet p item) in
    let f = written_items sheet q items in
    let n = length-append (item_bytes sheet p item) (items_bytes sheet q items) in
    omega arith

pub written_volume : (sheet : Sheet) (items : List Item) → (volume_end sheet items).written ≡ length (volume sheet items)
unfolding volume_end volume
written_volume sheet items = let e = written_items sheet start (ended items) in omega arith
