-- What a done call of `emboss` wrote is a good layout on its sheet: writing the file of it is refused only with 8, where the room is shorter, and what is read
-- back from that file is the same bytes. Each theorem assumes the promises of the calls and nothing else.
use Prim.Native.Nat.{ℕ, ◌≤◌, ◌<◌}
use mathlib.Core.Bool.{true}
use mathlib.Core.List.{List, map-id}
use mathlib.Core.Path.{◌≡◌, sym, ◌∙◌, ap}
use native.Mathlib.Decide.{dec_lt}
use native.Mathlib.Omega.{arith}
use lib.ListN.{length}
use lib.Seq.{length-take-le}
use Rattle.table.specs.Numbers.{number_done, number_room}
use Rattle.translation.specs.declared.Setting.{Setting}
use Rattle.pages.specs.Pages.{pages_of, bytes_of_pages}
use Rattle.pages.specs.Volume.{sheet_right}
use Rattle.pages.specs.declared.Sheet.{Sheet}
use Rattle.pages.proofs.Sizes.{sizes_within}
use Rattle.layout.specs.Emboss.{Answer, number, written}
use Rattle.layout.specs.Promises.{Embossed}
use Rattle.layout.specs.Relied.{wrote}
use Rattle.layout.proofs.Relied.{call_bounded, call_lays_out, call_written}
use Rattle.embosser.specs.Good.{bytes_as, Good}
use Rattle.embosser.specs.Filing as Filing
use Rattle.embosser.specs.Promises.{Files}
use Rattle.embosser.specs.declared.Kind.TheVariants.{Layout, File}
use Rattle.embosser.specs.Filing.{Filed}
use Rattle.embosser.proofs.Calls.{write_then_read}
use Rattle.embosser.proofs.Refusals as Laws

module _ (setting : Setting) (image text : List ℕ) (sheet : Sheet) (before : List ℕ) (answer : Answer) (after : List ℕ) (call : Embossed setting image text sheet before answer after) (is_done : number answer ≡ number_done) where
  abbrev layout : List ℕ
  layout = wrote answer after

  -- what was written is good on its sheet
  pub embossed_good : Good Layout sheet layout
  unfolding bytes_as
  embossed_good =
      let out = call_lays_out setting image text sheet before answer after call is_done in
      record { pages = pages_of layout; right = out.right; written = sym out.bytes ∙ sym (map-id (bytes_of_pages (pages_of layout))) }

  sheet_right_lem : sheet_right sheet ≡ true
  sheet_right_lem = let b = call_bounded setting image text sheet before answer after call is_done in sizes_within sheet b.width b.page_length

  layout_length : length layout ≡ written answer
  layout_length = length-take-le (written answer) after (call_written call)

  module _ (room : List ℕ) (filed : Filed) (left : List ℕ) (file : Files Layout sheet layout room filed left) where
    -- writing its file is done where there is room for as many bytes, and refused with 8 where there isn't
    pub embossed_written : written answer ≤ length room → Filing.number filed ≡ number_done
    unfolding Filing.done
    embossed_written fits =
        ap Filing.number (file.answers ∙ ap (λ (o : Filing.Outcome). o.answer) (Laws.good_done Layout sheet layout room sheet_right_lem embossed_good (rw layout_length fits)))

    pub embossed_refused_only_8 : 0 < Filing.number filed → (Filing.number filed ≡ number_room) × (Filing.place filed ≡ written answer) × (length room < written answer)
    unfolding Filing.refused
    embossed_refused_only_8 refused = go (dec_lt (length room) (written answer))
      where
        go : Dec (length room < written answer) → (Filing.number filed ≡ number_room) × (Filing.place filed ≡ written answer) × (length room < written answer)
        go (yes short) =
            let e = file.answers ∙ ap (λ (o : Filing.Outcome). o.answer) (Laws.good_short Layout sheet layout room sheet_right_lem embossed_good (rw layout_length short)) in
            (ap Filing.number e, ap Filing.place e ∙ layout_length, short)
        go (no d) = let e = embossed_written (omega arith) in absurd (omega arith)

    -- and what is read back from the file is the same bytes
    pub embossed_read_back : Filing.number filed ≡ number_done → (lent : List ℕ) (second : Filed) (last : List ℕ) → written answer ≤ length lent
        → Files File sheet (Filing.wrote filed left) lent second last → Filing.GivenBack layout lent second last
    embossed_read_back done lent second last fits again = write_then_read sheet layout room left lent last filed second done (rw layout_length fits) file again
