-- The call, case by case: what each check makes of the outcome. Turning makes one byte of each, so the room that is needed is known before anything is written.
use Prim.Native.Nat.{ℕ, ◌≤◌, ◌<◌}
use mathlib.Core.List.{List, ◌++◌}
use Rattle.std.specs.Prelude.{None, Some, Ok, Err}
use mathlib.Core.Path.{◌≡◌, sym, ◌∙◌, ap}
use lib.ListN.{length, get_or, drop, length-map, get_or-map}
use borrow.Author.Tests.{le-leb, lt-leb}
use Rattle.table.specs.declared.Refusal.{Refusal}
use Rattle.table.specs.declared.Refusal.TheVariants.{Room, File as WrongFile}
use Rattle.table.proofs.Lists.{get_or_there}
use Rattle.pages.specs.Volume.{sheet_verdict}
use Rattle.pages.specs.declared.Sheet.{Sheet}
use Rattle.embosser.specs.Chart.{turned}
use Rattle.embosser.specs.Judging.{wrong_at}
use Rattle.embosser.specs.Filing.{Outcome, refused, done, turned_bytes, roomed, judged, filing}
use Rattle.embosser.specs.Promises.{Files}
use Rattle.embosser.specs.declared.Kind.{Kind}

-- ---- The turned bytes

module _ (kind : Kind) (bytes : List ℕ) where
  pub turned_length : length (turned_bytes kind bytes) ≡ length bytes
  unfolding turned_bytes
  turned_length = length-map bytes (turned kind)

  pub turned_at : (i : ℕ) → i < length bytes → get_or (turned_bytes kind bytes) i 0 ≡ turned kind (get_or bytes i 0)
  unfolding turned_bytes
  turned_at i l = get_or_there (turned_bytes kind bytes) i 0 (turned kind 0) (rw turned_length l) ∙ get_or-map (turned kind) bytes i 0

-- ---- Each case

module _ (kind : Kind) (sheet : Sheet) (bytes out : List ℕ) where
  pub filing_refused : (r : Refusal) → sheet_verdict sheet ≡ Err r → filing kind sheet bytes out ≡ refused out r
  unfolding filing
  filing_refused r v = rw (v, filing)

  module _ (accepted : sheet_verdict sheet ≡ Ok tt) where
    filing_judged : filing kind sheet bytes out ≡ judged kind sheet bytes out
    unfolding filing
    filing_judged = rw (accepted, filing)

    pub filing_wrong : (at : ℕ) → wrong_at kind sheet bytes ≡ Some at → filing kind sheet bytes out ≡ refused out (WrongFile at)
    unfolding judged
    filing_wrong at w = filing_judged ∙ rw (w, judged)

    module _ (right : wrong_at kind sheet bytes ≡ None) where
      filing_roomed : filing kind sheet bytes out ≡ roomed out (turned_bytes kind bytes)
      unfolding judged
      filing_roomed = filing_judged ∙ rw (right, judged)

      pub filing_short : length out < length bytes → filing kind sheet bytes out ≡ refused out (Room (length bytes))
      unfolding roomed
      filing_short l =
          let size = turned_length kind bytes in
          filing_roomed
          ∙ rw (lt-leb (length (turned_bytes kind bytes)) (length out) (rw size l), roomed) (ap (λ (n : ℕ). refused out (Room n)) size)

      pub filing_done : length bytes ≤ length out → filing kind sheet bytes out ≡ done out (turned_bytes kind bytes)
      unfolding roomed
      filing_done l = filing_roomed ∙ rw (le-leb (length (turned_bytes kind bytes)) (length out) (rw (turned_length kind bytes) l), roomed)

  -- ---- What the code hands back

  pub files_refused : (r : Refusal) → filing kind sheet bytes out ≡ refused out r → Files kind sheet bytes out (Err r) out
  unfolding refused
  files_refused r e = record { answers = sym (ap (λ (x : Outcome). x.answer) e); leaves = sym (ap (λ (x : Outcome). x.output) e) }

  pub files_done : (after : List ℕ) → filing kind sheet bytes out ≡ done out (turned_bytes kind bytes)
      → after ≡ turned_bytes kind bytes ++ drop (length bytes) out → Files kind sheet bytes out (Ok (length bytes)) after
  unfolding done
  files_done after e is =
      let size = sym (turned_length kind bytes) in
      record {
        answers = ap Ok size ∙ sym (ap (λ (x : Outcome). x.answer) e);
        leaves = is ∙ ap (λ (n : ℕ). turned_bytes kind bytes ++ drop n out) size ∙ sym (ap (λ (x : Outcome). x.output) e);
      }
