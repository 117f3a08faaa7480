-- The pass that writes, in the middle: what is written so far, joined to what the rest of the signs still yields from here, is the whole. A turn keeps that,
-- every run of bytes has room where the whole has, and at the end the whole stands in the output.
use Prim.Native.Nat.{ℕ, ◌+◌, ◌*◌, ◌^◌, ◌≤◌, ◌<◌}
use mathlib.Core.List.{List, [], ◌++◌, append_assoc}
use mathlib.Core.Path.{◌≡◌, refl, sym, ◌∙◌, ap}
use native.Mathlib.Omega.{arith}
use lib.ListN.{length, get_or, drop, length-append, drop_of_length-le}
use lib.Seq.{sets, length-sets}
use Rattle.pages.specs.Words.{items_of, words_of}
use Rattle.table.specs.Numbers.{sign_page_end}
use Rattle.pages.specs.Place.{start, volume}
use Rattle.pages.specs.inside.Gather.{Modest, after_flush, flush_bytes, after_format, format_bytes, stepped, waiting, step_bytes, rest_bytes}
use Rattle.pages.specs.inside.Writing.{Room, Moved, Signed, Writable}
use Rattle.pages.specs.declared.Place.{Place}
use Rattle.pages.proofs.Moves as Moves
use Rattle.pages.proofs.Bytes as Bytes
use Rattle.pages.proofs.Gather as Gather
use Rattle.pages.proofs.Steps as Steps
use Rattle.table.proofs.Wrote.{put_then}
use Rattle.pages.specs.declared.Sheet.{Sheet}

pub record Going (sheet : Sheet) (signs out₀ out cells : List ℕ) (p : Place) (i : ℕ) : Type 0 where
  pub there : i ≤ length signs
  pub below : length cells ≤ sheet.width
  pub same : length out ≡ length out₀
  pub modest : Modest (70 * i) p
  pub done : List ℕ
  pub output : out ≡ sets out₀ 0 done
  pub written : p.written ≡ length done
  pub whole : done ++ rest_bytes sheet p cells (drop i signs) ≡ volume sheet (items_of sheet.width signs)

module _ {sheet : Sheet} {signs out₀ : List ℕ} (z : Writable sheet signs out₀) where
  pub going_first : Going sheet signs out₀ out₀ [] start 0
  unfolding rest_bytes volume items_of words_of
  going_first =
      let w = z.fillable.wide in
      record {
        there = omega arith;
        below = omega arith;
        same = refl;
        modest = record { column_most = omega arith; line_most = omega arith; written_most = omega arith; lines_most = omega arith; pages_most = omega arith };
        done = [];
        output = refl;
        written = refl;
        whole = refl;
      }

  module _ {out cells : List ℕ} {p : Place} {i : ℕ} (v : Going sheet signs out₀ out cells p i) where
    -- ---- A turn

    module _ (more : i < length signs) where
      abbrev g : ℕ
      g = get_or signs i 0

      turn :
          rest_bytes sheet p cells (drop i signs)
          ≡ step_bytes sheet p cells g ++ rest_bytes sheet (stepped sheet p (length cells) g).place (waiting sheet cells g) (drop (i + 1) signs)
      turn = Gather.turn_bytes sheet z.fillable.wide signs i more p cells v.below

      pub sign_room : Room (2 ^ 31) out p (step_bytes sheet p cells g)
      sign_room =
          let t = ap length turn in
          let x = length-append (step_bytes sheet p cells g) (rest_bytes sheet (stepped sheet p (length cells) g).place (waiting sheet cells g) (drop (i + 1) signs)) in
          let y = ap length v.whole in
          let w = length-append v.done (rest_bytes sheet p cells (drop i signs)) in
          let r = z.room in
          let m = z.fillable.most in
          let a = v.written in
          let b = v.same in
          record { modest = Moves.modest_more (omega arith) v.modest; room = omega arith }

      pub going_more : {out' cells' : List ℕ} {q : Place} → Signed sheet out p cells g out' cells' q → Going sheet signs out₀ out' cells' q (i + 1)
      going_more {out'} s =
          let b = v.below in
          let narrow = z.fillable.narrow in
          let bytes : List ℕ = step_bytes sheet p cells g in
          let q : Place = (stepped sheet p (length cells) g).place in
          let w : q.written ≡ p.written + length bytes = Bytes.written_step sheet (let w = z.fillable.wide in omega arith) p cells g in
          let a = v.written in
          record {
            there = omega arith;
            below = rw s.waits (Gather.waiting_most sheet z.fillable.wide cells g b);
            same = ap length s.wrote.leaves ∙ length-sets out p.written bytes ∙ v.same;
            modest = rw s.place (Moves.modest_more (omega arith) (Gather.modest_step sheet (70 * i) (length cells) g p (omega arith) v.modest));
            done = v.done ++ bytes;
            output = put_then out₀ out out' 0 v.done bytes v.output s.wrote.leaves (omega arith);
            written = let x = length-append v.done bytes in rw s.place (omega arith);
            whole =
                rw (s.place, s.waits)
                (append_assoc v.done bytes (rest_bytes sheet q (waiting sheet cells g) (drop (i + 1) signs))
                ∙ ap (λ (y : List ℕ). v.done ++ y) (sym turn) ∙ v.whole);
          }

    -- ---- The end

    module _ (none : length signs ≤ i) where
      abbrev last : List ℕ
      last = flush_bytes sheet p cells ++ format_bytes sheet (after_flush sheet p (length cells)) sign_page_end

      rest : rest_bytes sheet p cells (drop i signs) ≡ last
      rest =
          ap (λ (x : List ℕ). rest_bytes sheet p cells x) (drop_of_length-le signs {i = i} none) ∙ Gather.end_bytes sheet z.fillable.wide p cells v.below

      last_fits : p.written + length last ≤ length out
      last_fits =
          let t = ap length rest in
          let y = ap length v.whole in
          let w = length-append v.done (rest_bytes sheet p cells (drop i signs)) in
          let r = z.room in
          let a = v.written in
          let b = v.same in
          omega arith

      pub flush_room : Room (2 ^ 32) out p (flush_bytes sheet p cells)
      flush_room =
          let f = last_fits in
          let n = length-append (flush_bytes sheet p cells) (format_bytes sheet (after_flush sheet p (length cells)) sign_page_end) in
          let m = z.fillable.most in
          let t = v.there in
          record { modest = Moves.modest_more (omega arith) v.modest; room = omega arith }

      pub page_end_room : {out' : List ℕ} {q : Place} → Moved out p cells out' (after_flush sheet p (length cells)) q
          → Room (2 ^ 32) out' q (format_bytes sheet q sign_page_end)
      page_end_room s =
          let m = z.fillable.most in
          let t = v.there in
          let narrow = z.fillable.narrow in
          let k = v.below in
          Steps.format_room sheet p cells sign_page_end s v.modest (omega arith) last_fits

      pub whole_written : {out' out'' : List ℕ} {q r : Place} → Moved out p cells out' (after_flush sheet p (length cells)) q
          → Moved out' q [] out'' (after_format sheet q sign_page_end) r → out'' ≡ sets out₀ 0 (volume sheet (items_of sheet.width signs))
      whole_written {out'} {out''} s e =
          put_then out₀ out out'' 0 v.done last v.output (Steps.both_wrote sheet p cells sign_page_end s e).leaves (let a = v.written in omega arith)
          ∙ ap (λ (y : List ℕ). sets out₀ 0 y) (ap (λ (y : List ℕ). v.done ++ y) (sym rest) ∙ v.whole)
