-- `pages::writing::put_sign` meets its contract: a sign that ends a word, the cell that tells that the word is cut, a cell that waits, as the laws of a step have it.
use Prim.Native.Nat.{ℕ, ◌-◌}
use mathlib.Core.List.{List, [], ◌∷◌, ◌++◌}
use mathlib.Core.Path.{◌≡◌, refl, sym, ◌∙◌, ap}
use native.Mathlib.Omega.{arith}
use lib.ListN.{length, drop, length-append}
use Rattle.pages.specs.Words.{part_of}
use Rattle.pages.specs.Place.{after_word}
use Rattle.pages.specs.inside.Gather.{after_flush, flush_bytes, format_bytes}
use Rattle.pages.proofs.Bytes as Bytes
use Rattle.pages.proofs.Words.{part_length}
use Rattle.pages.proofs.Steps as Steps
use Rattle.pages.proofs.writing.put_sign.Goals as goal

-- ---- A sign that ends a word

pub put_move-q-requires : goal.put_move-q-requires
put_move-q-requires c =
    let a = c.args in
    let pre = c.requires in
    let cells : List ℕ = a.word.now in
    let s = Steps.step_ends a.sheet a.p cells a.sign (sym c.ends_word.ensures ∙ c.if-ends_word.true) in
    let n = ap length s.bytes_are ∙ length-append (flush_bytes a.sheet a.p cells) (format_bytes a.sheet (after_flush a.sheet a.p (length cells)) a.sign) in
    let r = pre.0.room in
    let m = c.flushed.ensures ∙ ap (after_flush a.sheet a.p) c.len.ensures.all in
    rw (m, c.cells.ensures.all) (Bytes.goes_flush a.sheet a.p (length cells), omega arith)

pub format-requires : goal.format-requires
format-requires c =
    let a = c.args in
    let pre = c.requires in
    let cells : List ℕ = a.word.now in
    let s = Steps.step_ends a.sheet a.p cells a.sign (sym c.ends_word.ensures ∙ c.if-ends_word.true) in
    let f = Steps.flush_moved a.sheet a.p c.flushed.ensures c.len.ensures.all c.cells.ensures.all c.put_move-q.ensures in
    (Steps.format_room a.sheet a.p cells a.sign f pre.0.modest (omega arith) (rw s.bytes_are at pre.0.room)).modest

pub put_move-requires : goal.put_move-requires
put_move-requires c =
    let a = c.args in
    let pre = c.requires in
    let cells : List ℕ = a.word.now in
    let s = Steps.step_ends a.sheet a.p cells a.sign (sym c.ends_word.ensures ∙ c.if-ends_word.true) in
    let f = Steps.flush_moved a.sheet a.p c.flushed.ensures c.len.ensures.all c.cells.ensures.all c.put_move-q.ensures in
    rw c.format.ensures (
      Bytes.goes_format a.sheet c.put_move-q.result a.sign,
      (Steps.format_room a.sheet a.p cells a.sign f pre.0.modest (omega arith) (rw s.bytes_are at pre.0.room)).room,
    )

pub returns-then-ends_word : goal.returns-then-ends_word
returns-then-ends_word c =
    let a = c.args in
    let cells : List ℕ = a.word.now in
    let s = Steps.step_ends a.sheet a.p cells a.sign (sym c.ends_word.ensures ∙ c.if-ends_word.true) in
    let f = Steps.flush_moved a.sheet a.p c.flushed.ensures c.len.ensures.all c.cells.ensures.all c.put_move-q.ensures in
    let h = rw c.format.ensures at c.put_move.ensures in
    record {
      place = Steps.both_moved a.sheet a.p cells a.sign f h ∙ sym s.moved;
      wrote = rw s.bytes_are (Steps.both_wrote a.sheet a.p cells a.sign f h);
      waits = c.clear.ensures ∙ sym s.waits;
    }

-- ---- The cell that tells that the word is cut

pub put_move-q-requires-then-len-sheet : goal.put_move-q-requires-then-len-sheet
put_move-q-requires-then-len-sheet c =
    let a = c.args in
    let pre = c.requires in
    let cells : List ℕ = a.word.now in
    let e : length cells ≡ a.sheet.width = sym c.len-2.ensures.all ∙ c.if-len-sheet.true in
    let s = Steps.step_cuts a.sheet a.p cells a.sign (sym c.ends_word.ensures ∙ c.if-ends_word.false) e in
    let part : List ℕ = part_of a.sheet.width cells in
    let hyphened = c.hyphenate-held.ensures.part ∙ ap (λ (w : ℕ). part_of w cells) e in
    let m = c.word.ensures ∙ ap (after_word a.sheet a.p) (c.len-then-len-sheet.ensures.all ∙ ap length hyphened) in
    rw (m, c.cells-then-len-sheet.ensures.all ∙ hyphened) (Bytes.goes_word a.sheet a.p (length part), rw s.bytes_are at pre.0.room)

pub returns-then-len-sheet : goal.returns-then-len-sheet
returns-then-len-sheet c =
    let a = c.args in
    let pre = c.requires in
    let cells : List ℕ = a.word.now in
    let e : length cells ≡ a.sheet.width = sym c.len-2.ensures.all ∙ c.if-len-sheet.true in
    let s = Steps.step_cuts a.sheet a.p cells a.sign (sym c.ends_word.ensures ∙ c.if-ends_word.false) e in
    let hyphened = c.hyphenate-held.ensures.part ∙ ap (λ (w : ℕ). part_of w cells) e in
    let m = c.word.ensures ∙ ap (after_word a.sheet a.p) (c.len-then-len-sheet.ensures.all ∙ ap length hyphened) in
    let l = part_length a.sheet.width cells (omega arith) (omega arith) in
    let f = rw (m, c.cells-then-len-sheet.ensures.all ∙ hyphened) at c.put_move-q-then-len-sheet.ensures in
    let held = c.hyphenate-held.result in
    record {
      place = f.place ∙ ap (after_word a.sheet a.p) l ∙ sym s.moved;
      wrote = rw s.bytes_are f.wrote;
      waits =
          c.push-then-len-sheet.ensures
          ∙ ap (λ (x : List ℕ). x ++ a.sign ∷ [])
          (c.push.ensures ∙ ap (λ (x : List ℕ). x ++ held ∷ []) c.clear-then-len-sheet.ensures
          ∙ sym c.hyphenate-held.ensures.held ∙ ap (λ (w : ℕ). drop (w - 1) cells) e)
          ∙ sym s.waits;
    }

-- ---- A cell that waits

pub returns : goal.returns
returns c =
    let a = c.args in
    let cells : List ℕ = a.word.now in
    let s = Steps.step_waits a.sheet a.p cells a.sign (sym c.ends_word.ensures ∙ c.if-ends_word.false) (λ e. c.if-len-sheet.false (c.len-2.ensures.all ∙ e)) in
    record { place = sym s.moved; wrote = rw s.bytes_are (record { leaves = refl }); waits = c.push-2.ensures ∙ sym s.waits }
