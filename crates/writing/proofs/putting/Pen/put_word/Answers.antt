-- `writing::putting::Pen::put_word` meets its contract: as many blanks as the column leaves, and then the word.
use Prim.Native.Nat.{ℕ, suc, ◌+◌, ◌-◌}
use mathlib.Core.Path.{◌≡◌}
use native.Mathlib.Omega.{arith}
use lib.ListN.{length, length-replicate}
use Rattle.writing.proofs.Puts.{pens_rightward}
use Rattle.writing.proofs.putting.Pen.put_word.Goals as goal

pub returns : goal.returns
returns c =
    let blanks : 1 + c.saturating_sub.result ≡ suc (c.args.width - length c.args.word.now) = omega arith in
    let goes = c.put_same.ensures.puts.goes in
    let then = c.put_bytes.ensures.puts.goes in
    let long = length-replicate {A = ℕ} (1 + c.saturating_sub.result) 32 in
    (pens_rightward c.args.width c.args.word.now blanks c.put_same.ensures c.put_bytes.ensures, omega arith)
