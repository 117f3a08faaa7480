-- `writing::putting::Pen::put_bytes` meets its contract. The loop's invariant: the bytes so far are put.
use native.Mathlib.Omega.{arith}
use lib.Seq.{length-take-le}
use Rattle.writing.proofs.Puts.{run_longer}
use Rattle.writing.proofs.putting.Pen.put_bytes.Goals as goal

pub put-requires : goal.put-requires
put-requires c =
    let goes = c.loop-byte.invariant.puts.goes in
    let long = length-take-le c.loop-byte.byte-index c.args.bytes.now (omega arith) in
    omega arith

pub loop-byte-preserved : goal.loop-byte-preserved
loop-byte-preserved c = run_longer c.args.bytes.now c.loop-byte.byte-index (omega arith) c.loop-byte.invariant c.put.ensures
