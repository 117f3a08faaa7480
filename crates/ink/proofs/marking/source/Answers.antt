-- `ink::marking::source` meets its contract: it stops at the character whose mark has the byte.
use mathlib.Core.Path.{sym}
use Rattle.inkprint.proofs.Walk.{source_starts, source_ends, source_found, source_more}
use Rattle.ink.proofs.marking.source.Goals as goal
use Rattle.ink.proofs.marking.source.Goals.{in-Some+then-ahead-stepped, in_default}

pub loop-c-init : goal.loop-c-init
loop-c-init c = source_starts _ _

pub loop-c-preserved : goal.loop-c-preserved
loop-c-preserved c = source_more c.in-Some.ensures c.glyph.ensures c.step_of-stepped.ensures.is c.loop-c.invariant c.if-ahead-stepped.false

pub returns : goal.returns
returns c = record {
  is =
      elim c.match-next.branch [
        | in-Some+then-ahead-stepped w ↦ sym (source_found w.in-Some.ensures w.glyph.ensures w.step_of-stepped.ensures.is c.loop-c.invariant w.if-ahead-stepped.true)
        | in_default w ↦ sym (source_ends w.in_default.ensures c.loop-c.invariant)
      ];
}
