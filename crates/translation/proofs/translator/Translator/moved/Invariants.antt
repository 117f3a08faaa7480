-- `Translator::moved` meets its contract. The loop's invariant, `Moving`: the states before `v` have moved, the others are as they were.
use Rattle.translation.proofs.Moving.{turn, Moving}
use Rattle.translation.proofs.translator.Translator.moved.Given as goal

abbrev pub invariant-loop-v : goal.invariant-loop-v
invariant-loop-v l = Moving (turn l.self.image.now l.self.sections l.c) l.self.sections.transitions.records l.initial.yes l.yes l.v
