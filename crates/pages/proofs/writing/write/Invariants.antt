-- `pages::writing::write` meets its contract. The loop's invariant is `Going`: what is written, joined to what the rest still yields, is the whole.
use Rattle.pages.proofs.Going.{Going}
use Rattle.pages.proofs.writing.write.Given as goal

abbrev pub invariant-loop-sign : goal.invariant-loop-sign
invariant-loop-sign l = Going l.sheet l.signs l.initial.out l.out l.word l.p l.sign-index
