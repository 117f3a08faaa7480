-- `records::rules::letters_by_symbol` meets its contract. The loop's invariant: each byte has the number of its first record among those passed.
use Rattle.records.specs.inside.Judging.{Gathered}
use Rattle.records.proofs.rules.letters_by_symbol.Given as goal

abbrev pub invariant-loop-k : goal.invariant-loop-k
invariant-loop-k l = Gathered l.image l.s.alphabet l.k l.letters
