-- `Translator::letter_of` meets its contract. The loop's invariant: no record before `k` has the symbol, and `at` is where record `k` lies.
use Prim.Native.Nat.{ℕ, ◌<◌}
use mathlib.Core.Bool.{Bool, false}
use mathlib.Core.List.{List}
use mathlib.Core.Path.{◌≡◌}
use lib.Dec.{eqb}
use Rattle.table.specs.Numbers.{symbol_byte}
use Rattle.table.specs.Sections.{offset, record_byte}
use Rattle.table.specs.declared.Section.{Section}
use Rattle.translation.proofs.translator.Translator.letter_of.Given as goal

abbrev pub has : List ℕ → Section → ℕ → ℕ → Bool
has image alphabet c k = eqb (record_byte image alphabet k symbol_byte) c

abbrev pub invariant-loop-k : goal.invariant-loop-k
invariant-loop-k l = record {
  lies : l.at ≡ offset l.alphabet l.k;
  none : (j : ℕ) → j < l.k → has l.self.image.now l.alphabet l.c j ≡ false;
}
