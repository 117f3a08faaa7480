-- 'Then the piece's class moves each variable: R no, S yes, T the other, - as it was', in the paper's words, for one variable.
use Rattle.std.specs.Prelude.{ℕ, Bool, true, false, not, ◌≡◌}
use Rattle.table.specs.Numbers.{turn_no, turn_yes, turn_other, dash}

pub record Turned (byte : ℕ) (was now : Bool) : Type 0 where
  pub to_no : byte ≡ turn_no → now ≡ false
  pub to_yes : byte ≡ turn_yes → now ≡ true
  pub to_other : byte ≡ turn_other → now ≡ not was
  pub as_it_was : byte ≡ dash → now ≡ was
