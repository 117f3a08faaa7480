-- The measure of the cycle of calls {digit_count}: the number.
use Rattle.writing.proofs.putting.+digit_count.Given as goal

abbrev pub decreases-digit_count : goal.decreases-digit_count
decreases-digit_count l = l.n
