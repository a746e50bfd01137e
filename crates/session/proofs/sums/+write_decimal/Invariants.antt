-- The digits of a number, the lower ones behind the higher. The measure is the number.
use Rattle.session.proofs.sums.+write_decimal.Given as goal

abbrev pub decreases-write_decimal : goal.decreases-write_decimal
decreases-write_decimal l = l.n
