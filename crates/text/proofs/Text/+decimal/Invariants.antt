-- The digits of a number, the lower ones behind the higher. The measure is the number. Assumes nothing.
use Rattle.text.proofs.Text.+decimal.Given as goal

abbrev pub decreases-decimal : goal.decreases-decimal
decreases-decimal l = l.n
