-- The digits of a number, the lower ones behind the higher. Assumes nothing.
use native.Mathlib.Omega.{arith}
use Rattle.text.proofs.TextLaws.{one_digit, more_digits}
use Rattle.text.proofs.Text.+decimal.Goals as goal

pub returns-then-n-lt10 : goal.returns-then-n-lt10
returns-then-n-lt10 t c = one_digit c.args.self c.args.n (omega arith) c.with.ensures

pub returns-else-n-lt10 : goal.returns-else-n-lt10
returns-else-n-lt10 t c = more_digits c.args.self c.args.n (omega arith) c.decimal.ensures c.with-else-n-lt10.ensures
