-- Whole seconds, and what is left over in six decimals. Assumes nothing.
use Rattle.text.specs.Decimal.{decimal_of}
use Rattle.text.proofs.TextLaws.{joined}
use Rattle.screen.specs.Screen.{seconds_of, micros_of, six_decimals}
use Rattle.screen.proofs.decimals.time.Goals as goal

pub returns : goal.returns
returns c =
    joined c.args.text (decimal_of (seconds_of c.args.n)) (six_decimals (micros_of c.args.n)) c.decimal-whole.ensures
    c.six_decimals.ensures
