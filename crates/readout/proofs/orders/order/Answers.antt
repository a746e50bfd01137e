-- The low-ON setting: the word and its six digits. Assumes nothing.
use Rattle.digits.specs.Digits.{six_of}
use Rattle.line.specs.Codes.{five}
use Rattle.text.proofs.TextLaws.{joined}
use Rattle.machine.specs.Calls.{chars}
use Rattle.readout.proofs.orders.order.Goals as goal

pub returns-in-13 : goal.returns-in-13
returns-in-13 c =
    rw c.in-13.is
    (joined c.args.text (chars "low ") (six_of (five c.args.n)) c.characters-in-13.ensures c.six.ensures)
