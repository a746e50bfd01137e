-- A start: its master, and whether it waits for the dwell. Assumes nothing.
use Prim.Native.Nat.{◌%◌}
use mathlib.Core.List.{append-nil}
use borrow.Author.Tests.{lt-ltb, le-ltb}
use Rattle.text.specs.Decimal.{decimal_of}
use Rattle.text.proofs.TextLaws.{joined}
use Rattle.machine.specs.Calls.{chars}
use Rattle.readout.proofs.orders.start.Goals as goal

pub returns-then-d-lt8 : goal.returns-then-d-lt8
returns-then-d-lt8 c =
    rw (lt-ltb _ _ c.if-d-lt8.true, append-nil)
    (joined c.args.text (chars "start ") (decimal_of (c.args.d % 8)) c.characters.ensures c.decimal-said.ensures)

pub returns-else-d-lt8 : goal.returns-else-d-lt8
returns-else-d-lt8 c =
    rw (le-ltb _ _ c.if-d-lt8.false)
    (joined c.args.text (chars "start ") _ c.characters.ensures
    (joined _ (decimal_of (c.args.d % 8)) (chars " after dwell") c.decimal-said.ensures c.characters-else-d-lt8.ensures))
