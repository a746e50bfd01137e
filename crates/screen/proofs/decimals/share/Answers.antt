-- Whole percent, and two decimals. Assumes nothing.
use Prim.Native.Nat.{◌/◌}
use Rattle.machine.specs.Calls.{chars}
use Rattle.text.specs.Decimal.{decimal_of}
use Rattle.text.proofs.TextLaws.{joined}
use Rattle.screen.specs.Screen.{pair_of}
use Rattle.screen.proofs.decimals.share.Goals as goal

pub returns : goal.returns
returns c =
    joined c.args.text (decimal_of (c.args.h / 100)) _ c.decimal.ensures
    (joined _ (chars ".") (pair_of c.args.h) c.characters.ensures c.pair.ensures)
