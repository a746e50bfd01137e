-- A point and three pairs of digits, one behind another. Assumes nothing.
use Prim.Native.Nat.{◌/◌}
use Rattle.machine.specs.Calls.{chars}
use Rattle.text.proofs.TextLaws.{joined}
use Rattle.screen.specs.Screen.{pair_of}
use Rattle.screen.proofs.decimals.six_decimals.Goals as goal

pub returns : goal.returns
returns c =
    joined c.args.text (chars ".") _ c.characters-point.ensures
    (joined _ (pair_of (c.args.n / 10000)) _ c.pair-high.ensures
    (joined _ (pair_of (c.args.n / 100)) (pair_of c.args.n) c.pair-middle.ensures c.pair.ensures))
