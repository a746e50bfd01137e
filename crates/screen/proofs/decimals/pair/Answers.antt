-- The digit of the tens, and that of the ones. Assumes nothing.
use Prim.Native.Nat.{◌+◌, ◌/◌, ◌%◌}
use mathlib.Core.List.{[], ◌∷◌}
use mathlib.Core.Path.{◌∙◌}
use Rattle.text.proofs.TextLaws.{joined, writes_one}
use Rattle.screen.proofs.decimals.pair.Goals as goal

pub returns : goal.returns
returns c =
    joined c.args.text ((48 + c.args.n / 10 % 10) ∷ []) ((48 + c.args.n % 10) ∷ [])
    (c.with.ensures ∙ writes_one c.args.text _) (c.with-2.ensures ∙ writes_one _ _)
