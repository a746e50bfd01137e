-- The five pulses of a tick added. Assumes nothing.
use mathlib.Core.List.{[], ◌∷◌}
use native.Mathlib.Omega.{arith}
use Rattle.session.proofs.SumLaws.{pass_fits, pass_is}
use Rattle.session.proofs.ticks.added.Goals as goal

pub add-requires : goal.add-requires
add-requires c = pass_fits _ _ (c.requires 0 (omega arith))

pub add-requires-2 : goal.add-requires-2
add-requires-2 c = pass_fits _ _ (c.requires 1 (omega arith))

pub add-requires-3 : goal.add-requires-3
add-requires-3 c =
    pass_fits _ _ (c.requires 2 (omega arith))

pub add-requires-4 : goal.add-requires-4
add-requires-4 c =
    pass_fits _ _ (c.requires 3 (omega arith))

pub add-requires-5 : goal.add-requires-5
add-requires-5 c =
    pass_fits _ _ (c.requires 4 (omega arith))

pub returns : goal.returns
returns c =
    λ i.
    pass_is _ _ (c.requires 0 (omega arith)) _
    c.add.ensures i
    ∷ pass_is _ _ (c.requires 1 (omega arith)) _
    c.add-2.ensures i
    ∷ pass_is _ _ (c.requires 2 (omega arith)) _ c.add-3.ensures i
    ∷ pass_is _ _ (c.requires 3 (omega arith)) _ c.add-4.ensures i
    ∷ pass_is _ _ (c.requires 4 (omega arith)) _ c.add-5.ensures i
    ∷ []
