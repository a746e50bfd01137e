-- The five held positions read as signed numbers are those of every machine so held. Assumes nothing.
use Rattle.controller.proofs.PositionLaws.{axes_are}
use Rattle.controller.proofs.state.Controller.signed_positions.Goals as goal

pub returns : goal.returns
returns c =
    λ s h e. axes_are s h _ (c.positions-held.ensures.positions_of s h e) (c.positions-held.ensures.made s h e)
    _ _ _ _ _ _
    c.signed.ensures c.signed-2.ensures c.signed-3.ensures c.signed-4.ensures c.signed-5.ensures
