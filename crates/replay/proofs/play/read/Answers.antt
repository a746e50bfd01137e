-- The readings, after every list of calls that leaves the controller. Assumes nothing.
use Rattle.replay.proofs.AnswerLaws.{read_is}
use Rattle.replay.proofs.play.read.Goals as goal

pub returns : goal.returns
returns c =
    λ s h e. read_is s h _ c.args.was.digest c.travels-travels.result c.positions-positions.result _ _ _ _ _ e
    (c.travels-travels.ensures s h e) (c.positions-positions.ensures.positions_of s h e)
    (c.status-status.ensures s h e) (c.speed-speed.ensures s h e)
    (c.slope-slope.ensures s h e) c.axes-shown.ensures c.mix-digest.ensures
