-- The front part of 255 zeros is so many zeros. Assumes nothing.
use mathlib.Core.Path.{sym, ap, ◌∙◌}
use Rattle.replay.specs.Replay.{seen, held_seen, lent_ticks}
use Rattle.replay.proofs.AnswerLaws.{take_zeros, zeros_length}
use Rattle.replay.proofs.play.ticks.Goals as goal

pub slice_bounds-lend_ticks-end : goal.slice_bounds-lend_ticks-end
slice_bounds-lend_ticks-end c = sym (zeros_length _ c.requires.room_bound)

pub lend_ticks-requires : goal.lend_ticks-requires
lend_ticks-requires c = c.requires.reachable

pub returns : goal.returns
returns c =
    λ s h e. c.lend_ticks.ensures s h e
    ∙ ap (λ d. held_seen s (lent_ticks s c.args.count c.args.word d c.args.whole (seen h c.args.was.digest)))
    (take_zeros c.args.room 255 c.requires.room_bound)
