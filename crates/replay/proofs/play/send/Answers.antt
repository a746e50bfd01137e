-- The front part of 255 zeros is so many zeros. Assumes nothing.
use native.Mathlib.Omega.{arith}
use mathlib.Core.Path.{sym, ap, ◌∙◌}
use Rattle.replay.specs.Replay.{seen, held_seen, sent}
use Rattle.replay.proofs.AnswerLaws.{take_zeros, zeros_length}
use Rattle.replay.proofs.play.send.Goals as goal

pub slice_bounds-lend-end : goal.slice_bounds-lend-end
slice_bounds-lend-end c = sym (zeros_length _ c.requires.room_bound)

pub lend-requires : goal.lend-requires
lend-requires c =
    record {
      reachable = c.requires.reachable;
      buf_len_bound = omega (arith, c.requires.room_bound, zeros_length c.args.room c.requires.room_bound);
    }

pub returns : goal.returns
returns c =
    λ s h e. c.lend.ensures s h e
    ∙ ap (λ d. held_seen s (sent s c.args.b c.args.whole d (seen h c.args.was.digest)))
    (take_zeros c.args.room 255 c.requires.room_bound)
