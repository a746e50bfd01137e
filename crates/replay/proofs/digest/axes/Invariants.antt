-- Axis by axis. The invariant: the axes so far are mixed in. Assumes nothing.
use mathlib.Core.Path.{◌≡◌}
use Rattle.replay.specs.Digest.{mixed_axes, travel_at, place_at}
use Rattle.replay.proofs.digest.axes.Given as goal

abbrev pub invariant-loop-k : goal.invariant-loop-k
invariant-loop-k l = l.digest ≡ mixed_axes (travel_at l.travel-items) (place_at l.positions) l.h l.k
