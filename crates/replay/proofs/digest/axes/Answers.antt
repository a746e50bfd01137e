-- Axis by axis. Assumes nothing.
use native.Mathlib.Omega.{arith}
use mathlib.Core.Path.{◌≡◌, refl, ap, ◌∙◌}
use Rattle.replay.specs.Digest.{mixed_axes, travel_at, place_at}
use Rattle.replay.proofs.DigestLaws.{axes_next}
use Rattle.replay.proofs.digest.axes.Goals as goal

pub loop-k-init : goal.loop-k-init
unfolding mixed_axes
loop-k-init c = refl

pub loop-k-preserved : goal.loop-k-preserved
loop-k-preserved c =
    axes_next (travel_at c.args.travels) (place_at c.args.positions) c.args.h c.loop-k.k c.loop-k.digest
    c.mix-digest.result c.loop-k.invariant c.mix-digest.ensures

pub returns : goal.returns
returns c =
    let e : c.loop-k.k ≡ 5 = omega arith in
    c.loop-k.invariant ∙ ap (λ k. mixed_axes (travel_at c.args.travels) (place_at c.args.positions) c.args.h k) e
