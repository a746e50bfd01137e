-- The share of a wine: its pulses are within the sum. Assumes nothing.
use mathlib.Core.Path.{◌≡◌}
use native.Mathlib.Omega.{arith}
use Rattle.screen.specs.Screen.{pulses, all_pulses}
use Rattle.screen.proofs.ShareLaws.{within_sum}
use Rattle.screen.proofs.lines.share_at.Goals as goal

pub share-requires : goal.share-requires
share-requires c =
    let p : c.pulses.result ≡ pulses c.args.trial c.args.k = c.pulses.ensures in
    let a : c.all_pulses.result ≡ all_pulses c.args.trial = c.all_pulses.ensures in
    omega (arith, p, a, within_sum c.args.trial 5 c.args.k c.requires)
