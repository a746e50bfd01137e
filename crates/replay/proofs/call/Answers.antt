-- A call by its kind. Assumes nothing.
use mathlib.Core.Path.{sym, ap, ◌∙◌}
use lib.ListN.{replicate}
use Rattle.replay.specs.Replay.{seen, held_seen, called_by, lent_ticks}
use Rattle.replay.proofs.call.Goals.{in-Ticks, in-Tick}
use Rattle.replay.proofs.call.Goals as goal

pub returns-in-Byte : goal.returns-in-Byte
returns-in-Byte c =
    λ s h e. c.send.ensures s h e
    ∙ ap (λ k. held_seen s (called_by s k c.args.value c.args.count (seen h c.args.was.digest))) (sym c.in-Byte.is)

pub returns-in-Readings : goal.returns-in-Readings
returns-in-Readings c =
    λ s h e. c.read.ensures s h e
    ∙ ap (λ k. held_seen s (called_by s k c.args.value c.args.count (seen h c.args.was.digest))) (sym c.in-Readings.is)

pub returns : goal.returns
returns c =
    let v = c.args.value in
    λ s h e.
    let x = seen h c.args.was.digest in
    c.ticks.ensures s h e
    ∙ elim c.match-kind.branch [
      | in-Ticks w ↦
          (λ i. held_seen s (lent_ticks s (w.n-is i).0 v (replicate (w.n-is i).1 0) (w.n-is i).2 x))
          ∙ ap (λ k. held_seen s (called_by s k v c.args.count x)) (sym w.in-Ticks.is)
      | in-Tick w ↦
          (λ i. held_seen s (lent_ticks s (w.n-is i).0 v (replicate (w.n-is i).1 0) (w.n-is i).2 x))
          ∙ ap (λ k. held_seen s (called_by s k v c.args.count x)) (sym w.in-Tick.is)
    ]
