-- So many ticks, up to the end. The invariant: controller and end are those of the ticks so far, after every list of
-- calls that leaves the first controller, and an end that is told is the last of them. The measure: the ticks left.
-- Assumes nothing.
use Prim.Native.Nat.{◌-◌, ◌≤◌}
use mathlib.Core.Path.{◌≡◌}
use lib.ListN.{length}
use Rattle.controller.specs.Reach.{Reachable}
use Rattle.trial.proofs.TrialLaws.{Ran}
use Rattle.trial.proofs.ticking.run.Given as goal

abbrev pub invariant-loop-n : goal.invariant-loop-n
invariant-loop-n l =
    Reachable l.initial.ran.controller × (length l.buf ≡ 120) × Ran l.initial.ran.controller l.word l.n l.ran
    × (l.n ≤ l.count) × ((l.ran.end ≡ 0 → ⊥) → l.ran.end ≡ l.n)

abbrev pub decreases-loop-n : goal.decreases-loop-n
decreases-loop-n l = l.count - l.n
