-- As many bytes as there is room for, line by line. The invariant: calls made the session, and the buffer is filled so
-- far as `Filling` says. The measure is the bytes left. Assumes nothing.
use Prim.Native.Nat.{◌-◌, ◌≤◌}
use mathlib.Core.Path.{◌≡◌}
use lib.ListN.{length, take, drop}
use Rattle.session.specs.Session.{Running, Runs}
use Rattle.console.proofs.FillLaws.{Filling}
use Rattle.console.proofs.fill.Given as goal

abbrev pub invariant-loop-i : goal.invariant-loop-i
invariant-loop-i l =
    (l.i ≤ length l.bytes) × (l.at ≤ length l.out) × (length l.out ≡ length l.initial.out) × Running l.session
    × Runs l.initial.session
    (Filling l.initial.out l.bytes l.session l.at l.i l.out (take l.i l.bytes) (drop l.i l.bytes))

abbrev pub decreases-loop-i : goal.decreases-loop-i
decreases-loop-i l = length l.bytes - l.i
