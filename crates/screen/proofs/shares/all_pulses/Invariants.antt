-- The pulses of all wines. The invariant: those of the first k, which 32 bits times k hold. Assumes nothing.
use Prim.Native.Nat.{◌*◌, ◌≤◌}
use mathlib.Core.Path.{◌≡◌}
use Rattle.screen.specs.Screen.{pulses_in}
use Rattle.screen.proofs.shares.all_pulses.Given as goal

abbrev pub invariant-loop-travel : goal.invariant-loop-travel
invariant-loop-travel l =
    (l.sum ≤ l.travel-index * 4294967295) × (l.sum ≡ pulses_in l.travel-index l.fn.trial)
