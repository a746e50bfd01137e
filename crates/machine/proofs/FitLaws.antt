-- Every machine that calls make from power-on is in range. Assumes nothing.
use Prim.Native.Nat.{ℕ}
use mathlib.Core.Bool.{Bool, true, false}
use mathlib.Core.List.{List, [], ◌∷◌}
use mathlib.Core.Path.{refl}
use native.Mathlib.Omega.{arith}
use Rattle.laws.proofs.Tests.{true_false}
use Rattle.machine.specs.State.{Machine}
use Rattle.machine.specs.Stops.{stops}
use Rattle.machine.specs.Steps.{power_on, looks, is_short, too_large, tick_by, tick_step}
use Rattle.machine.specs.Calls.{Call, byte, tick, after, run, state}
use Rattle.machine.proofs.ShareLaws.{share_none}
pub use Rattle.machine.proofs.Fits.{PlanFits, WaitingFits, Fits}
use Rattle.machine.proofs.Fits.{fits_of}
pub use Rattle.machine.proofs.FitStageLaws.{fits_takes, fits_stops, fits_looks}
pub use Rattle.machine.proofs.FitRunLaws.{braked_small, towards_small, fits_runs}
use Rattle.machine.proofs.FitLineLaws.{fits_byte}

pub fits_power : (s : ℕ) → Fits (power_on s)
fits_power s =
    fits_of _ (record {
      moves = omega arith;
      speed = omega arith;
      rises = omega arith;
      slope = omega arith;
      dwell = omega arith;
    }) (λ k h. omega arith) (record {
      good = record {
        axis = λ k h. share_none 0 0 (omega arith);
        under = λ q. true_false false q refl;
        fixed = λ q. refl;
      };
      plan = λ k h. omega arith;
      master = omega arith;
      speed = omega arith;
      phase = omega arith;
      ticks = λ q. true_false false q refl;
      within = λ k h. omega arith;
    }) (record { inside = λ k h. refl; room = λ k h. omega arith })
    (record { left = omega arith; waiting = omega arith })

pub fits_tick : (m : Machine) (w : ℕ) (d : List ℕ) → Fits m → Fits (tick_step m w d).machine
fits_tick m w d f = when (is_short d) (too_large w)
  where
    when : (a b : Bool) → Fits (tick_by m w a b).machine
    when true b = f
    when false true = f
    when false false = fits_runs (stops (looks m w)) (fits_stops (looks m w) (fits_looks m w f))

pub fits_after : (m : Machine) (x : Call) → Fits m → Fits (after m x)
fits_after m (byte b buffer) f = fits_byte m b buffer f
fits_after m (tick w d) f = fits_tick m w d f

-- Every machine that calls make from power-on.
pub fits : (s : ℕ) (h : List Call) → Fits (state s h)
unfolding run
fits s [] = fits_power s
fits s (x ∷ h) = fits_after (state s h) x (fits s h)
