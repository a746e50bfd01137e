-- What the code of a tick of a move answers, from what its parts answer, over plain values. Assumes nothing.
use Prim.Native.Nat.{ℕ, ◌+◌, ◌-◌, ◌%◌, ◌≤◌, ◌<◌}
use mathlib.Core.Bool.{Bool, true, false}
use mathlib.Core.Path.{◌≡◌, refl, sym, ap, ◌∙◌}
use native.Mathlib.Omega.{arith}
use native.Mathlib.Nat.{mod-eq_of_lt, mod-eq-sub-mod}
use borrow.Author.Tests.{le-leb, lt-leb}
use mir.Syntax.{w8}
use mir.Val.{to_z, of_z}
use Rattle.reply.specs.declared.readings.Travel.{Travel}
use Rattle.reply.specs.declared.readings.Position.{Position}
use Rattle.controller.specs.declared.motion.Share.{Share}
use Rattle.controller.specs.declared.ramp.Paced.{Paced}
use Rattle.controller.specs.declared.state.Hot.{Hot}
use Rattle.controller.specs.declared.state.Run.{Run}
use Rattle.controller.specs.declared.state.Settings.{Settings}
use Rattle.controller.specs.Inner.Motion.{share_step_of, axis_step_given, AxisStepFits, RunFits}
use Rattle.controller.specs.Inner.Ramp.{ticks_of, ramp_of, stands_of, advance_of, pace_given, pace_of}

-- A remainder and a distance together never exceed 1,048,573 (paper 02, 4/14), so 32 bits hold the step's sum.
pub share_sum : (r d M : ℕ) → r < M → d ≤ M → M ≤ 524287 → r + d ≤ 1048573
share_sum r d M h k l = omega arith

pub mod_once : (n m : ℕ) → m ≤ n → n < m + m → n - m ≡ n % m
mod_once n m h k =
    let l : n - m < m = omega arith in
    sym (mod-eq-sub-mod {n = n} {m = m} h ∙ mod-eq_of_lt {n = n - m} {m = m} l)

pub share_on : (r d M : ℕ) → r < M → d ≤ M → M ≤ r + d
    → ◌≡◌ {A = Share} (record { remainder = r + d - M; on = true }) (share_step_of r d M)
share_on r d M h k l =
    λ i. record { remainder = mod_once (r + d) M l (omega arith) i; on = sym (le-leb M (r + d) l) i }

pub share_off : (r d M : ℕ) → r + d < M → ◌≡◌ {A = Share} (record { remainder = r + d; on = false }) (share_step_of r d M)
share_off r d M h = λ i. record { remainder = sym (mod-eq_of_lt h) i; on = sym (lt-leb M (r + d) h) i }

module _ (s : Share) (t : Travel) (p : Position) (minus : Bool) where
  -- The pulse after it went through eight bits.
  pub axis_bits : to_z w8 (of_z w8 (axis_step_given s t p minus).pulse) ≡ (axis_step_given s t p minus).pulse
  axis_bits = when s.on minus
    where
      when : (b m : Bool)
          → to_z w8 (of_z w8 (axis_step_given (record { remainder = s.remainder; on = b }) t p m).pulse)
          ≡ (axis_step_given (record { remainder = s.remainder; on = b }) t p m).pulse
      when true true = refl
      when true false = refl
      when false m = refl

-- Where the master pulses, a move runs.
fires_moving : (s : Settings) (r : Run) (p : Paced) → p ≡ pace_of s r → p.fires ≡ true → r.moving ≡ true
fires_moving s r p e f = when r.moving (sym (ap (λ (x : Paced). x.fires) e) ∙ f)
  where
    when : (b : Bool)
        → (pace_given r (ticks_of r + 1) b (stands_of r s.slope) (advance_of r (ticks_of r + 1) (ramp_of s r))).fires ≡ true
        → b ≡ true
    when true q = refl
    when false q = q

-- So each axis is in range for its step.
pub axes_fit : (s : Settings) (h : Hot) (p : Paced) → p ≡ pace_of s h.run → RunFits s h → (k : ℕ) → k < 5
    → (k < 5) × AxisStepFits p.fires h.plan h.counters h.run.length k
axes_fit s h p e f k l = (l, λ q. f.axes (fires_moving s h.run p e q) k l)
