-- The pulses of all wines. The invariant: those of the first k, which 32 bits times k hold. Assumes nothing.
use Prim.Native.Nat.{ℕ, ◌+◌}
use native.Mathlib.Numerals.{add-one}
use native.Mathlib.Omega.{arith}
use mathlib.Core.Path.{refl, sym, ap, ◌∙◌}
use Rattle.screen.specs.Screen.{pulses, pulses_in}
use Rattle.screen.proofs.shares.all_pulses.Goals as goal

pub loop-travel-init : goal.loop-travel-init
unfolding pulses_in
loop-travel-init c = (omega arith, refl)

pub loop-travel-preserved : goal.loop-travel-preserved
unfolding pulses_in
loop-travel-preserved c = (
  omega (arith, c.loop-travel.invariant.0),
  (λ i. c.loop-travel.invariant.1 i + pulses c.args.trial c.loop-travel.travel-index)
      ∙ ap (λ (n : ℕ). pulses_in n c.args.trial) (sym (add-one c.loop-travel.travel-index)),
)
