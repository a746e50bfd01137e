-- Power-on, joined from what its parts answer: the held machine. Assumes nothing.
use Prim.Native.Nat.{ℕ}
use mathlib.Core.Bool.{Bool, true, false, cond}
use mathlib.Core.List.{[]}
use mathlib.Core.Path.{◌≡◌, sym, ap, ◌∙◌}
use Rattle.outputs.specs.Outputs.{rest_of, fire_of}
use Rattle.machine.specs.State.{machine_of}
use Rattle.machine.specs.Steps.{power_on}
use Rattle.controller.specs.declared.state.Controller.{Controller}
use Rattle.controller.specs.declared.state.PowerOn.{PowerOn}
use Rattle.controller.specs.Held.{held, held_power}
use Rattle.controller.specs.Inner.Power.{is_bad_of, fresh_of}

-- What power-on makes of a switch, by whether there is such a switch.
abbrev powered : ℕ → Bool → PowerOn
powered s b = record {
  controller = held (machine_of (cond b 0 s) (power_on s).settings (power_on s).next (power_on s).move
      (power_on s).position 0 0 0 (power_on s).flags (power_on s).pause (power_on s).settle []);
  number = cond b 1 0;
}

pub power_bad : (s : ℕ) (c : Controller) → is_bad_of s ≡ true → c ≡ fresh_of 0
    → ◌≡◌ {A = PowerOn} (record { controller = c; number = 1 }) (held_power s)
unfolding rest_of fire_of
power_bad s c e p = (λ i. record { controller = p i; number = 1 }) ∙ ap (powered s) (sym e)

pub power_good : (s : ℕ) (c : Controller) → is_bad_of s ≡ false → c ≡ fresh_of s
    → ◌≡◌ {A = PowerOn} (record { controller = c; number = 0 }) (held_power s)
unfolding rest_of fire_of
power_good s c e p = (λ i. record { controller = p i; number = 0 }) ∙ ap (powered s) (sym e)
