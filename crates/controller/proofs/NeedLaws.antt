-- What the code of a tick of a move needs holds of what is held of a machine in range. Assumes nothing.
use Prim.Native.Nat.{ℕ, ◌+◌, ◌-◌, ◌*◌, ◌%◌, ◌≤◌, ◌<◌}
use mathlib.Core.Bool.{Bool, true, false}
use mathlib.Core.Path.{◌≡◌, refl, sym, ap, subst, ◌∙◌}
use native.Mathlib.Omega.{arith}
use native.Mathlib.Nat.{mod-lt}
use Rattle.laws.proofs.Tests.{true_false}
use Rattle.journal.specs.Entries.{ticks_range}
use Rattle.reply.specs.Reply.{bias}
use Rattle.reply.specs.declared.readings.Travel.{Travel}
use Rattle.reply.specs.declared.readings.Position.{Position}
use Rattle.machine.specs.State.{Machine}
use Rattle.machine.specs.Shares.{whole, gone}
use Rattle.machine.proofs.PositionLaws.{Room}
use Rattle.machine.proofs.FitLaws.{Fits}
use Rattle.controller.specs.Held.{held_settings, held_plan, held_counters, held_hot}
use Rattle.controller.specs.Inner.Motion.{AxisFits, RunFits}
use Rattle.controller.proofs.TickLaws.{each_at, halves, wires_fit}
use Rattle.controller.proofs.AxisLaws.{axis_grows}

low_room : (s : Bool) (b d t : ℕ) → Room s b (d - t) → s ≡ true → d ≤ t + b
low_room true b d t r e = omega arith
low_room false b d t r e = true_false false e refl

high_room : (s : Bool) (b d t : ℕ) → Room s b (d - t) → s ≡ false → b + d ≤ 1048575 + t
high_room true b d t r e = true_false true refl e
high_room false b d t r e = omega arith

module _ (m : Machine) (f : Fits m) where
  length_small : whole m.move ≤ 524287
  length_small = f.move.plan m.move.master f.move.master

  axis_fits : m.move.moving ≡ true → (k : ℕ) → k < 5
      → AxisFits (held_plan m.move.plan) (held_counters m.move m.position) (whole m.move) k
  axis_fits e k h =
      let under = f.move.good.under e in
      let axis = f.move.good.axis k h in
      let room = f.places.room k h in
      let remainder = each_at (λ j. gone m.move * m.move.plan.distance j % whole m.move) 0 k h in
      let distance = each_at m.move.plan.distance 0 k h in
      let minus = each_at m.move.plan.minus false k h in
      let travel = ap (λ (x : Travel). x.0) (each_at (λ j. record { 0 = m.move.travel j }) (record { 0 = 0 }) k h) in
      let position = ap (λ (x : Position). x.0)
      (each_at (λ j. record { 0 = bias (m.position j) }) (record { 0 = 0 }) k h) in
      record {
        index = h;
        small = omega (arith, mod-lt (gone m.move * m.move.plan.distance k) {m = whole m.move} (omega arith));
        short = omega arith;
        bound = length_small;
        grows = λ l. omega (arith, axis_grows _ _ _ _ under axis (omega arith));
        low = λ q. omega (arith, low_room _ _ _ _ room (sym minus ∙ q));
        high = λ q. omega (arith, high_room _ _ _ _ room (sym minus ∙ q));
      }

  pub run_fits : RunFits (held_settings m.settings) (held_hot m)
  run_fits = record {
    wires = wires_fit m;
    dwell = f.settings.dwell;
    ramp = λ e. record {
      now = f.move.speed;
      speed = f.settings.speed;
      slope = f.settings.slope;
      length = length_small;
      gone = f.move.good.under e;
      phase = f.move.phase;
      ticks = subst (λ (n : ℕ). n < ticks_range.most) (sym (halves m.move.ticks))
          (let t = f.move.ticks e in let u = f.move.good.under e in let p = f.move.phase in
          omega (arith, t, u, p, length_small));
    };
    axes = axis_fits;
  }
