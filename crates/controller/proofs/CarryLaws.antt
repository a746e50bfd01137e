-- A carry-on, done to what is held of a machine, is the machine's own, held; and so is its number. Assumes nothing.
use Prim.Native.Nat.{ℕ, ◌+◌, ◌≤◌, ◌<◌}
use mathlib.Core.Bool.{Bool, true, false, cond, not, ◌&&◌, ◌||◌}
use mathlib.Core.Path.{◌≡◌, refl, ap, ◌∙◌}
use native.Mathlib.Omega.{arith}
use borrow.Author.Tests.{lt-ltb, le-ltb}
use lib.Dec.{ltb, lit<}
use lib.ListN.{get_or}
use Rattle.laws.proofs.Five.{five}
use Rattle.reply.specs.Reply.{bias}
use Rattle.laws.specs.Bits.{weight}
use Rattle.machine.specs.State.{Machine}
use Rattle.machine.specs.Shares.{whole, gone}
use Rattle.machine.specs.Stops.{sensor_active, blocked}
use Rattle.machine.specs.Starts.{outside, final, can_carry_on, open_plan, carry_number, carried}
use Rattle.machine.proofs.FitLaws.{Fits}
use Rattle.controller.specs.Held.{held_settings, held_hot}
use Rattle.controller.specs.Inner.Parts.{travel_at}
use Rattle.controller.specs.Inner.Carry.{replanned_of, carry_number_of, CarryFits, carried_of}
use Rattle.controller.proofs.StartLaws.{leave_is, plan_fits}

-- The flag beside the master, once a distance line is accepted.
pub replanned_is : (b : Bool) (k : ℕ) → k < 5 → replanned_of (k + weight b 256) ≡ k + 256
replanned_is true k h = rw (le-ltb (k + 256) 256 (omega arith))
replanned_is false k h = rw (lt-ltb (k + 0) 256 (omega arith)) (omega arith)

module _ (m : Machine) (f : Fits m) where
  pub carry_fits : CarryFits (held_hot m)
  carry_fits = record {
    within = five (λ (k : ℕ). (travel_at (held_hot m).counters k).0 ≤ get_or (held_hot m).plan.distances k 0)
        (f.move.within 0 (lit< tt)) (f.move.within 1 (lit< tt)) (f.move.within 2 (lit< tt))
        (f.move.within 3 (lit< tt)) (f.move.within 4 (lit< tt));
    start = plan_fits m f m.move.plan f.move.plan;
  }

  -- An axis's way out of the range over what is open.
  out : (k : ℕ) → k < 5
      → cond ((open_plan m).minus k) (ltb (bias (m.position k)) ((open_plan m).distance k))
      (ltb 1048575 (bias (m.position k) + (open_plan m).distance k))
      ≡ outside (final m (open_plan m) k)
  out = leave_is m f (open_plan m)

  -- The flag beside the master.
  can_is : (short b : Bool) (k : ℕ) → k < 5 → short && ltb (k + weight b 256) 256 ≡ short && not b
  can_is short true k h = ap (λ (t : Bool). short && t) (le-ltb (k + 256) 256 (omega arith))
  can_is short false k h = ap (λ (t : Bool). short && t) (lt-ltb (k + 0) 256 (omega arith))

  pub carry_is : carry_number_of (held_settings m.settings) (held_hot m) ≡ carry_number m
  carry_is =
      (λ i. cond (can_is (ltb (gone m.move) (whole m.move)) m.move.replanned m.move.master
      f.move.master i)
      (cond m.flags.emergency 12
      (cond (sensor_active m) 13
      (cond (blocked m (open_plan m)) 16
      (cond (out 0 (lit< tt) i || out 1 (lit< tt) i || out 2 (lit< tt) i || out 3 (lit< tt) i || out 4 (lit< tt) i) 17
      0))))
      26)
      ∙ turned (can_carry_on m) _
    where
      turned : (b : Bool) (n : ℕ) → cond b n 26 ≡ cond (not b) 26 n
      turned true n = refl
      turned false n = refl

pub carried_is : (m : Machine) → carried_of (held_hot m) ≡ held_hot (carried m)
carried_is m = refl
