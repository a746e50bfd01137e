-- Starts and the dwell, done to what is held of a machine, are the machine's own, held. Assumes nothing.
use Prim.Native.Nat.{ℕ, ◌+◌, ◌-◌, ◌*◌, ◌%◌, ◌≤◌, ◌<◌}
use mathlib.Core.Bool.{Bool, true, false, cond, ◌&&◌, ◌||◌}
use mathlib.Core.List.{[], ◌∷◌}
use mathlib.Core.Path.{◌≡◌, refl, sym, ap, subst, ◌∙◌}
use native.Mathlib.Omega.{arith}
use native.Mathlib.Nat.{zero-mod}
use borrow.Author.Tests.{eqb-true, lt-ltb}
use lib.Dec.{ltb, eqb, lit<}
use Rattle.laws.specs.Axes.{each, some}
use Rattle.laws.proofs.Five.{five}
use Rattle.outputs.specs.Outputs.{rest_of, fire_of}
use Rattle.reply.specs.Reply.{bias}
use Rattle.machine.specs.State.{Plan, Machine, Waiting, none, start}
use Rattle.machine.specs.Stops.{sensor_active, blocked}
use Rattle.machine.specs.Starts.{outside, final, start_number, begun}
use Rattle.machine.specs.Steps.{Tried, untried, failed, began, try_waiting, try_start, tries, waits, failure}
use Rattle.machine.proofs.PositionLaws.{bias_small, leaves, leaves_is}
use Rattle.machine.proofs.FitLaws.{PlanFits, Fits, WaitingFits}
use Rattle.controller.specs.declared.dwell.Waited.{Waited}
use Rattle.controller.specs.Held.{held_settings, held_plan, held_waiting, held_hot}
use Rattle.controller.specs.Inner.Parts.{run_of, with_counters, with_run, with_pause, position_at}
use Rattle.controller.specs.Inner.Start.{start_number_of, StartFits, begun_of}
use Rattle.controller.specs.Inner.Dwell.{failed_of, due_given, due_of, waits_of, WaitFits}
use Rattle.controller.proofs.TickLaws.{each_at}

-- ---- The number that turns a start away

module _ (m : Machine) (f : Fits m) (p : Plan) where
  -- An axis's way out of the range, on what is held.
  pub leave_is : (k : ℕ) → k < 5
      → cond (p.minus k) (ltb (bias (m.position k)) (p.distance k))
      (ltb 1048575 (bias (m.position k) + p.distance k))
      ≡ outside (final m p k)
  leave_is k h =
      when (p.minus k) (bias (m.position k)) (p.distance k)
      ∙ leaves_is (p.minus k) (m.position k) (p.distance k) (f.places.inside k h)
    where
      when : (s : Bool) (b d : ℕ) → cond s (ltb b d) (ltb 1048575 (b + d)) ≡ leaves s b d
      when true b d = refl
      when false b d = refl

  pub plan_fits : PlanFits p → StartFits (held_plan p) (held_hot m).counters
  plan_fits g = record {
    distance = λ k h. subst (λ (d : ℕ). d ≤ 524287) (sym (each_at p.distance 0 k h)) (g k h);
    position = five (λ (k : ℕ). (position_at (held_hot m).counters k).0 ≤ 1048575)
        (low 0 (lit< tt)) (low 1 (lit< tt)) (low 2 (lit< tt)) (low 3 (lit< tt)) (low 4 (lit< tt));
  }
    where
      low : (k : ℕ) → k < 5 → bias (m.position k) ≤ 1048575
      low k h = bias_small (m.position k) (f.places.inside k h)

pub start_fits : (m : Machine) → Fits m → StartFits (held_plan m.next) (held_hot m).counters
start_fits m f = plan_fits m f m.next f.next

pub start_is : (m : Machine) (k : ℕ) → k < 5 → Fits m
    → start_number_of (held_settings m.settings) (held_plan m.next) (held_hot m) k ≡ start_number m k
start_is m k h f = λ i.
    cond m.flags.emergency 12
    (cond (sensor_active m) 13
    (cond (some (λ j. ltb (each_at m.next.distance 0 k h i) (m.next.distance j))) 14
    (cond (eqb (each_at m.next.distance 0 k h i) 0) 15
    (cond (blocked m m.next) 16
    (cond (out 0 (lit< tt) i || out 1 (lit< tt) i || out 2 (lit< tt) i || out 3 (lit< tt) i || out 4 (lit< tt) i) 17
    0)))))
  where
    out : (j : ℕ) → j < 5
        → cond (m.next.minus j) (ltb (bias (m.position j)) (m.next.distance j))
        (ltb 1048575 (bias (m.position j) + m.next.distance j))
        ≡ outside (final m m.next j)
    out = leave_is m f m.next

-- ---- What a start begins

no_remainder : (d M : ℕ) → 0 ≡ 0 * d % M
no_remainder d M = sym (ap (λ (x : ℕ). x % M) (none_of d) ∙ zero-mod M)
  where
    none_of : (d : ℕ) → 0 * d ≡ 0
    none_of d = omega arith

pub begun_is : (m : Machine) (k : ℕ) → k < 5
    → begun_of (held_plan m.next) m.settings.polarity m.switch (held_hot m) k ≡ held_hot (begun m k)
unfolding rest_of fire_of
begun_is m k h = λ i.
    with_run (with_counters (held_hot (begun m k)) (record {
      travels = each (λ j. record { 0 = 0 });
      remainders = rest 0 i ∷ rest 1 i ∷ rest 2 i ∷ rest 3 i ∷ rest 4 i ∷ [];
      positions = (held_hot m).counters.positions;
    })) (run_of (each_at m.next.distance 0 k h i) 0 0 0 (alone i) true false 0 0)
  where
    alone : k ≡ k + 0
    alone = omega arith

    rest : (j : ℕ) → 0 ≡ 0 * m.next.distance j % m.next.distance k
    rest j = no_remainder (m.next.distance j) (m.next.distance k)

-- ---- The dwell, and a start that waits for its end

module _ (m : Machine) (f : Fits m) where
  -- What is held of the machine after a try, and its number.
  abbrev held_waited : Tried → Waited
  held_waited t = record { hot = held_hot (waits m t); number = failure t }

  failed_is : (n : ℕ) → m.pause.left ≡ 1 → failed_of (held_hot m) n ≡ held_hot (waits m (failed n))
  failed_is n e = λ i. with_pause (failed_of (held_hot m) n) (none_left i) 0
    where
      none_left : 0 ≡ m.pause.left - 1
      none_left = omega arith

  due_is : (k : ℕ) → k < 5 → m.pause.left ≡ 1
      → due_of (held_settings m.settings) (held_plan m.next) m.switch (held_hot m) k ≡ held_waited (try_start m k)
  due_is k h e =
      ap (due_given (held_plan m.next) m.settings.polarity m.switch (held_hot m) k) (start_is m k h f)
      ∙ when (eqb (start_number m k) 0)
    where
      when : (b : Bool)
          → cond b (record {
            hot = begun_of (held_plan m.next) m.settings.polarity m.switch (held_hot m) k;
            number = 0;
          })
          (record { hot = failed_of (held_hot m) (start_number m k); number = start_number m k })
          ≡ held_waited (cond b (began k) (failed (start_number m k)))
      when true = λ i. record { hot = begun_is m k h i; number = 0 }
      when false = λ i. record { hot = failed_is (start_number m k) e i; number = start_number m k }

  pub waits_is : waits_of (held_settings m.settings) (held_plan m.next) m.switch (held_hot m)
      ≡ record { hot = held_hot (waits m (tries m)); number = failure (tries m) }
  waits_is = when m.pause.waiting f.pause.waiting (eqb m.pause.left 1) refl
    where
      back : (k : ℕ) → k + 1 - 1 ≡ k
      back k = omega arith

      when : (w : Waiting) → WaitingFits w → (b : Bool) → eqb m.pause.left 1 ≡ b
          → cond (b && ltb 0 (held_waiting w))
          (due_of (held_settings m.settings) (held_plan m.next) m.switch (held_hot m) (held_waiting w - 1))
          (held_waited untried)
          ≡ held_waited (cond b (try_waiting m w) untried)
      when none h true e = refl
      when none h false e = refl
      when (start k) h true e =
          (λ i. cond (lt-ltb 0 (k + 1) (omega arith) i)
          (due_of (held_settings m.settings) (held_plan m.next) m.switch (held_hot m) (back k i))
          (held_waited untried))
          ∙ due_is k h (eqb-true m.pause.left 1 e)
      when (start k) h false e = refl

  pub wait_fits : WaitFits (held_plan m.next) (held_hot m)
  wait_fits = record { waiting = when m.pause.waiting f.pause.waiting; start = start_fits m f }
    where
      when : (w : Waiting) → WaitingFits w → held_waiting w ≤ 5
      when none h = omega arith
      when (start k) h = omega arith
