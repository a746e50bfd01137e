-- A tick of a move, done to what is held of a machine, is the machine's own, held. Assumes nothing.
use Prim.Native.Nat.{ℕ, ◌+◌, ◌-◌, ◌*◌, ◌%◌, ◌<◌}
use mathlib.Core.Bool.{Bool, true, false, cond, not, ◌&&◌}
use mathlib.Core.Path.{◌≡◌, refl, sym, ap, ◌∙◌}
use native.Mathlib.Omega.{arith}
use lib.Dec.{ltb, leb, eqb, lit<}
use lib.IntN.{pos, ◌+ℤ◌}
use Rattle.laws.specs.Axes.{each}
use Rattle.outputs.proofs.Words.{word_first}
use Rattle.reply.specs.Reply.{bias}
use Rattle.machine.specs.State.{Move, Machine, with_move}
use Rattle.machine.specs.Shares.{whole, gone, share, pulse}
use Rattle.machine.specs.Entries.{EntryAnswer, no_entry, entry, entry_of}
use Rattle.machine.specs.Ramp as ramp
use Rattle.machine.specs.Ramp.{full, ramped, at_speed, ended, quiet, halted, stepped, tallied, runs}
use Rattle.machine.specs.Outputs.{word}
use Rattle.machine.proofs.PulseLaws.{master_to, step_pulse}
use Rattle.machine.proofs.FitLaws.{Fits}
use Rattle.controller.specs.declared.state.Hot.{Hot}
use Rattle.controller.specs.declared.motion.Axis.{Axis}
use Rattle.controller.specs.declared.motion.Ran.{Ran}
use Rattle.controller.specs.Held.{held_settings, held_run, held_hot, is_end}
use Rattle.controller.specs.Inner.Parts.{with_counters, with_run, with_pause}
use Rattle.controller.specs.Inner.Motion.{
  share_step_of,
  axis_step_given,
  dwell_left_of,
  runs_given,
  runs_paced,
  runs_of,
  held_ran,
}
use Rattle.controller.specs.Inner.Words.{word_of}
use Rattle.controller.specs.Inner.Ramp.{at_rest_of, under_way_of, advance_given, pace_given}
use Rattle.controller.proofs.TickLaws.{halves, still_is}
use Rattle.controller.proofs.AxisLaws.{axis_is}

-- ---- A master pulse

-- The master's travel after it.
abbrev reached : Move → ℕ
reached v = gone v + 1

-- The machine after it, by whether it was the move's last.
abbrev landing : Machine → ℕ → ℕ → Bool → Machine
landing m u phase last =
    cond last (ended (stepped m u phase (reached m.move))) (stepped m u phase (reached m.move))

-- What it leaves, with the entry of a move that it ends.
abbrev fired : Machine → ℕ → ℕ → Bool → ramp.Ran
fired m u phase last = record {
  machine = landing (tallied m) u phase last;
  pulse = pulse m.move (reached m.move);
  entry = cond last (entry (entry_of (stepped (tallied m) u phase (reached m.move)).move)) no_entry;
}

module _ (m : Machine) (f : Fits m) (e : m.move.moving ≡ true) where
  -- The axis after the pulse.
  abbrev step_axis : ℕ → Axis
  step_axis k = record {
    travel = record { 0 = share m.move (reached m.move) k };
    position = record { 0 = bias (m.position k +ℤ pulse m.move (reached m.move) k) };
    remainder = reached m.move * m.move.plan.distance k % whole m.move;
    on = ltb (m.move.travel k) (share m.move (reached m.move) k);
    pulse = pulse m.move (reached m.move) k;
  }

  step_axis_lem : (k : ℕ) → k < 5
      → axis_step_given
      (share_step_of (gone m.move * m.move.plan.distance k % whole m.move) (m.move.plan.distance k)
      (whole m.move))
      (record { 0 = m.move.travel k }) (record { 0 = bias (m.position k) }) (m.move.plan.minus k)
      ≡ step_axis k
  step_axis_lem k h =
      axis_is (m.move.plan.distance k) (whole m.move) (gone m.move) (m.move.travel k)
      (f.move.good.under e) (f.move.good.axis k h) (m.position k) (m.move.plan.minus k)
      (f.places.inside k h) (f.places.room k h)
      ∙ (λ i. record {
        travel = (step_axis k).travel;
        position = (step_axis k).position;
        remainder = (step_axis k).remainder;
        on = (step_axis k).on;
        pulse = sym (step_pulse m f.move.good e k h) i;
      })

  first_is : word_of (held_hot m).wires (step_axis 0).on (step_axis 1).on (step_axis 2).on (step_axis 3).on
      (step_axis 4).on
      ≡ word m (pulse m.move (reached m.move)) true
  first_is =
      let h = word_first m.switch m.settings.polarity m.outputs m.move.plan.minus
      (λ k. ltb (m.move.travel k) (share m.move (reached m.move) k))
      (pulse m.move (reached m.move)) (step_pulse m f.move.good e) in
      omega (arith, h)

  module _ (u phase : ℕ) where
    -- Hot after the pulse, the master's travel being n: a run that has ended, or one that goes on.
    abbrev landed : Bool → ℕ → Hot
    landed last n =
        with_pause (with_run (with_counters (held_hot m) (record {
          travels = each (λ k. record { 0 = share m.move (reached m.move) k });
          remainders = each (λ k. n * m.move.plan.distance k % whole m.move);
          positions = each (λ k. record { 0 = bias (m.position k +ℤ pulse m.move (reached m.move) k) });
        }))
        (cond last (at_rest_of (held_run m.move) (m.move.ticks + 1) n)
        (under_way_of (held_run m.move) (m.move.ticks + 1) n u phase)))
        (dwell_left_of last m.settings.dwell m.pause.left) (held_hot m).pause.waiting

    -- The master's own share is its travel.
    landed_is : (last : Bool)
        → landed last (reached m.move) ≡ held_hot (landing (tallied m) u phase last)
    landed_is true = ap (landed true) (sym (master_to m f.move.good e))
    landed_is false = ap (landed false) (sym (master_to m f.move.good e))

    -- A tick with a master pulse, which may be the last.
    pulsed_is : (last : Bool)
        → runs_paced (held_settings m.settings) (held_hot m) (record {
          run = cond last (at_rest_of (held_run m.move) (m.move.ticks + 1) (reached m.move))
              (under_way_of (held_run m.move) (m.move.ticks + 1) (reached m.move) u phase);
          fires = true;
          ends = last;
        })
        ≡ held_ran (fired m u phase last)
    pulsed_is last =
        (λ i. runs_given (held_hot m) (landed last (reached m.move)).run last
        (landed last (reached m.move)).pause.left (step_axis_lem 0 (lit< tt) i) (step_axis_lem 1 (lit< tt) i)
        (step_axis_lem 2 (lit< tt) i) (step_axis_lem 3 (lit< tt) i) (step_axis_lem 4 (lit< tt) i))
        ∙ (λ i. record {
          hot = landed_is last i;
          pulses = each (pulse m.move (reached m.move));
          first = (first_is ∙ same last) i;
          ends = tells last i;
        })
      where
        -- The pulse leaves what a word is made of.
        same : (last : Bool)
            → word m (pulse m.move (reached m.move)) true
            ≡ word (landing (tallied m) u phase last) (pulse m.move (reached m.move)) true
        same true = refl
        same false = refl

        tells : (last : Bool) → last ≡ is_end (fired m u phase last).entry
        tells true = refl
        tells false = refl

-- ---- A tick of a move

-- A tick without a pulse, with the entry x or none.
quiet_is : (m : Machine) (x : EntryAnswer) → ◌≡◌ {A = Ran}
    (record {
      hot = held_hot m;
      pulses = each (λ k. pos 0);
      first = word_of (held_hot m).wires false false false false false;
      ends = is_end x;
    })
    (held_ran (record { machine = m; pulse = λ k. pos 0; entry = x }))
quiet_is m x =
    λ i. record { hot = held_hot m; pulses = each (λ k. pos 0); first = still_is m i; ends = is_end x }

module _ (m : Machine) (f : Fits m) where
  -- The speed of this tick, and the phase grown by it.
  abbrev speed : ℕ
  speed = ramped m.settings m.move

  abbrev grown : ℕ
  grown = m.move.phase + speed

  pub run_is : runs_of (held_settings m.settings) (held_hot m) ≡ held_ran (runs m)
  run_is =
      ap (λ (n : ℕ). runs_paced (held_settings m.settings) (held_hot m)
      (pace_given (held_run m.move) (n + 1) m.move.moving
      (m.move.stopping && leb m.move.speed m.settings.slope)
      (advance_given (held_run m.move) (n + 1) speed (ltb grown full) (eqb (reached m.move) (whole m.move)))))
      (halves m.move.ticks)
      ∙ when m.move.moving refl (m.move.stopping && leb m.move.speed m.settings.slope)
      (ltb grown full) (eqb (reached m.move) (whole m.move))
    where
      when : (moving : Bool) → m.move.moving ≡ moving → (stands short last : Bool)
          → runs_paced (held_settings m.settings) (held_hot m)
          (pace_given (held_run m.move) (m.move.ticks + 1) moving stands
          (advance_given (held_run m.move) (m.move.ticks + 1) speed short last))
          ≡ held_ran (cond (not moving) (quiet m)
          (cond stands (halted (tallied m))
          (cond short (quiet (with_move m (at_speed (tallied m).move speed grown)))
          (fired m speed (grown - full) last))))
      when false e stands short last = quiet_is m no_entry
      when true e true short last = quiet_is (ended (tallied m)) (halted (tallied m)).entry
      when true e false true last = quiet_is (with_move m (at_speed (tallied m).move speed grown)) no_entry
      when true e false false true = pulsed_is m f e speed (grown - full) true
      when true e false false false = pulsed_is m f e speed (grown - full) false
