-- Inputs taken, stops begun, words at rest: done to what is held of a machine, they are the machine's own steps, held.
-- Assumes nothing.
use Prim.Native.Nat.{ℕ, ◌+◌, ◌*◌, ◌<◌}
use mathlib.Core.Bool.{Bool, true, false, cond, ◌&&◌, ◌||◌, or-true, or-false}
use mathlib.Core.Path.{◌≡◌, refl, ap, ◌∙◌}
use native.Mathlib.Omega.{arith}
use lib.Dec.{ltb, leb}
use lib.IntN.{ℤ, pos}
use lib.ListN.{get_or}
use Rattle.laws.specs.Axes.{each}
use Rattle.laws.proofs.BitLaws.{test_odd}
use Rattle.laws.proofs.Five.{five}
use Rattle.laws.proofs.Pick.{by_bool}
use Rattle.outputs.specs.Outputs.{general_of}
use Rattle.outputs.proofs.Words.{word_rest, word_still}
use Rattle.outputs.proofs.Small.{small}
use Rattle.machine.specs.State.{Machine, with_move, with_flags}
use Rattle.machine.specs.Stops.{
  watch_most,
  takes,
  stops,
  stopping,
  marks,
  blocked,
  sensor_active,
  watch_full,
  limit_or_watch,
}
use Rattle.machine.specs.Outputs.{word}
use Rattle.controller.specs.Held.{round, ticks_left, rounds_of, held_settings, held_plan, held_hot}
use Rattle.controller.specs.Inner.Parts.{with_wires}
use Rattle.controller.specs.Inner.Words.{word_of, rest_of, WiresFit}
use Rattle.controller.specs.Inner.Watch.{takes_of, limit_or_watch_of, causes_given, stops_given, stops_met, stops_of}

-- What the five axes have, at one of them.
pub each_at : {A : Type 0} (f : ℕ → A) (x : A) (k : ℕ) → k < 5 → get_or (each f) k x ≡ f k
each_at f x = five (λ (k : ℕ). get_or (each f) k x ≡ f k) refl refl refl refl refl

-- A tick count by its halves.
pub halves : (n : ℕ) → rounds_of n * round + ticks_left n ≡ n
halves n = omega arith

-- ---- Inputs, watch count, emergency, general outputs

-- Outputs that are cleared add nothing to a word.
general_clear : (s o : ℕ) (t : Bool) → cond t 0 (general_of s o) ≡ general_of s (cond t 0 o)
general_clear s o true = by_bool (λ (x : ℕ). 0 ≡ x) (ltb s 8) _ _ (λ e. refl) (λ e. refl)
general_clear s o false = refl

pub takes_is : (m : Machine) (w : ℕ) → takes_of (held_settings m.settings) (held_hot m) w ≡ held_hot (takes m w)
takes_is m w = λ i.
    with_wires (held_hot (takes m w)) (general_clear m.switch m.outputs (watch_full (takes m w) 1) i)
    (held_hot m).wires.cells

-- ---- Stops

module _ (m : Machine) where
  limit_is : limit_or_watch_of (held_settings m.settings) (held_plan m.move.plan) m.inputs m.watch
      ≡ limit_or_watch m
  limit_is =
      ap (λ (b : Bool). blocked m m.move.plan || leb watch_most m.watch && b) (test_odd m.settings.watch)

  pub stops_is : stops_of (held_settings m.settings) (held_hot m) ≡ held_hot (stops m)
  stops_is =
      ap (λ (b : Bool). stops_met (held_hot m) (causes_given m.move.moving m.flags.emergency (sensor_active m) b))
      limit_is
      ∙ when m.move.moving m.flags.emergency (sensor_active m) (limit_or_watch m)
    where
      unmet : stops_met (held_hot m) (record { any = false; limit = false; sensor = false }) ≡ held_hot m
      unmet = λ i.
          stops_given (held_hot m) (or-false m.move.stopping i) (or-false m.flags.stopped i)
          (or-false m.flags.sensed i)

      met : (sensor limit : Bool)
          → stops_met (held_hot m) (record { any = true; limit = limit; sensor = sensor })
          ≡ held_hot (with_flags (with_move m (stopping m.move)) (marks m.flags limit sensor))
      met sensor limit = λ i.
          stops_given (held_hot m) (or-true m.move.stopping i) (m.flags.stopped || limit)
          (m.flags.sensed || sensor)

      when : (moving emergency sensor limit : Bool)
          → stops_met (held_hot m) (causes_given moving emergency sensor limit)
          ≡ held_hot (cond (moving && (emergency || sensor || limit))
          (with_flags (with_move m (stopping m.move)) (marks m.flags limit sensor)) m)
      when false emergency sensor limit = unmet
      when true true sensor limit = met sensor limit
      when true false true limit = met true limit
      when true false false true = met false true
      when true false false false = unmet

  -- ---- Words at rest

  -- The word of a second half, whatever the pulses.
  pub rest_is : (p : ℕ → ℤ) → rest_of (held_hot m).wires ≡ word m p false
  rest_is p =
      let h = word_rest m.switch m.settings.polarity m.outputs m.move.plan.minus p in
      omega (arith, h)

  -- The word of a first half without a pulse.
  pub still_is : word_of (held_hot m).wires false false false false false ≡ word m (λ k. pos 0) true
  still_is =
      let h = word_still m.switch m.settings.polarity m.outputs m.move.plan.minus (λ k. pos 0)
      (λ k l. refl) in
      omega (arith, h)

  pub wires_fit : WiresFit (held_hot m).wires
  wires_fit =
      let s = small m.switch m.settings.polarity m.outputs m.move.plan.minus in
      record {
        general = omega arith;
        rests = five (λ (k : ℕ). get_or (held_hot m).wires.cells.rests k 0 < 16777216)
            (omega arith) (omega arith) (omega arith) (omega arith) (omega arith);
        fires = five (λ (k : ℕ). get_or (held_hot m).wires.cells.fires k 0 < 16777216)
            (omega arith) (omega arith) (omega arith) (omega arith) (omega arith);
        still = omega arith;
      }
