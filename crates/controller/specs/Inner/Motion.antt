-- Pulses of a tick: src/motion.rt on held values.
use Rattle.std.specs.Prelude.{ℕ, ◌+◌, ◌-◌, ◌*◌, ◌%◌, ◌≤◌, ◌<◌, Bool, true, false, cond, [], ◌∷◌, ◌≡◌, leb, pos, get_or}
use Rattle.laws.specs.Axes.{each, directed}
use Rattle.machine.specs.Ramp as ramp
use Rattle.machine.specs.Outputs.{word}
use Rattle.reply.specs.declared.readings.Travel.{Travel}
use Rattle.reply.specs.declared.readings.Position.{Position}
use Rattle.controller.specs.declared.state.Hot.{Hot}
use Rattle.controller.specs.declared.state.Settings.{Settings}
use Rattle.controller.specs.declared.state.Plan.{Plan}
use Rattle.controller.specs.declared.state.Run.{Run}
use Rattle.controller.specs.declared.state.Counters.{Counters}
use Rattle.controller.specs.declared.motion.Share.{Share}
use Rattle.controller.specs.declared.motion.Axis.{Axis}
use Rattle.controller.specs.declared.ramp.Paced.{Paced}
use Rattle.controller.specs.declared.motion.Ran.{Ran}
use Rattle.controller.specs.Held.{held_hot, is_end}
use Rattle.controller.specs.Inner.Ramp.{pace_of, PaceFits}
use Rattle.controller.specs.Inner.Words.{word_of, WiresFit}
use Rattle.controller.specs.Inner.Parts.{with_counters, with_run, with_pause, travel_at, position_at}

-- ---- Shares

-- The remainder grows by the distance and gives up a whole length as a pulse.
abbrev pub share_step_of : ℕ → ℕ → ℕ → Share
share_step_of remainder distance length =
    record { remainder = (remainder + distance) % length; on = leb length (remainder + distance) }

-- The position one step further.
abbrev pub axis_step_position : Position → Bool → Position
axis_step_position p minus = cond minus (record { 0 = p.0 - 1 }) (record { 0 = p.0 + 1 })

-- An axis that sends no pulse.
abbrev pub idle_of : Travel → Position → ℕ → Axis
idle_of t p remainder = record { travel = t; position = p; remainder = remainder; on = false; pulse = pos 0 }

-- One axis by its share, travel, position and direction.
abbrev pub axis_step_given : Share → Travel → Position → Bool → Axis
axis_step_given s t p minus =
    cond s.on
    (record {
      travel = record { 0 = t.0 + 1 };
      position = axis_step_position p minus;
      remainder = s.remainder;
      on = true;
      pulse = directed minus 1;
    })
    (idle_of t p s.remainder)

-- One axis in a tick, by whether the master pulses in it.
abbrev pub axis_step_of : Bool → Plan → Counters → ℕ → ℕ → Axis
axis_step_of fires p c length k =
    cond fires
    (axis_step_given (share_step_of (get_or c.remainders k 0) (get_or p.distances k 0) length) (travel_at c k)
    (position_at c k) (get_or p.minus k false))
    (axis_step_given (record { remainder = get_or c.remainders k 0; on = false }) (travel_at c k) (position_at c k)
    (get_or p.minus k false))

-- What keeps the counts of an axis in range at a master pulse.
pub record AxisFits (p : Plan) (c : Counters) (length k : ℕ) : Type 0 where
  pub index : k < 5
  pub small : get_or c.remainders k 0 < length
  pub short : get_or p.distances k 0 ≤ length
  pub bound : length ≤ 524287
  pub grows : length ≤ get_or c.remainders k 0 + get_or p.distances k 0 → (travel_at c k).0 < get_or p.distances k 0
  pub low : get_or p.minus k false ≡ true → get_or p.distances k 0 ≤ (travel_at c k).0 + (position_at c k).0
  pub high : get_or p.minus k false ≡ false → (position_at c k).0 + get_or p.distances k 0 ≤ 1048575 + (travel_at c k).0

-- The same in any tick.
abbrev pub AxisStepFits : Bool → Plan → Counters → ℕ → ℕ → Type 0
AxisStepFits fires p c length k = fires ≡ true → AxisFits p c length k

-- ---- A tick of a move

-- The end of a move begins a dwell.
abbrev pub dwell_left_of : Bool → ℕ → ℕ → ℕ
dwell_left_of ends dwell left = cond ends (250 * dwell) left

-- Hot with what a tick alters in it.
abbrev pub stepped_of : Hot → Run → ℕ → Axis → Axis → Axis → Axis → Axis → Hot
stepped_of h run left a b c d e =
    with_pause (with_run (with_counters h (record {
      travels = a.travel ∷ b.travel ∷ c.travel ∷ d.travel ∷ e.travel ∷ [];
      remainders = a.remainder ∷ b.remainder ∷ c.remainder ∷ d.remainder ∷ e.remainder ∷ [];
      positions = a.position ∷ b.position ∷ c.position ∷ d.position ∷ e.position ∷ [];
    })) run) left h.pause.waiting

-- By the run, whether it ends, the dwell and the five axes after the tick.
abbrev pub runs_given : Hot → Run → Bool → ℕ → Axis → Axis → Axis → Axis → Axis → Ran
runs_given h run ends left a b c d e = record {
  hot = stepped_of h run left a b c d e;
  pulses = a.pulse ∷ b.pulse ∷ c.pulse ∷ d.pulse ∷ e.pulse ∷ [];
  first = word_of h.wires a.on b.on c.on d.on e.on;
  ends = ends;
}

-- One axis of the five.
abbrev pub runs_axis : Hot → Bool → ℕ → Axis
runs_axis h fires k = axis_step_of fires h.plan h.counters h.run.length k

-- By the tick of the ramp.
abbrev pub runs_paced : Settings → Hot → Paced → Ran
runs_paced s h p =
    runs_given h p.run p.ends (dwell_left_of p.ends s.dwell h.pause.left) (runs_axis h p.fires 0)
    (runs_axis h p.fires 1) (runs_axis h p.fires 2) (runs_axis h p.fires 3) (runs_axis h p.fires 4)

-- What ramp and pulses leave, the pulses, the first output word, and whether the move ends.
abbrev pub runs_of : Settings → Hot → Ran
runs_of s h = runs_paced s h (pace_of s h.run)

-- What they need.
pub record RunFits (s : Settings) (h : Hot) : Type 0 where
  pub wires : WiresFit h.wires
  pub dwell : s.dwell ≤ 16383
  pub ramp : PaceFits s h.run
  pub axes : h.run.moving ≡ true → (k : ℕ) → k < 5 → AxisFits h.plan h.counters h.run.length k

-- What a tick's ramp leaves of a machine, as it is held, with the pulses, the first word and whether the move ends.
abbrev pub held_ran : ramp.Ran → Ran
held_ran r = record {
  hot = held_hot r.machine;
  first = word r.machine r.pulse true;
  pulses = each r.pulse;
  ends = is_end r.entry;
}
