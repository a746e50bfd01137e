-- A stopped move carried on: src/carry.rt on held values.
use Rattle.std.specs.Prelude.{ℕ, ◌+◌, ◌-◌, ◌≤◌, ◌<◌, Bool, true, false, cond, ◌&&◌, ltb, get_or}
use Rattle.laws.specs.Axes.{each}
use Rattle.inputs.specs.Inputs.{active_at}
use Rattle.controller.specs.declared.state.Hot.{Hot}
use Rattle.controller.specs.declared.state.Settings.{Settings}
use Rattle.controller.specs.declared.state.Plan.{Plan}
use Rattle.controller.specs.declared.state.Run.{Run}
use Rattle.controller.specs.declared.state.Counters.{Counters}
use Rattle.controller.specs.Inner.Parts.{mark, run_of, pause_of, hot_of, travel_at, blocked_in}
use Rattle.controller.specs.Inner.Start.{StartFits, some_leave_of}

-- The master as it is held once a distance line was accepted.
abbrev pub replanned_of : ℕ → ℕ
replanned_of master = cond (ltb master 256) (master + 256) master

-- The latest move is short of its end, with no distance line since.
abbrev pub can_carry_on_of : Run → Bool
can_carry_on_of r = ltb r.gone r.length && ltb r.master 256

-- What an axis's travel leaves of its distance.
abbrev pub open_at_of : Plan → Counters → ℕ → ℕ
open_at_of p c k = get_or p.distances k 0 - (travel_at c k).0

-- The open distances, in their directions.
abbrev pub open_plan_of : Plan → Counters → Plan
open_plan_of p c = record { distances = each (open_at_of p c); minus = p.minus }

-- By the open distances.
abbrev pub carry_number_given : Settings → Hot → Plan → ℕ
carry_number_given s h p =
    cond (can_carry_on_of h.run)
    (cond h.flags.emergency 12
    (cond (active_at s.low s.high h.inputs 13) 13
    (cond (blocked_in s h.inputs p) 16
    (cond (some_leave_of p h.counters) 17
    0))))
    26

-- The number that turns a carry-on away behind 11, or 0.
abbrev pub carry_number_of : Settings → Hot → ℕ
carry_number_of s h = carry_number_given s h (open_plan_of h.plan h.counters)

-- What it needs.
abbrev pub OpenFits : Plan → Counters → Type 0
OpenFits p c = (k : ℕ) → k < 5 → (travel_at c k).0 ≤ get_or p.distances k 0

pub record CarryFits (h : Hot) : Type 0 where
  pub within : OpenFits h.plan h.counters
  pub start : StartFits h.plan h.counters

-- The move goes on: speed, phase and ticks 0, bits 3 and 6 cleared, no dwell, no waiting start.
abbrev pub carried_of : Hot → Hot
carried_of h =
    hot_of h.plan h.counters
    (run_of h.run.length h.run.gone 0 0 h.run.master true false 0 0) h.wires
    (pause_of 0 0 h.pause.block) h.inputs h.watch (mark (mark h.flags 3 false) 6 false)
