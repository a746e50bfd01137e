-- A start, and what turns it away: src/start.rt on held values.
use Rattle.std.specs.Prelude.{ℕ, ◌+◌, ◌≤◌, ◌<◌, Bool, true, false, cond, ltb, eqb, get_or}
use Rattle.laws.specs.Axes.{each, some}
use Rattle.inputs.specs.Inputs.{active_at}
use Rattle.line.specs.Distances.{some_longer}
use Rattle.outputs.specs.declared.Cells.{Cells}
use Rattle.reply.specs.declared.readings.Position.{Position}
use Rattle.controller.specs.declared.state.Hot.{Hot}
use Rattle.controller.specs.declared.state.Settings.{Settings}
use Rattle.controller.specs.declared.state.Plan.{Plan}
use Rattle.controller.specs.declared.state.Counters.{Counters}
use Rattle.controller.specs.Inner.Parts.{
  mark,
  run_of,
  pause_of,
  hot_of,
  position_at,
  blocked_in,
  cells_of,
}

-- A position leaves its range in so many steps.
abbrev pub leaves_of : Position → Bool → ℕ → Bool
leaves_of p minus distance = cond minus (ltb p.0 distance) (ltb 1048575 (p.0 + distance))

-- An axis leaves it.
abbrev pub leaves_at_of : Plan → Counters → ℕ → Bool
leaves_at_of next c k = leaves_of (position_at c k) (get_or next.minus k false) (get_or next.distances k 0)

-- Some axis leaves it.
abbrev pub some_leave_of : Plan → Counters → Bool
some_leave_of next c = some (leaves_at_of next c)

-- The number that turns a start with this master away, or 0.
abbrev pub start_number_of : Settings → Plan → Hot → ℕ → ℕ
start_number_of s next h master =
    cond h.flags.emergency 12
    (cond (active_at s.low s.high h.inputs 13) 13
    (cond (some_longer next.distances (get_or next.distances master 0)) 14
    (cond (eqb (get_or next.distances master 0) 0) 15
    (cond (blocked_in s h.inputs next) 16
    (cond (some_leave_of next h.counters) 17
    0)))))

-- What it needs.
pub record StartFits (next : Plan) (c : Counters) : Type 0 where
  pub distance : (k : ℕ) → k < 5 → get_or next.distances k 0 ≤ 524287
  pub position : (k : ℕ) → k < 5 → (position_at c k).0 ≤ 1048575

-- By what each axis adds to an output word.
abbrev pub begun_given : Plan → Hot → ℕ → Cells → Hot
begun_given next h master cells =
    hot_of next (record {
      travels = each (λ k. record { 0 = 0 });
      remainders = each (λ k. 0);
      positions = h.counters.positions;
    })
    (run_of (get_or next.distances master 0) 0 0 0 master true false 0 0)
    (record { general = h.wires.general; cells = cells }) (pause_of 0 0 h.pause.block) h.inputs h.watch
    (mark (mark h.flags 3 false) 6 false)

-- A move begins: travels and remainders 0, bits 3 and 6 cleared, no dwell, no waiting start.
abbrev pub begun_of : Plan → ℕ → ℕ → Hot → ℕ → Hot
begun_of next polarity switch h master = begun_given next h master (cells_of switch polarity next.minus)
