-- The held records by their parts: these are the places that name all fields of one.
use Rattle.std.specs.Prelude.{ℕ, Bool, false, cond, List, eqb, get_or}
use Rattle.laws.specs.Axes.{each}
use Rattle.inputs.specs.Inputs.{some_blocked}
use Rattle.outputs.specs.declared.Cells.{Cells}
use Rattle.outputs.specs.Outputs.{rest_of, fire_of, still_of}
use Rattle.receiver.specs.declared.Receiver.{Receiver}
use Rattle.reply.specs.declared.readings.Travel.{Travel}
use Rattle.reply.specs.declared.readings.Position.{Position}
use Rattle.controller.specs.declared.state.Controller.{Controller}
use Rattle.controller.specs.declared.state.Hot.{Hot}
use Rattle.controller.specs.declared.state.Settings.{Settings}
use Rattle.controller.specs.declared.state.Plan.{Plan}
use Rattle.controller.specs.declared.state.Run.{Run}
use Rattle.controller.specs.declared.state.Counters.{Counters}
use Rattle.controller.specs.declared.state.Pause.{Pause}
use Rattle.controller.specs.declared.state.Flags.{Flags}
use Rattle.controller.specs.declared.state.Wires.{Wires}

-- The settings with the one of this code replaced: P 8 speed, 9 slope, A dwell, B watch, C polarity; Q D low-ON, E
-- high-ON.
abbrev pub put : Settings → ℕ → ℕ → Settings
put s code v = record {
  speed = cond (eqb code 8) v s.speed;
  slope = cond (eqb code 9) v s.slope;
  dwell = cond (eqb code 10) v s.dwell;
  polarity = cond (eqb code 12) v s.polarity;
  low = cond (eqb code 13) v s.low;
  high = cond (eqb code 14) v s.high;
  watch = cond (eqb code 11) v s.watch;
}

-- The flags with the status bit of this number replaced.
abbrev pub mark : Flags → ℕ → Bool → Flags
mark f number b = record {
  wrong = cond (eqb number 2) b f.wrong;
  stopped = cond (eqb number 3) b f.stopped;
  emergency = cond (eqb number 5) b f.emergency;
  sensed = cond (eqb number 6) b f.sensed;
}

-- A run by its length, what is gone of it, speed, phase and master, whether it moves and is being stopped, and its
-- ticks in two halves.
abbrev pub run_of : ℕ → ℕ → ℕ → ℕ → ℕ → Bool → Bool → ℕ → ℕ → Run
run_of length gone speed phase master moving stopping ticks rounds = record {
  length = length;
  gone = gone;
  speed = speed;
  phase = phase;
  master = master;
  moving = moving;
  stopping = stopping;
  ticks = ticks;
  rounds = rounds;
}

-- The ticks of the dwell that are left, and the waiting start: 0, or its master and 1; the ticks until a W line's
-- block.
abbrev pub pause_of : ℕ → ℕ → ℕ → Pause
pause_of left waiting block = record { left = left; waiting = waiting; block = block }

-- Hot by its parts, in the order of the code.
abbrev pub hot_of : Plan → Counters → Run → Wires → Pause → ℕ → ℕ → Flags → Hot
hot_of plan counters run wires pause inputs watch flags = record {
  plan = plan;
  counters = counters;
  run = run;
  wires = wires;
  pause = pause;
  inputs = inputs;
  watch = watch;
  flags = flags;
}

-- A controller by its parts: hot, settings, the next move's plan, the characters received, the switch, the
-- identification of the latest W line.
abbrev pub controller_of : Hot → Settings → Plan → Receiver → ℕ → ℕ → Bool → Controller
controller_of hot settings next line switch ident named = record {
  hot = hot;
  cold = record { settings = settings; next = next; line = line; switch = switch; ident = ident; named = named };
}

-- ---- Hot with one part replaced, all others as they are

-- What each axis counts.
abbrev pub with_counters : Hot → Counters → Hot
with_counters h x =
    hot_of h.plan x h.run h.wires h.pause h.inputs h.watch h.flags

-- The latest move.
abbrev pub with_run : Hot → Run → Hot
with_run h x =
    hot_of h.plan h.counters x h.wires h.pause h.inputs h.watch h.flags

-- Whether the move is being stopped.
abbrev pub with_stopping : Hot → Bool → Hot
with_stopping h x =
    with_run h
    (run_of h.run.length h.run.gone h.run.speed h.run.phase h.run.master h.run.moving x
    h.run.ticks h.run.rounds)

-- Its master, with what is held beside it.
abbrev pub with_master : Hot → ℕ → Hot
with_master h x =
    with_run h
    (run_of h.run.length h.run.gone h.run.speed h.run.phase x h.run.moving h.run.stopping
    h.run.ticks h.run.rounds)

-- What the general outputs and each axis add to an output word.
abbrev pub with_wires : Hot → ℕ → Cells → Hot
with_wires h general cells =
    hot_of h.plan h.counters h.run (record { general = general; cells = cells }) h.pause h.inputs
    h.watch h.flags

-- The dwell: the ticks left, and the start that waits.
abbrev pub with_pause : Hot → ℕ → ℕ → Hot
with_pause h left waiting =
    hot_of h.plan h.counters h.run h.wires (pause_of left waiting h.pause.block) h.inputs
    h.watch h.flags

-- The ticks until the block of a W line.
abbrev pub with_block : Hot → ℕ → Hot
with_block h x =
    hot_of h.plan h.counters h.run h.wires (pause_of h.pause.left h.pause.waiting x) h.inputs
    h.watch h.flags

-- The last tick's input word.
abbrev pub with_inputs : Hot → ℕ → Hot
with_inputs h x =
    hot_of h.plan h.counters h.run h.wires h.pause x h.watch h.flags

-- The watch count.
abbrev pub with_watch : Hot → ℕ → Hot
with_watch h x =
    hot_of h.plan h.counters h.run h.wires h.pause h.inputs x h.flags

-- One flag, by the number of its status bit.
abbrev pub with_flag : Hot → ℕ → Bool → Hot
with_flag h number b =
    hot_of h.plan h.counters h.run h.wires h.pause h.inputs h.watch
    (mark h.flags number b)

-- ---- The controller with one part replaced

-- What a tick may alter.
abbrev pub with_hot : Controller → Hot → Controller
with_hot c h = record { hot = h; cold = c.cold }

-- One setting, by its code.
abbrev pub with_setting : Controller → ℕ → ℕ → Controller
with_setting c code v =
    controller_of c.hot (put c.cold.settings code v) c.cold.next c.cold.line c.cold.switch
    c.cold.ident c.cold.named

-- The next move's distances and directions.
abbrev pub with_next : Controller → Plan → Controller
with_next c x =
    controller_of c.hot c.cold.settings x c.cold.line c.cold.switch c.cold.ident c.cold.named

-- The identification of the latest W line, and whether it has one.
abbrev pub with_ident : Controller → ℕ → Bool → Controller
with_ident c ident named =
    controller_of c.hot c.cold.settings c.cold.next c.cold.line c.cold.switch ident named

-- ---- What is read of them

-- An axis's travel.
abbrev pub travel_at : Counters → ℕ → Travel
travel_at c k = get_or c.travels k (record { 0 = 0 })

-- An axis's position, with 524,288 added.
abbrev pub position_at : Counters → ℕ → Position
position_at c k = get_or c.positions k (record { 0 = 0 })

-- Some axis of a plan is blocked by the inputs.
abbrev pub blocked_in : Settings → ℕ → Plan → Bool
blocked_in s inputs p =
    some_blocked s.low s.high inputs (λ k. get_or p.distances k 0) (λ k. get_or p.minus k false)

-- What each axis adds to an output word.
abbrev pub cells_of : ℕ → ℕ → List Bool → Cells
cells_of switch polarity minus = record {
  rests = each (rest_of switch polarity (λ k. get_or minus k false));
  fires = each (fire_of switch polarity (λ k. get_or minus k false));
  still = still_of switch polarity (λ k. get_or minus k false);
}
