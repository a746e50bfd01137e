-- What the machine of paper 01 holds, in the paper's terms. Axes are numbers 0 to 4; what each axis has is a function
-- of it.
use Rattle.std.specs.Prelude.{ℕ, Bool, cond, List, eqb, ℤ, Option}

-- What P 8 to C and Q D, E set: speed V in units of 0.25 Hz, slope a in units of 1.25 kHz/s, dwell in ms.
pub record Settings : Type 0 where
  pub speed : ℕ
  pub slope : ℕ
  pub dwell : ℕ
  pub watch : ℕ
  pub polarity : ℕ
  pub low_on : ℕ
  pub high_on : ℕ

-- A distance and a direction for each axis.
pub record Plan : Type 0 where
  pub distance : ℕ → ℕ
  pub minus : ℕ → Bool

-- The latest move: what it started with, its travels, its speed u in fiftieths of a unit, its phase, the ticks in which
-- its ramp ran (paper 02, 1/14), whether it runs and is being stopped, and whether a distance line was accepted since
-- it began (6/14). Before any move all but that is 0 and plus.
pub record Move : Type 0 where
  pub plan : Plan
  pub master : ℕ
  pub travel : ℕ → ℕ
  pub speed : ℕ
  pub phase : ℕ
  pub ticks : ℕ
  pub moving : Bool
  pub stopping : Bool
  pub replanned : Bool

-- A start that waits for the end of the dwell, with its master.
pub data Waiting : Type 0 where
  none : Waiting
  start : ℕ → Waiting

-- The dwell: the ticks left, and the start that waits.
pub record Pause : Type 0 where
  pub left : ℕ
  pub waiting : Waiting

-- The latest accepted W line (paper 02, 3/14): the accepted ticks until its block, 0 where none is to come, and its
-- identification.
pub record Settle : Type 0 where
  pub left : ℕ
  pub ident : Option ℕ

-- Status bits 2, 3, 5 and 6: wrong master; stopped by order, limit or watch; emergency held; stopped by sensor.
pub record Flags : Type 0 where
  pub wrong_master : Bool
  pub stopped : Bool
  pub emergency : Bool
  pub sensed : Bool

pub record Machine : Type 0 where
  pub switch : ℕ
  pub settings : Settings
  -- the next move's distances and directions
  pub next : Plan
  pub move : Move
  pub position : ℕ → ℤ
  -- the last tick's word, 0 before any
  pub inputs : ℕ
  -- the general outputs
  pub outputs : ℕ
  -- the watch count
  pub watch : ℕ
  pub flags : Flags
  pub pause : Pause
  pub settle : Settle
  -- the characters received since the last 0D
  pub line : List ℕ

-- ---- Each record by its parts: these are the places that name all fields of one.

-- The settings with the one of this code replaced: P 8 speed, 9 slope, A dwell, B watch, C polarity; Q D low-ON, E
-- high-ON.
abbrev pub put : Settings → ℕ → ℕ → Settings
put s code v = record {
  speed = cond (eqb code 8) v s.speed;
  slope = cond (eqb code 9) v s.slope;
  dwell = cond (eqb code 10) v s.dwell;
  watch = cond (eqb code 11) v s.watch;
  polarity = cond (eqb code 12) v s.polarity;
  low_on = cond (eqb code 13) v s.low_on;
  high_on = cond (eqb code 14) v s.high_on;
}

-- The flags with the status bit of this number replaced.
abbrev pub mark : Flags → ℕ → Bool → Flags
mark f number b = record {
  wrong_master = cond (eqb number 2) b f.wrong_master;
  stopped = cond (eqb number 3) b f.stopped;
  emergency = cond (eqb number 5) b f.emergency;
  sensed = cond (eqb number 6) b f.sensed;
}

-- A move by its plan, master, travels, speed, phase and ticks, whether it runs and is being stopped, and whether a
-- distance line was accepted since.
abbrev pub move_of : Plan → ℕ → (ℕ → ℕ) → ℕ → ℕ → ℕ → Bool → Bool → Bool → Move
move_of plan master travel speed phase ticks moving stopping replanned = record {
  plan = plan;
  master = master;
  travel = travel;
  speed = speed;
  phase = phase;
  ticks = ticks;
  moving = moving;
  stopping = stopping;
  replanned = replanned;
}

-- A machine by its parts, in the order above.
abbrev pub machine_of :
    ℕ → Settings → Plan → Move → (ℕ → ℤ) → ℕ → ℕ → ℕ → Flags → Pause → Settle → List ℕ → Machine
machine_of switch settings next move position inputs outputs watch flags pause settle line = record {
  switch = switch;
  settings = settings;
  next = next;
  move = move;
  position = position;
  inputs = inputs;
  outputs = outputs;
  watch = watch;
  flags = flags;
  pause = pause;
  settle = settle;
  line = line;
}

-- The machine with one part replaced, all others as they are.
abbrev pub with_settings : Machine → Settings → Machine
with_settings m x =
    machine_of m.switch x m.next m.move m.position m.inputs m.outputs m.watch m.flags
    m.pause m.settle m.line

abbrev pub with_next : Machine → Plan → Machine
with_next m x =
    machine_of m.switch m.settings x m.move m.position m.inputs m.outputs m.watch m.flags
    m.pause m.settle m.line

abbrev pub with_move : Machine → Move → Machine
with_move m x =
    machine_of m.switch m.settings m.next x m.position m.inputs m.outputs m.watch m.flags
    m.pause m.settle m.line

abbrev pub with_position : Machine → (ℕ → ℤ) → Machine
with_position m x =
    machine_of m.switch m.settings m.next m.move x m.inputs m.outputs m.watch m.flags
    m.pause m.settle m.line

abbrev pub with_inputs : Machine → ℕ → Machine
with_inputs m x =
    machine_of m.switch m.settings m.next m.move m.position x m.outputs m.watch m.flags
    m.pause m.settle m.line

abbrev pub with_outputs : Machine → ℕ → Machine
with_outputs m x =
    machine_of m.switch m.settings m.next m.move m.position m.inputs x m.watch m.flags
    m.pause m.settle m.line

abbrev pub with_watch : Machine → ℕ → Machine
with_watch m x =
    machine_of m.switch m.settings m.next m.move m.position m.inputs m.outputs x m.flags
    m.pause m.settle m.line

abbrev pub with_flags : Machine → Flags → Machine
with_flags m x =
    machine_of m.switch m.settings m.next m.move m.position m.inputs m.outputs m.watch x
    m.pause m.settle m.line

abbrev pub with_pause : Machine → Pause → Machine
with_pause m x =
    machine_of m.switch m.settings m.next m.move m.position m.inputs m.outputs m.watch
    m.flags x m.settle m.line

abbrev pub with_settle : Machine → Settle → Machine
with_settle m x =
    machine_of m.switch m.settings m.next m.move m.position m.inputs m.outputs m.watch
    m.flags m.pause x m.line

abbrev pub with_line : Machine → List ℕ → Machine
with_line m x =
    machine_of m.switch m.settings m.next m.move m.position m.inputs m.outputs m.watch
    m.flags m.pause m.settle x
